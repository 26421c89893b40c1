use Rattle.std.proofs.Common.{List, ap, ◌∙◌}
use Rattle.sp_rules.specs.declared.store.Entry.{Entry}
use Rattle.sp_store.proofs.ChosenLemmas.{some_chosen, victim_is}
use Rattle.sp_store.proofs.FreeLemmas.{all_free}
use Rattle.sp_store.specs.Places.{live}
use Rattle.sp_rules.specs.Store.{free}
use Rattle.sp_store.specs.Wanted.{choice}
use Rattle.sp_store.specs.declared.choice.Wanted.TheVariants.{LowestPriority}
use Rattle.sp_store.proofs.choice.victim.Goals as goal

pub returns-clause-entry : goal.returns-clause-entry
returns-clause-entry c =
    c.chosen.ensures ∙ ap (λ (es : List Entry). choice LowestPriority es c.fullest-src.result)
    (ap (λ flight. free flight (live c.args.slots.now)) c.new.ensures ∙ all_free (live c.args.slots.now))
    ∙ victim_is (live c.args.slots.now) c.fullest-src.result c.fullest-src.ensures.source

pub returns-clause-some : goal.returns-clause-some
returns-clause-some c = λ some. some_chosen LowestPriority (live c.args.slots.now) c.fullest-src.result c.chosen.result (c.fullest-src.ensures.some some)
    (c.chosen.ensures ∙ ap (λ (es : List Entry). choice LowestPriority es c.fullest-src.result)
    (ap (λ flight. free flight (live c.args.slots.now)) c.new.ensures ∙ all_free (live c.args.slots.now)))
