use Rattle.std.proofs.Common.{◌≡◌, ◌∙◌, List, Some, ap, arith, sym}
use Rattle.std.specs.Option.{option_copied}
use Rattle.sp_rules.specs.Store.{has_id, victim}
use Rattle.sp_rules.specs.declared.store.Entry.{Entry}
use Rattle.sp_store.proofs.LeftLemmas.{one_less}
use Rattle.sp_store.proofs.IdLemmas.{there_by_id, victim_there}
use Rattle.sp_store.proofs.store.evict.Goals as goal

pub returns-in-Some-clause-entry : goal.returns-in-Some-clause-entry
returns-in-Some-clause-entry c =
    let es : List Entry = c.args.places.now.entries in
    let e : Entry = c.in-Some.entry.now in
    let goes : Some e ≡ victim es = ap (λ r. option_copied r) (sym c.in-Some.is) ∙ c.victim.ensures.entry ∙ ap victim c.slots.ensures.entries in
    c.remove.ensures.entry ∙ there_by_id es e c.slots.ensures.rising (victim_there es e (sym goes)) ∙ goes

pub returns-in-Some-clause-fewer : goal.returns-in-Some-clause-fewer
returns-in-Some-clause-fewer c = λ some.
    let es : List Entry = c.args.places.now.entries in
    let e : Entry = c.in-Some.entry.now in
    let goes : Some e ≡ victim es = ap (λ r. option_copied r) (sym c.in-Some.is) ∙ c.victim.ensures.entry ∙ ap victim c.slots.ensures.entries in
    let less = one_less (has_id e.id) es e (there_by_id es e c.slots.ensures.rising (victim_there es e (sym goes))) in
    rw c.remove.ensures.store (omega (arith, less))
