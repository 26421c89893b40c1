use Rattle.std.proofs.Common.{◌∷◌, List, ℕ, sym, ap, ◌∙◌}
use Rattle.std.specs.Prelude.{filter}
use Rattle.std.specs.Option.{option_copied}
use Rattle.sp_base.proofs.FewLemmas.{drop_past}
use Rattle.sp_rules.specs.PrioPeer.{waits}
use Rattle.sp_prio.proofs.FlightLemmas.{gone_at, waits_at}
use Rattle.sp_prio.proofs.flight.+waiting.Goals as goal

pub returns-in_default-clause-pairs : goal.returns-in_default-clause-pairs
returns-in_default-clause-pairs t c =
    let past = drop_past c.args.pairs.now c.args.place (sym c.get.ensures.value ∙ ap option_copied c.in_default.is) in
    c.new.ensures ∙ sym (ap (filter (waits c.args.store.now)) past)

pub returns-in-Some-get-clause-pairs : goal.returns-in-Some-get-clause-pairs
returns-in-Some-get-clause-pairs t c =
    let at = sym c.get.ensures.value ∙ ap option_copied c.in-Some.is in
    let there = sym c.get-2.ensures ∙ ap option_copied c.in-Some-get.is in
    c.led_by.ensures ∙ ap (λ (rest : List (ℕ × ℕ)). c.in-Some.pair.now ∷ rest) c.waiting-rest.ensures.pairs
    ∙ sym (waits_at c.args.store.now c.args.pairs.now c.args.place c.in-Some.pair.now c.in-Some-get.field-0.now at there)

pub returns-in-None-clause-pairs : goal.returns-in-None-clause-pairs
returns-in-None-clause-pairs t c =
    let at = sym c.get.ensures.value ∙ ap option_copied c.in-Some.is in
    let none = sym c.get-2.ensures ∙ ap option_copied c.in-None.is in
    c.waiting-rest.ensures.pairs ∙ sym (gone_at c.args.store.now c.args.pairs.now c.args.place c.in-Some.pair.now at none)
