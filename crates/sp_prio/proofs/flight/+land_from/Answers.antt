use Rattle.std.proofs.Common.{◌∷◌, List, ℕ, sym, ap, ◌∙◌}
use Rattle.std.specs.Prelude.{filter}
use Rattle.std.specs.Option.{option_copied}
use Rattle.sp_base.proofs.FewLemmas.{drop_past}
use Rattle.sp_rules.specs.PrioPeer.{lands, left_effects, less_all}
use Rattle.sp_rules.specs.Told.{told}
use Rattle.sp_prio.proofs.FlightLemmas.{above_stays, fails_at, passes_at, stays, within_stays}
use Rattle.sp_rules.proofs.ToldLemmas.{told_none}
use Rattle.sp_prio.proofs.flight.+land_from.Goals as goal

pub returns-in_default-clause-pairs : goal.returns-in_default-clause-pairs
returns-in_default-clause-pairs t c =
    let past = drop_past c.args.pairs.now c.args.place (sym c.get.ensures.value ∙ ap option_copied c.in_default.is) in
    c.new.ensures ∙ sym (ap (filter (stays c.args.number)) past)

pub returns-in_default-clause-store : goal.returns-in_default-clause-store
returns-in_default-clause-store t c =
    let past = drop_past c.args.pairs.now c.args.place (sym c.get.ensures.value ∙ ap option_copied c.in_default.is) in
    sym (ap (λ (xs : List (ℕ × ℕ)). less_all c.args.store.now (filter (lands c.args.number) xs)) past)

pub returns-in_default-clause-told : goal.returns-in_default-clause-told
returns-in_default-clause-told t c =
    let past = drop_past c.args.pairs.now c.args.place (sym c.get.ensures.value ∙ ap option_copied c.in_default.is) in
    sym (ap (λ (xs : List (ℕ × ℕ)). told c.args.out.now (left_effects c.args.peer c.args.store.now (filter (lands c.args.number) xs))) past
    ∙ told_none c.args.out.now)

pub returns-then-pair-number-clause-pairs : goal.returns-then-pair-number-clause-pairs
returns-then-pair-number-clause-pairs t c =
    let at = sym c.get.ensures.value ∙ ap option_copied c.in-Some.is in
    c.led_by.ensures ∙ ap (λ (rest : List (ℕ × ℕ)). c.in-Some.pair.now ∷ rest) c.land_from-rest.ensures.pairs
    ∙ sym (passes_at (stays c.args.number) c.args.pairs.now c.args.place c.in-Some.pair.now at
    (above_stays c.args.number c.in-Some.pair.now c.if-pair-number.true))

pub returns-clause-pairs : goal.returns-clause-pairs
returns-clause-pairs t c =
    let at = sym c.get.ensures.value ∙ ap option_copied c.in-Some.is in
    c.land_from.ensures.pairs
    ∙ sym (fails_at (stays c.args.number) c.args.pairs.now c.args.place c.in-Some.pair.now at
    (within_stays c.args.number c.in-Some.pair.now c.if-pair-number.false))
