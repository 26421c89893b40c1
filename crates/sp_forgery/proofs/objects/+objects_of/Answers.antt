use Rattle.std.proofs.Common.{◌≡◌, ◌-◌, ◌∙◌, ℕ, List, [], drop, length, sym, refl, ap, arith, length-drop}
use Rattle.std.specs.Option.{option_copied}
use Rattle.sp_base.proofs.FewLemmas.{drop_past}
use Rattle.sp_forgery.proofs.objects.+objects_of.Goals as goal

-- where nothing is left from a place on, the list is no longer
no_more : {X : Type 0} (xs : List X) (place : ℕ) → drop place xs ≡ [] → 0 ≡ length xs - place
no_more {X} xs place none = omega (arith, length-drop place xs, ap (λ (l : List X). length l) none)

pub returns-in-None-clause-objects : goal.returns-in-None-clause-objects
returns-in-None-clause-objects t c =
    let none = sym c.get.ensures.value ∙ ap option_copied c.in-None.is in
    rw (drop_past c.args.prios.now c.args.place none, c.new.ensures) refl

pub returns-in-None-clause-many : goal.returns-in-None-clause-many
returns-in-None-clause-many t c =
    let none = sym c.get.ensures.value ∙ ap option_copied c.in-None.is in
    rw c.new.ensures (no_more c.args.prios.now c.args.place (drop_past c.args.prios.now c.args.place none))
