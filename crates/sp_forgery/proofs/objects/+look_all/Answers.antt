use Rattle.std.proofs.Common.{◌≡◌, ◌+◌, ◌++◌, ◌∙◌, ℕ, true, Bor, List, Option, Some, None, drop, map, sym, refl, ap}
use Rattle.std.specs.Option.{is_some, option_copied, option_map}
use Rattle.sp_base.proofs.FewLemmas.{drop_first, drop_past}
use Rattle.sp_frame.specs.Views.{as_object}
use Rattle.sp_forgery.specs.Turns.{or_later}
use Rattle.sp_forgery.proofs.objects.+look_all.Goals as goal

-- what was found comes before all that is later
found_first : (found : Option (Bor (List ℕ))) (one two : Option (List ℕ)) → is_some found ≡ true
    → or_later (option_map (λ (b : Bor (List ℕ)). b.now) found) one ≡ or_later (option_map (λ (b : Bor (List ℕ)). b.now) found) two
found_first None one two is = absurd (cc)
found_first (Some b) one two is = refl

pub returns-in_default : goal.returns-in_default
returns-in_default t c =
    let none = sym c.get.ensures.value ∙ ap option_copied c.in_default.is in
    λ os. rw (drop_past c.args.objects.now c.args.place none) refl

pub returns-then-is_some : goal.returns-then-is_some
returns-then-is_some t c =
    let at = sym c.get.ensures.value ∙ ap option_copied c.in-Some.is in
    λ os. rw (drop_first c.args.objects.now c.args.place c.in-Some.object.now at)
    (c.look_at-first.ensures (map as_object (drop (c.args.place + 1) c.args.objects.now) ++ os)
    ∙ found_first c.look_at-first.result.found _ _ (sym c.is_some.ensures ∙ c.if-is_some.true))
