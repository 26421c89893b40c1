-- Effects that are told one after another.
use Rattle.std.proofs.Common.{◌≡◌, ℕ, ◌-◌, List, [], ◌++◌, length, ap, ◌∙◌, arith, append-nil, append_assoc, length-append}
use Rattle.sp_msg.specs.Caused.{Caused}
use Rattle.sp_msg.specs.declared.effect.Effect.{Effect}
use Rattle.sp_rules.specs.Told.{told}

caused : List Effect → ℕ → Caused
caused list room = record { list = list; room = room }

-- telling nothing changes nothing
pub told_none : (c : Caused) → told c [] ≡ c
unfolding caused
told_none c = ap (λ (es : List Effect). caused es (c.room - 0)) (append-nil c.list) ∙ ap (caused c.list) (let e : c.room - 0 ≡ c.room = omega arith in e)

-- telling twice tells all in order
pub told_both : (c : Caused) (xs ys : List Effect) → told (told c xs) ys ≡ told c (xs ++ ys)
unfolding caused
told_both c xs ys =
    ap (λ (es : List Effect). caused es (c.room - length xs - length ys)) (append_assoc c.list xs ys)
    ∙ ap (caused (c.list ++ (xs ++ ys))) (let e : c.room - length xs - length ys ≡ c.room - length (xs ++ ys) = omega (arith, length-append xs ys) in e)
