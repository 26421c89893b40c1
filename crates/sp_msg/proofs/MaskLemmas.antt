-- Bits past the end of a number.
use Rattle.std.proofs.Common.{◌≡◌, ℕ, ◌^◌, ◌<◌, ◌≤◌, ◌/◌, ◌%◌, ◌==◌, false, ap, arith, lit<}
use Rattle.std.proofs.Math.Nat.{div-eq_of_lt, pow-le-pow_right}
use Rattle.sp_msg.specs.Views.{names_edge}

-- a mask of 128 bits names no edge from 128 on
pub names_no_far_edge : (mask edge : ℕ) → mask < 2 ^ 128 → 128 ≤ edge → names_edge mask edge ≡ false
names_no_far_edge mask edge small far =
    let wide : 2 ^ 128 ≤ 2 ^ edge = pow-le-pow_right (lit< tt) far in
    let none : mask / 2 ^ edge ≡ 0 = div-eq_of_lt (omega (arith, wide)) in
    ap (λ q. q % 2 == 1) none
