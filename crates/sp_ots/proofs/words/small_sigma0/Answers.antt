use Rattle.std.proofs.Common.{ℕ, ◌/◌, ◌^◌, w32, bit_xor, ap, ◌∙◌, arith}
use Rattle.std.specs.Int.{rotate_right}
use Rattle.std.proofs.lemmas.Simd.{zip2_of_maps, zip2_splat}
use Rattle.sha2.specs.Sha256.{small_sigma0}
use Rattle.sp_ots.specs.Lanes.{lanes}
use Rattle.sp_ots.proofs.EachLane.{on_each_lane, turned_with}
use Rattle.sp_ots.proofs.Rotations.{rotated_two}
use Rattle.sp_ots.proofs.words.small_sigma0.Goals as goal

pub returns : goal.returns
returns c =
    let turned : ℕ → ℕ → ℕ = λ by n. rotate_right w32 n by in
    let shifted : ℕ → ℕ = λ n. n / 2 ^ 3 in
    let both = turned_with c.args.x c.rotate_right.result c.rotate_right-2.result (turned 11) 7 c.rotate_right.ensures c.rotate_right-2.ensures in
    zip2_of_maps bit_xor (λ n. turned 7 (bit_xor n (turned 11 n))) shifted c.args.x both
    (zip2_splat (λ (n k : ℕ). n / 2 ^ k) c.args.x lanes 3 c.fits-x.0)
    ∙ on_each_lane (λ n. bit_xor (turned 7 (bit_xor n (turned 11 n))) (shifted n)) small_sigma0 c.args.x
    (λ n fits. ap (λ (m : ℕ). bit_xor m (shifted n)) (rotated_two 32 n 7 11 (omega arith) fits)) c.fits-x.1
