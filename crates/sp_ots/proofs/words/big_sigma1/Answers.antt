use Rattle.std.proofs.Common.{ℕ, w32, bit_xor, ◌∙◌, arith}
use Rattle.std.specs.Int.{rotate_right}
use Rattle.sha2.specs.Sha256.{big_sigma1}
use Rattle.sp_ots.proofs.EachLane.{on_each_lane, turned_with}
use Rattle.sp_ots.proofs.Rotations.{rotated_three}
use Rattle.sp_ots.proofs.words.big_sigma1.Goals as goal

pub returns : goal.returns
returns c =
    let turned : ℕ → ℕ → ℕ = λ by n. rotate_right w32 n by in
    let inner = turned_with c.args.x c.rotate_right.result c.rotate_right-2.result (turned 14) 5 c.rotate_right.ensures c.rotate_right-2.ensures in
    let outer = turned_with c.args.x c.rotate_right-2.result c.rotate_right-3.result (λ n. turned 5 (bit_xor n (turned 14 n))) 6 inner
    c.rotate_right-3.ensures in
    outer
    ∙ on_each_lane (λ n. turned 6 (bit_xor n (turned 5 (bit_xor n (turned 14 n))))) big_sigma1 c.args.x
    (λ n fits. rotated_three 32 n 6 5 14 (omega arith) fits) c.fits-x.1
