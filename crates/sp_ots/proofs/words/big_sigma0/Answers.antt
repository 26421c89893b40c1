use Rattle.std.proofs.Common.{ℕ, w32, bit_xor, ◌∙◌, arith}
use Rattle.std.specs.Int.{rotate_right}
use Rattle.sha2.specs.Sha256.{big_sigma0}
use Rattle.sp_ots.proofs.EachLane.{on_each_lane, turned_with}
use Rattle.sp_ots.proofs.Rotations.{rotated_three}
use Rattle.sp_ots.proofs.words.big_sigma0.Goals as goal

pub returns : goal.returns
returns c =
    let turned : ℕ → ℕ → ℕ = λ by n. rotate_right w32 n by in
    let inner = turned_with c.args.x c.rotate_right.result c.rotate_right-2.result (turned 9) 11 c.rotate_right.ensures c.rotate_right-2.ensures in
    let outer = turned_with c.args.x c.rotate_right-2.result c.rotate_right-3.result (λ n. turned 11 (bit_xor n (turned 9 n))) 2 inner
    c.rotate_right-3.ensures in
    outer
    ∙ on_each_lane (λ n. turned 2 (bit_xor n (turned 11 (bit_xor n (turned 9 n))))) big_sigma0 c.args.x
    (λ n fits. rotated_three 32 n 2 11 9 (omega arith) fits) c.fits-x.1
