use Rattle.std.proofs.Common.{◌≡◌, ℕ, ◌-◌, ◌*◌, ◌/◌, ◌%◌, ◌^◌, bit_or, refl, ◌∙◌, arith}
use Rattle.std.proofs.lemmas.Simd.{zip2_of_maps, zip2_splat}
use Rattle.sp_ots.specs.Lanes.{lanes}
use Rattle.sp_ots.proofs.words.rotate_right.Goals as goal

pub returns : goal.returns
returns c =
    let by = c.args.by in
    let x = c.args.x in
    let low : by % 32 ≡ by = omega arith in
    let high : (32 - by % 32) % 32 ≡ 32 - by = omega arith in
    zip2_of_maps bit_or (λ n. n / 2 ^ by) (λ n. n * 2 ^ (32 - by) % 2 ^ 32) x
    (zip2_splat (λ (n k : ℕ). n / 2 ^ k) x lanes by c.fits-x.0) (zip2_splat (λ (n k : ℕ). n * 2 ^ k % 2 ^ 32) x lanes (32 - by) c.fits-x.0)
    ∙ rw (high, low) refl
