use Rattle.std.proofs.Common.{◌≡◌, ℕ, ◌+◌, ◌-◌, ◌/◌, ◌∙◌, map, sum, sym, ap, refl, arith}
use Rattle.std.specs.List.{range_with_len}
use Rattle.std.proofs.lemmas.List.FromFn.{sum_by-map-range_with_len_more}
use Rattle.sp_ots.specs.Parameters.{width, last_step, hash_digit_count}
use Rattle.sp_ots.specs.Strings.{coef}
use Rattle.sp_ots.specs.Digits.{distance, checksum}
use Rattle.sp_ots.proofs.digits.checksum.Goals as goal

pub digits-preserved : goal.digits-preserved
digits-preserved c =
    let f : ℕ → ℕ = λ i. last_step c.args.param - coef c.args.hash.now i (width c.args.param) in
    let i = c.digits.i in
    let here : c.from-distance.result ≡ f i = c.from-distance.ensures ∙ rw (c.last_step.ensures, c.coef.ensures.value) refl in
    record {
      sum =
          ap (λ (n : ℕ). n + c.from-distance.result) c.digits.invariant.sum ∙ ap (λ (n : ℕ). sum (map f (range_with_len 0 i)) + n) here
          ∙ sym (sum_by-map-range_with_len_more (λ (x : ℕ). x) f 0 i i (omega arith));
      most = omega arith;
    }

pub returns : goal.returns
unfolding checksum
returns c =
    let f : ℕ → ℕ = λ i. last_step c.args.param - coef c.args.hash.now i (width c.args.param) in
    let end : c.digits.i ≡ 256 / c.width.result = omega arith in
    let count : c.digits.i ≡ hash_digit_count c.args.param = end ∙ ap (λ (w : ℕ). 256 / w) c.width.ensures in
    let total : c.digits.distance ≡ distance c.args.param c.args.hash.now = c.digits.invariant.sum ∙ ap (λ (n : ℕ). sum (map f (range_with_len 0 n))) count in
    rw (total, c.checksum_shift.ensures) refl
