use Rattle.std.proofs.Common.{ℕ, ◌<◌, ◌+◌, ◌*◌, length, take, refl, arith, ◌∙◌}
use Rattle.std.proofs.lemmas.List.{length-set, take_more_set}
use Rattle.std.proofs.lemmas.List.Elements.{All-replicate, All-set}
use Rattle.sp_text.proofs.Digits.{nothing_read, pair_more}
use Rattle.sp_text.proofs.hex_word.of_pairs.Goals as goal

pub pairs-init : goal.pairs-init
pairs-init c = record {
  spelled = nothing_read _ refl;
  count = omega (arith, c.in_ok-bytes.ensures.len, c.in_ok-bytes.bytes.ok);
  bytes = rw (c.in_ok-bytes.ensures.items_if_clones_equal (λ y same. same)) (All-replicate (λ (b : ℕ). b < 256) _ 0 (omega arith));
}

pub pairs-preserved : goal.pairs-preserved
pairs-preserved c =
    let digits = c.args.digits.now in
    let out = c.pairs.bytes.items in
    let place = c.pairs.place in
    let high = c.value.ensures in
    let low = c.value-in-pairs.ensures in
    let byte = c.value.result * 16 + c.value-in-pairs.result in
    let inside : place < length out = omega (arith, c.pairs-test.true, c.len-place-end.ensures, c.in_ok-bytes.ensures.len, c.pairs.invariant.count) in
    let pair_inside : 2 * place + 1 < length digits = omega (arith, inside, c.pairs.invariant.count) in
    record {
      spelled =
          pair_more digits (take place out) _ place c.value.result c.value-in-pairs.result pair_inside c.pairs.invariant.spelled
          high.spelled low.spelled low.small (take_more_set out place byte inside);
      count = length-set out place byte ∙ c.pairs.invariant.count;
      bytes = All-set (λ (b : ℕ). b < 256) out place byte (omega (arith, high.small, low.small)) c.pairs.invariant.bytes;
    }
