use Rattle.std.proofs.Common.{◌≡◌, ℕ, Bool, List, filter, length, sym, ap, ap₂, ◌∙◌, ◌+◌, arith}
use Rattle.std.specs.Prelude.{◌==◌}
use Rattle.std.specs.List.{list_any, range_with_len}
use Rattle.sp_runs.specs.Held.{Held}
use Rattle.sp_audit.proofs.ShareLemmas.{all_ids, count_more, one_at_most}
use Rattle.sp_audit.proofs.share.sources.Goals as goal

pub ids-preserved : goal.ids-preserved
ids-preserved c =
    let p : ℕ → Bool = λ id. list_any (λ (h : Held). h.src == id) c.args.held.now in
    let most = one_at_most (p c.ids.id) in
    record {
      counted = ap₂ (λ (a b : ℕ). a + b) c.ids.invariant.counted c.one_if-sources.ensures ∙ sym (count_more p c.ids.id);
      few = omega (arith, c.ids.invariant.few, c.one_if-sources.ensures, most);
    }

pub returns : goal.returns
returns c =
    let p : ℕ → Bool = λ id. list_any (λ (h : Held). h.src == id) c.args.held.now in
    let all : c.ids.id ≡ 256 = omega (arith, c.ids.auto.id-end, c.ids-test.false) in
    c.ids.invariant.counted ∙ ap (λ (n : ℕ). length (filter p (range_with_len 0 n))) all ∙ ap (λ (xs : List ℕ). length (filter p xs)) all_ids
