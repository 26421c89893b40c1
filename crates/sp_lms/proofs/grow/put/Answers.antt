use Rattle.std.proofs.Common.{◌≡◌, ◌+◌, ◌*◌, ◌/◌, ◌%◌, ◌^◌, ℕ, sym, ◌∙◌, ap, arith}
use Rattle.std.proofs.Math.Nat.{div-one}
use Rattle.std.proofs.lemmas.List.{length-set}
use Rattle.sp_lms.specs.Parameters.{height}
use Rattle.sp_lms.proofs.Ancestors.{half_more}
use Rattle.sp_lms.proofs.Growth.{leaf_grown, node_grown, grown_at_first, grown_at_root}
use Rattle.sp_lms.proofs.grow.put.Goals as goal

pub levels-init : goal.levels-init
levels-init c =
    let h = height c.args.lms in
    let q = c.args.q in
    let count = c.leaf_count.result in
    let count_is : count ≡ 2 ^ h = c.leaf_count.ensures.value in
    record {
      this = rw count_is (sym (div-one (2 ^ h + q)));
      next = rw count_is (sym (div-one (2 ^ h + q + 1)));
      count = length-set c.args.nodes.now (count + q) c.args.node.now ∙ c.requires.count;
      grown = λ leaf held here. rw count_is (leaf_grown q h c.args.id.now leaf c.args.nodes.now c.args.node.now c.requires.leaf held here);
    }

pub levels-preserved : goal.levels-preserved
levels-preserved c =
    let h = height c.args.lms in
    let n = 2 ^ h + c.args.q in
    let held = c.levels.invariant in
    let half = c.levels.r / 2 in
    let odd : 2 * half + 1 ≡ c.levels.r = omega arith in
    let next : (c.levels.r + 1) / 2 ≡ half + 1 = omega arith in
    record {
      this = ap (λ (k : ℕ). k / 2) held.this ∙ half_more n c.levels.level;
      next = sym next ∙ ap (λ (k : ℕ). k / 2) held.next ∙ half_more (n + 1) c.levels.level;
      count = length-set c.levels.nodes half c.inner_hash.result ∙ held.count;
      grown = λ leaf before here.
          node_grown c.levels.level c.args.q h half c.args.id.now leaf c.levels.nodes c.inner_hash.result
          (omega (arith, c.height-level-end.ensures.value)) c.requires.leaf (held.grown leaf before here) (odd ∙ held.this) (omega (arith, odd, held.next))
          c.inner_hash.ensures;
    }

pub returns-after-levels : goal.returns-after-levels
returns-after-levels c = λ leaf before here.
    let h = height c.args.lms in
    let top : c.levels.level ≡ h = omega (arith, c.height-level-end.ensures.value) in
    grown_at_root c.args.q h c.args.id.now leaf c.levels.nodes (rw top at (c.levels.invariant.grown leaf before here))

pub returns-then-r-eq0 : goal.returns-then-r-eq0
returns-then-r-eq0 c = λ leaf before here.
    let h = height c.args.lms in
    let n = 2 ^ h + c.args.q in
    let held = c.levels.invariant in
    let even : n / 2 ^ c.levels.level % 2 ≡ 0 = rw (← held.this) c.if-r-eq0.true in
    let next : (n + 1) / 2 ^ c.levels.level ≡ n / 2 ^ c.levels.level + 1 = sym held.next ∙ ap (λ (k : ℕ). k + 1) held.this in
    grown_at_first c.levels.level c.args.q h c.args.id.now leaf c.levels.nodes (held.grown leaf before here) even next
