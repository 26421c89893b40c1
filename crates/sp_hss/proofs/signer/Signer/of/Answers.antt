use Rattle.std.proofs.Common.{◌≡◌, ◌≤◌, ◌+◌, ◌-◌, ◌*◌, ◌/◌, ◌++◌, ℕ, List, min, sym, subst, ◌∙◌, ap, length, refl, arith}
use Rattle.std.specs.Vec.{with_items}
use Rattle.std.proofs.lemmas.List.{with_items_is}
use Rattle.std.proofs.lemmas.Nat.{pow_pos}
use Rattle.sp_ots.specs.Strings.{u32str}
use Rattle.sp_lms.specs.Key.{Key}
use Rattle.sp_lms.specs.Growing.{Growing}
use Rattle.sp_lms.specs.Keys as keys
use Rattle.sp_lms.specs.Parameters.{height, leaf_count}
use Rattle.sp_hss.specs.KeyTree.{tree_key, front_of, total}
use Rattle.sp_hss.specs.SeedKey.{SeedKey}
use Rattle.sp_hss.specs.Tree.{tree_with, tree_growing}
use Rattle.sp_hss.specs.At.{AreAt}
use Rattle.sp_hss.specs.declared.tree.Tree.TheVariants.{Upper, Lower}
use Rattle.sp_hss.proofs.Lengths.{length-front_of, starts_at}
use Rattle.sp_hss.proofs.signer.Signer.of.Goals as goal
use Rattle.sp_hss.proofs.signer.Signer.of.Goals.{then-from-leaves, else-from-leaves}

pub invariant_of-result : goal.invariant_of-result
unfolding front_of
invariant_of-result c =
    let k = c.key.inside in
    let h = k.height in
    let seed = k.seed in
    let n = leaf_count h in
    let within : c.args.upto ≤ total h = subst (λ (v : SeedKey). c.args.upto ≤ total v.height) (sym c.key.view_is) c.requires.within in
    let from = c.args.from in
    let t = c.min-tree.result in
    let leaves : c.from-leaves.result ≡ n = c.from-leaves.ensures ∙ c.leaf_count.ensures.value in
    let t_is : t ≡ min (from / n) (n - 1) = c.min-tree.ensures ∙ rw leaves refl in
    let start = starts_at n from t (pow_pos (height h)) (omega (arith, c.requires.ordered, within)) t_is in
    let before : c.skip_to.new.self ≡ tree_with h seed Upper t = c.skip_to.ensures ∙ ap (λ (v : Key). record v { used = t }) c.key.invariant in
    let upper : c.write_front.new.upper ≡ tree_with h seed Upper (t + 1) =
    c.write_front.ensures.upper ∙ ap (λ (v : Key). record v { used = v.used + 1 }) before in
    let tree : c.write_front.new.upper.used - 1 ≡ t = ap (λ (v : Key). v.used - 1) upper ∙ omega arith in
    let key : c.public.result ≡ tree_key h seed (Lower t) = c.public.ensures ∙ ap (λ (v : Key). keys.public_key v.lms v.ots v.id v.seed) c.in-Ok.ensures.ok in
    let front : c.write_front.new.front ≡ front_of h seed t =
    c.write_front.ensures.front
    ∙ ap (λ (k : List ℕ). (let v = c.skip_to.new.self in u32str 1 ++ keys.signature v.lms v.ots v.id v.seed v.used k ++ k)) key
    ∙ ap (λ (v : Key). (let k = tree_key h seed (Lower t) in u32str 1 ++ keys.signature v.lms v.ots v.id v.seed v.used k ++ k)) before in
    let long : length c.write_front.new.front ≡ c.in-Ok-vec.front.len =
    ap length front ∙ length-front_of h seed t ∙ sym c.front_len.ensures ∙ sym c.in-Ok-vec.ensures.len in
    let place : c.from.result * c.from-leaves.result ≡ t * n = rw (c.from.ensures, leaves) refl in
    let lower : c.skip_to-2.new.self ≡ tree_with h seed (Lower t) (from - t * n) =
    c.skip_to-2.ensures ∙ ap (λ (v : Key). record v { used = from - c.from.result * c.from-leaves.result }) c.in-Ok.ensures.ok
    ∙ ap (λ (x : ℕ). tree_with h seed (Lower t) (from - x)) place in
    let used : c.skip_to-2.new.self.used ≡ from - t * n = ap (λ (v : Key). v.used) lower in
    let ahead = c.in-Ok-growing.ensures.ok in
    let grown : c.in-Ok-growing.next.grown ≡ c.if-from-leaves.grown = ap (λ (v : Growing). v.grown) ahead in
    let at : AreAt h seed t from c.write_front.new.upper c.skip_to-2.new.self c.in-Ok-growing.next
    (with_items c.in-Ok-vec.front c.write_front.new.front).items = record {
      tree = start.tree;
      upper_is = upper;
      lower_is = lower ∙ ap (tree_with h seed (Lower t)) (sym used);
      next_is = ahead ∙ ap (tree_growing h seed (Lower (t + 1))) (sym grown);
      beside = λ more. elim c.if-from-leaves.branch [
        | then-from-leaves w ↦ omega (arith, grown, w.grown-is, used, place)
        | else-from-leaves w ↦ absurd (omega (arith, w.if-from-leaves.false, leaves, c.from-2.ensures, more))
      ];
      front_is = with_items_is c.in-Ok-vec.front c.write_front.new.front long ∙ front;
      index_is = start.index ∙ ap (λ (x : ℕ). t * n + x) (sym used);
      leaf = omega (arith, start.leaf, used);
    } in
    record { at = rw tree at; reserved = c.requires.ordered; within = within }
