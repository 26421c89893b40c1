use Rattle.std.proofs.Common.{◌≡◌, ◌+◌, ◌^◌, length, sym, ◌∙◌, ap, arith}
use Rattle.sp_lms.specs.Growing.{Growing}
use Rattle.sp_lms.specs.Parameters.{height, leaf_count}
use Rattle.sp_lms.specs.Keys.{seed_leaf}
use Rattle.sp_lms.specs.Nodes.{HasNodes}
use Rattle.sp_lms.proofs.Growth.{nothing_grown, all_grown}
use Rattle.sp_lms.proofs.growing.GrowingKey.replace.Goals as goal

pub invariant_of-self : goal.invariant_of-self
invariant_of-self c =
    let long : length c.swap-3.new.x.items ≡ 2 ^ (height c.swap.new.x + 1) = rw (c.swap-3.ensures.x_after, c.swap.ensures.x_after) c.key.invariant.tree.count in
    record {
      within = omega arith;
      tree = nothing_grown (height c.swap.new.x) c.args.id (seed_leaf c.swap.new.x c.swap-2.new.x c.args.id c.args.seed) c.swap-3.new.x.items long;
    }

pub invariant_of-key : goal.invariant_of-key
invariant_of-key c =
    let k = c.self.inside in
    let whole : k.grown ≡ leaf_count k.lms =
    ap (λ (v : Growing). v.grown) c.self.view_is ∙ c.requires ∙ sym (ap (λ (v : Growing). leaf_count v.lms) c.self.view_is) in
    let tree : HasNodes (height k.lms) k.id (seed_leaf k.lms k.ots k.id k.seed) k.nodes.items =
    all_grown (height k.lms) k.id (seed_leaf k.lms k.ots k.id k.seed) k.nodes.items (rw whole at c.self.invariant.tree) in
    record {
      within = omega arith;
      tree = rw (c.swap.ensures.y_after, c.swap-2.ensures.y_after, c.swap-3.ensures.y_after) tree;
    }
