use Rattle.std.proofs.Common.{◌≡◌, ◌+◌, arith}
use Rattle.sp_ots.specs.Lanes.{lanes}
use Rattle.sp_lms.specs.Keys.{seed_leaf}
use Rattle.sp_lms.proofs.Groups.{leaf_at}
use Rattle.sp_lms.proofs.grow.grow_group.Goals as goal

pub leaves-init : goal.leaves-init
leaves-init c =
    let first : c.args.q + 0 ≡ c.args.q = omega arith in
    rw first c.requires.grown

pub leaves-preserved : goal.leaves-preserved
leaves-preserved c =
    let q = c.args.q in
    let k = c.leaves.k in
    let leaf = seed_leaf c.args.lms c.args.ots c.args.id.now c.args.seed.now in
    let next : q + k + 1 ≡ q + (k + 1) = omega arith in
    let here = leaf_at c.args.lms c.args.ots c.args.id.now c.args.seed.now q k c.publics-keys.result c.leaf_hash-node.result c.leaf_count.result (omega arith)
    c.leaf_count.ensures.value c.publics-keys.ensures c.leaf_hash-node.ensures in
    rw next at (c.put.ensures leaf c.leaves.invariant here)

pub returns : goal.returns
returns c =
    let all : c.leaves.k ≡ lanes = omega arith in
    rw all at c.leaves.invariant
