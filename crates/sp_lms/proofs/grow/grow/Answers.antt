use Rattle.std.proofs.Common.{◌≡◌, ◌+◌, ◌-◌, ◌^◌, ◌∙◌, refl, arith}
use Rattle.sp_lms.specs.Parameters.{height}
use Rattle.sp_lms.specs.Keys.{seed_leaf}
use Rattle.sp_lms.proofs.grow.grow.Goals as goal

pub returns : goal.returns
unfolding seed_leaf
returns c =
    let h = height c.args.lms in
    let q = c.args.q in
    let own : 2 ^ h + q - 2 ^ h ≡ q = omega arith in
    let count_is : c.leaf_count.result ≡ 2 ^ h = c.leaf_count.ensures.value in
    c.put.ensures (seed_leaf c.args.lms c.args.ots c.args.id.now c.args.seed.now) c.requires.grown
    (c.leaf_hash-node.ensures ∙ rw (count_is, c.public.ensures, own) refl)
