use Rattle.std.proofs.Common.{◌≡◌, ◌+◌, ◌*◌, ◌^◌, arith}
use Rattle.sp_ots.specs.Lanes.{lanes}
use Rattle.sp_lms.specs.Parameters.{height}
use Rattle.sp_lms.specs.Keys.{seed_leaf}
use Rattle.sp_lms.proofs.Growth.{nothing_grown, all_grown}
use Rattle.sp_lms.proofs.Groups.{whole_groups}
use Rattle.sp_lms.proofs.grow.grow_all.Goals as goal

pub groups-init : goal.groups-init
groups-init c = nothing_grown (height c.args.lms) c.args.id.now (seed_leaf c.args.lms c.args.ots c.args.id.now c.args.seed.now) c.args.nodes.now c.requires

pub groups-preserved : goal.groups-preserved
groups-preserved c =
    let next : lanes * c.groups.g + lanes ≡ lanes * (c.groups.g + 1) = omega arith in
    rw next at c.grow_group.ensures

pub returns : goal.returns
returns c =
    let h = height c.args.lms in
    let all : lanes * c.groups.g ≡ 2 ^ h = omega (arith, whole_groups c.args.lms, c.leaf_count.ensures.value) in
    all_grown h c.args.id.now (seed_leaf c.args.lms c.args.ots c.args.id.now c.args.seed.now) c.groups.nodes (rw all at c.groups.invariant)
