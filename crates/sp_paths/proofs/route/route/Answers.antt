use Rattle.std.proofs.Common.{arith}
use Rattle.std.specs.Prelude.{Some, None}
use Rattle.sp_paths.specs.Lanes.{FitAll, at}
use Rattle.sp_paths.specs.Trees.{AreTight, GrowsTo}
use Rattle.sp_paths.proofs.RouteLemmas.{rounds_begin, rounds_end, rounds_more}
use Rattle.sp_paths.proofs.route.route.Goals as goal

pub loop-round-init : goal.loop-round-init
loop-round-init c =
    rounds_begin c.args.lanes.now c.args.potential.now c.args.s c.args.t c.args.reached.now c.requires.ready c.requires.zero c.requires.unused
    c.requires.lengths

pub returns-in-None-clause-routed : goal.returns-in-None-clause-routed
returns-in-None-clause-routed c =
    let end : GrowsTo c.loop-round.potential c.args.s c.args.t c.loop-round.lanes c.grow.new.potential c.grow.new.reached None =
    rw c.in-None.is at c.in_ok-tree.ensures in
    rounds_end c.args.lanes.now c.args.potential.now c.args.s c.args.t c.loop-round.round c.loop-round.lanes c.loop-round.potential c.grow.new.potential
    c.loop-round.reached c.grow.new.reached
    end.0 c.loop-round.invariant end.1 c.args.count c.loop-round-test.true end.2 end.3

pub loop-round-preserved : goal.loop-round-preserved
loop-round-preserved c =
    let end : GrowsTo c.loop-round.potential c.args.s c.args.t c.loop-round.lanes c.grow.new.potential c.grow.new.reached (Some c.in-Some.tree.items) =
    rw c.in-Some.is at c.in_ok-tree.ensures in
    let fits : AreTight (at c.grow.new.potential) c.loop-round.lanes c.in-Some.tree.items → FitAll (at c.grow.new.potential) c.loop-round.lanes
    → FitAll (at c.grow.new.potential) c.augment.new.lanes = rw c.as_slice.ensures.value at (c.augment.ensures.fits (at c.grow.new.potential)) in
    rounds_more c.args.lanes.now c.args.potential.now c.args.s c.args.t c.loop-round.round c.loop-round.lanes c.loop-round.potential c.grow.new.potential
    c.loop-round.reached c.grow.new.reached
    c.in-Some.tree.items c.loop-round.invariant end.0 c.augment.new.lanes c.augment.ensures.same fits
    (c.augment.ensures.flow c.loop-round.round c.loop-round.invariant.flow) (omega (arith, c.loop-round-test.true, c.requires.few))
