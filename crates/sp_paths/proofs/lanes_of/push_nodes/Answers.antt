use Rattle.sp_paths.proofs.LaneLists.{push_node}
use Rattle.sp_paths.proofs.lanes_of.push_nodes.Goals as goal

pub loop-place-preserved : goal.loop-place-preserved
loop-place-preserved c = record {
  arcs = push_node c.args.s c.args.t c.args.lanes.now.items c.loop-place.lanes.items c.push_arc.new.lanes.items c.loop-place.place c.loop-place.invariant.arcs
      c.in_ok-push_arc.ensures.arcs;
  fresh = c.push_arc.ensures.fresh;
}
