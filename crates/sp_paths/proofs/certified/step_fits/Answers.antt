use Rattle.std.proofs.Common.{◌∙◌, List, sym, ap}
use Rattle.std.specs.List.{list_any}
use Rattle.sp_base.specs.declared.id.NodeId.{NodeId}
use Rattle.sp_graph.specs.Split.{edge_arc}
use Rattle.sp_paths.specs.Tests.{goes}
use Rattle.sp_paths.proofs.UsedArcs.{fits_at, uses_step}
use Rattle.sp_paths.proofs.certified.step_fits.Goals as goal

pub returns : goal.returns
returns c =
    let paths = c.args.paths.now.paths in
    let arc = edge_arc c.args.u c.args.v c.args.weight in
    let used = c.any_goes-used.ensures ∙ ap (λ (ps : List (List NodeId)). list_any (λ path. goes path c.args.u c.args.v) ps) c.as_slice.ensures
    ∙ sym (uses_step paths c.args.u c.args.v c.args.weight) in
    fits_at c.args.graph.now c.args.s c.args.t c.args.paths.now c.as_slice-2.result.now c.any_goes-used.result arc c.arc_fits.result c.as_slice-2.ensures used
    c.arc_fits.ensures
