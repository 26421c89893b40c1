use Rattle.std.proofs.Common.{◌∙◌, List, sym, ap}
use Rattle.std.specs.List.{list_any}
use Rattle.sp_base.specs.declared.id.NodeId.{NodeId}
use Rattle.sp_graph.specs.Split.{node_arc}
use Rattle.sp_paths.specs.Tests.{passes}
use Rattle.sp_paths.proofs.UsedArcs.{fits_at, uses_node}
use Rattle.sp_paths.proofs.certified.node_fits.Goals as goal

pub returns : goal.returns
returns c =
    let paths = c.args.paths.now.paths in
    let arc = node_arc c.args.node in
    let used = c.any_passes-used.ensures ∙ ap (λ (ps : List (List NodeId)). list_any (λ path. passes path c.args.node) ps) c.as_slice.ensures
    ∙ sym (uses_node paths c.args.node) in
    fits_at c.args.graph.now c.args.s c.args.t c.args.paths.now c.as_slice-2.result.now c.any_passes-used.result arc c.arc_fits.result c.as_slice-2.ensures used
    c.arc_fits.ensures
