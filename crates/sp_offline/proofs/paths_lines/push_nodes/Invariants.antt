use Rattle.std.proofs.Common.{◌≡◌, ◌++◌, drop}
use Rattle.std.specs.List.{flat_map}
use Rattle.std.specs.String.{string_bytes}
use Rattle.sp_offline.specs.PathsLines.{node_text}
use Rattle.sp_offline.proofs.paths_lines.push_nodes.Given as goal

abbrev pub invariant-nodes : goal.invariant-nodes
invariant-nodes l = string_bytes l.out ++ flat_map node_text (drop l.node-index l.path) ≡ string_bytes l.fn.out ++ flat_map node_text l.path
