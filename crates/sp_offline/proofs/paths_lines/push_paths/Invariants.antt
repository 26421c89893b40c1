use Rattle.std.proofs.Common.{◌≡◌, ◌++◌, drop}
use Rattle.std.specs.List.{flat_map}
use Rattle.std.specs.String.{string_bytes}
use Rattle.sp_offline.specs.PathsLines.{path_line}
use Rattle.sp_offline.proofs.paths_lines.push_paths.Given as goal

abbrev pub invariant-paths : goal.invariant-paths
invariant-paths l = string_bytes l.out ++ flat_map path_line (drop l.path-index l.paths) ≡ string_bytes l.fn.out ++ flat_map path_line l.paths
