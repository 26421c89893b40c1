use Rattle.std.proofs.Common.{◌≡◌, ◌++◌, drop}
use Rattle.std.specs.List.{flat_map}
use Rattle.std.specs.String.{string_bytes}
use Rattle.sp_offline.specs.PathsLines.{part_text}
use Rattle.sp_offline.proofs.paths_lines.push_parts.Given as goal

abbrev pub invariant-parts : goal.invariant-parts
invariant-parts l = string_bytes l.out ++ flat_map (part_text l.s l.t) (drop l.part-index l.cut) ≡ string_bytes l.fn.out ++ flat_map (part_text l.s l.t) l.cut
