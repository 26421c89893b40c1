use Rattle.std.proofs.Common.{◌≡◌, ◌++◌, take}
use Rattle.std.specs.List.{flat_map}
use Rattle.std.specs.String.{string_bytes}
use Rattle.sp_lines.specs.Rows.{line_text}
use Rattle.sp_schedule.specs.Spelling.{edge_words}
use Rattle.sp_schedule.proofs.printing.push_edges.Given as goal

abbrev pub invariant-edges : goal.invariant-edges
invariant-edges l = string_bytes l.out ≡ string_bytes l.fn.out ++ flat_map (λ x. line_text (edge_words x)) (take l.edge-index l.edges)
