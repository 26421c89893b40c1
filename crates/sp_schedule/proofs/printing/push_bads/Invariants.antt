use Rattle.std.proofs.Common.{◌≡◌, ◌++◌, take}
use Rattle.std.specs.List.{flat_map}
use Rattle.std.specs.String.{string_bytes}
use Rattle.sp_lines.specs.Rows.{line_text}
use Rattle.sp_schedule.specs.Spelling.{bad_words}
use Rattle.sp_schedule.proofs.printing.push_bads.Given as goal

abbrev pub invariant-bad : goal.invariant-bad
invariant-bad l = string_bytes l.out ≡ string_bytes l.fn.out ++ flat_map (λ x. line_text (bad_words x)) (take l.id-index l.bad)
