use Rattle.std.proofs.lemmas.Bool.{iff_false}
use Rattle.sp_graph.specs.Lines.{No_form, Version_line}
use Rattle.sp_graph.proofs.line.after_start.Goals as goal

pub returns-then-is_version : goal.returns-then-is_version
returns-then-is_version c = Version_line (c.is_version.ensures.0 c.if-is_version.true)

pub returns-else-is_version : goal.returns-else-is_version
returns-else-is_version c = No_form (iff_false c.is_version.ensures c.if-is_version.false)
