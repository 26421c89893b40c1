use Rattle.sp_graph.specs.Lines.{After_end}
use Rattle.sp_graph.proofs.line.follow.Goals as goal

pub returns : goal.returns
returns c = rw c.in-End.is After_end
