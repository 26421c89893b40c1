use Rattle.laws_runs_format.proofs.ReadBack.{format_carries}
use Rattle.laws_runs_format.proofs.this_format_carries_bytes.Goals as goal

pub returns : goal.returns
returns c = format_carries
