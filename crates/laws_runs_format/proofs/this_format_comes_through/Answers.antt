use Rattle.laws_runs_format.proofs.Opens.{format_comes_through}
use Rattle.laws_runs_format.proofs.this_format_comes_through.Goals as goal

pub returns : goal.returns
returns c = format_comes_through
