use Rattle.laws_runs_format.proofs.Headline.{every_life, every_run}
use Rattle.laws_runs_format.proofs.every_run.Goals as goal

pub returns-clause-plain : goal.returns-clause-plain
returns-clause-plain c = every_run

pub returns-clause-lives : goal.returns-clause-lives
returns-clause-lives c = every_life
