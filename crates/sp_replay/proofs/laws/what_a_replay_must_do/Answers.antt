use Rattle.sp_replay.proofs.LawLemmas.{empty_texts_are_refused, harmless_schedules_are_run}
use Rattle.sp_replay.proofs.laws.what_a_replay_must_do.Goals as goal

pub returns-clause-run : goal.returns-clause-run
returns-clause-run c = harmless_schedules_are_run

pub returns-clause-refused : goal.returns-clause-refused
returns-clause-refused c = empty_texts_are_refused
