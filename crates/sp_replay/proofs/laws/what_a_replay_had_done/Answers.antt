use Rattle.sp_replay.proofs.LawLemmas.{all_but_the_last_is_written, nothing_read_is_nothing_done}
use Rattle.sp_replay.proofs.laws.what_a_replay_had_done.Goals as goal

pub returns-clause-nothing : goal.returns-clause-nothing
returns-clause-nothing c = nothing_read_is_nothing_done

pub returns-clause-all_but_the_last : goal.returns-clause-all_but_the_last
returns-clause-all_but_the_last c = all_but_the_last_is_written
