use Rattle.laws_runs_format.proofs.Opens.{schedules_deliver, schedules_deliver_in_lives, schedules_return, schedules_return_in_lives, schedules_tell_starts}
use Rattle.laws_runs_format.proofs.schedules_deliver_in_rounds.Goals as goal

pub returns-clause-delivered : goal.returns-clause-delivered
returns-clause-delivered c = schedules_deliver

pub returns-clause-returned : goal.returns-clause-returned
returns-clause-returned c = schedules_return

pub returns-clause-told : goal.returns-clause-told
returns-clause-told c = schedules_tell_starts

pub returns-clause-delivered_in_lives : goal.returns-clause-delivered_in_lives
returns-clause-delivered_in_lives c = schedules_deliver_in_lives

pub returns-clause-returned_in_lives : goal.returns-clause-returned_in_lives
returns-clause-returned_in_lives c = schedules_return_in_lives
