use Rattle.sp_top.proofs.Outputs.{answers_of, offline_begun, offline_written}
use Rattle.sp_top.proofs.Whole.{offline_whole}
use Rattle.sp_top.proofs.offline.offline.Goals as goal

pub returns-in-Ok-write_all-clause-wrote : goal.returns-in-Ok-write_all-clause-wrote
returns-in-Ok-write_all-clause-wrote g c =
    let answers =
    answers_of c.args.command.now (g.S.Source.left c.args.source.now) c.in-Ok-answer.answered.verdict c.in-Ok-answer.answered.text c.in-Ok.input.bytes.items
    c.in-Ok.input.is_cut
    c.in-Ok.ensures.bytes (rw c.as_slice.ensures.value at c.in-Ok-answer.ensures) in
    rw (c.ended-in-Ok-write_all.ensures, c.status_of.ensures)
    (offline_written _ c.args.command.now c.in-Ok-answer.answered.verdict c.in-Ok-answer.answered.text _ _ answers
    (rw c.as_slice-2.ensures at c.in-Ok-write_all.ensures.whole))

pub returns-clause-wrote : goal.returns-clause-wrote
returns-clause-wrote g c =
    let answers =
    answers_of c.args.command.now (g.S.Source.left c.args.source.now) c.in-Ok-answer.answered.verdict c.in-Ok-answer.answered.text c.in-Ok.input.bytes.items
    c.in-Ok.input.is_cut
    c.in-Ok.ensures.bytes (rw c.as_slice.ensures.value at c.in-Ok-answer.ensures) in
    rw c.ended-in-Err.ensures
    (offline_begun _ c.args.command.now c.in-Ok-answer.answered.verdict c.in-Ok-answer.answered.text _ _ answers
    (rw c.as_slice-2.ensures at c.write_all.ensures.front))

pub returns-in-Ok-write_all-clause-ended : goal.returns-in-Ok-write_all-clause-ended
returns-in-Ok-write_all-clause-ended g c = λ done.
    c.in-Ok.ensures.rest
    (offline_whole c.args.command.now c.in-Ok.input.bytes.items c.in-Ok.input.is_cut c.in-Ok-answer.answered.verdict c.in-Ok-answer.answered.text
    (rw c.as_slice.ensures.value at c.in-Ok-answer.ensures) (rw (c.ended-in-Ok-write_all.ensures, c.status_of.ensures) at done))
