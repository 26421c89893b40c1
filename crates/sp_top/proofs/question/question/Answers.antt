use Rattle.std.proofs.Common.{Err, ap, inr}
use Rattle.sp_top.proofs.Services.{forgotten, replied, unanswered, unopened}
use Rattle.sp_top.proofs.question.question.Goals as goal

pub returns-in-Ok-clause-ends : goal.returns-in-Ok-clause-ends
returns-in-Ok-clause-ends g c = λ clock file.
    replied c.args.asked c.as_bytes.result _ c.in-Ok.reply _ _ clock file _ _ c.as_bytes.ensures.value c.in-Ok.ensures.reply c.tell_reply.ensures.told

pub returns-in-Err-Unanswered-clause-ends : goal.returns-in-Err-Unanswered-clause-ends
returns-in-Err-Unanswered-clause-ends g c = λ clock file.
    unanswered c.args.asked c.as_bytes.result _ _ _ clock file _ _ c.as_bytes.ensures.value
    (c.in-Err-Unanswered.ensures.unanswered (ap Err c.in-Err-Unanswered.field-0-is))
    c.tell_silence.ensures.told

pub returns-in-Err-Unopened-clause-ends : goal.returns-in-Err-Unopened-clause-ends
returns-in-Err-Unopened-clause-ends g c = λ clock file.
    unopened c.args.asked c.as_bytes.result _ _ _ clock file _ _ c.as_bytes.ensures.value
    (c.in-Err-Unopened.ensures.unopened (ap Err c.in-Err-Unopened.field-0-is))
    c.tell.ensures.told

pub returns-in-Err-Unopened-clause-opens : goal.returns-in-Err-Unopened-clause-opens
returns-in-Err-Unopened-clause-opens g c = λ wire sink. absurd (wire (c.tell.ensures.others sink))

pub returns-in-Err-Memory-clause-ends : goal.returns-in-Err-Memory-clause-ends
returns-in-Err-Memory-clause-ends g c = rw c.ended.ensures (λ clock file.
    forgotten c.args.asked _ _ clock file _ (ap g.W.Wire.told (c.in-Err-Memory.ensures.untouched (inr (ap Err c.in-Err-Memory.field-0-is)))))
