use Rattle.sp_top.proofs.question.tell_silence.Goals as goal

pub returns-in-Ok-clause-told : goal.returns-in-Ok-clause-told
returns-in-Ok-clause-told g c = rw (c.as_bytes.ensures.value, c.in-Ok.ensures) at c.tell.ensures.told
