use Rattle.sp_replay.proofs.generated.generate.Goals as goal

pub returns-in-Ok-write_all-clause-wrote : goal.returns-in-Ok-write_all-clause-wrote
returns-in-Ok-write_all-clause-wrote g c = (c.in-Ok.ensures.run, rw (c.as_bytes.ensures.value, c.in-Ok-told.ensures) at c.in-Ok-write_all.ensures.whole)

pub returns-clause-wrote : goal.returns-clause-wrote
returns-clause-wrote g c = (c.in-Ok.ensures.run, rw (c.as_bytes.ensures.value, c.in-Ok-told.ensures) at c.write_all.ensures.front)
