use Rattle.sp_outside.proofs.DiskLemmas.{within_write}
use Rattle.sp_outside.proofs.RecordLemmas.{kept_since, kept_within, written_as}
use Rattle.sp_outside.proofs.planned_keeper.PlannedKeeperKeeper.write_at.Goals as goal

pub returns-then-is_done-clause-wrote : goal.returns-then-is_done-clause-wrote
returns-then-is_done-clause-wrote c = written_as _ _ _ _ (c.write.ensures.kept c.if-write.true)

pub returns-then-is_done-clause-moments : goal.returns-then-is_done-clause-moments
returns-then-is_done-clause-moments c = kept_since _ _ _ _ _ c.write.ensures.kept c.write.ensures.as_before (λ image h. h)

pub returns-clause-wrote : goal.returns-clause-wrote
returns-clause-wrote c = kept_within _ _ _ _ _ c.write.ensures.kept c.write.ensures.as_before (λ image h. h) (within_write _ c.args.at c.args.bytes.now)

pub returns-clause-moments : goal.returns-clause-moments
returns-clause-moments c = kept_since _ _ _ _ _ c.write.ensures.kept c.write.ensures.as_before (λ image h. h)
