use Rattle.sp_outside.proofs.RecordLemmas.{disk_added, kept_same, kept_since}
use Rattle.sp_outside.proofs.planned_keeper.PlannedKeeperKeeper.read.Goals as goal

pub returns-then-is_done-clause-as_before : goal.returns-then-is_done-clause-as_before
returns-then-is_done-clause-as_before c = kept_same _ _ _ c.keep.ensures.kept c.keep.ensures.as_before

pub returns-clause-as_before : goal.returns-clause-as_before
returns-clause-as_before c = kept_same _ _ _ c.keep.ensures.kept c.keep.ensures.as_before

pub returns-then-is_done-clause-moments : goal.returns-then-is_done-clause-moments
returns-then-is_done-clause-moments c = kept_since _ _ _ _ _ c.keep.ensures.kept c.keep.ensures.as_before (λ image h. h)

pub returns-clause-moments : goal.returns-clause-moments
returns-clause-moments c = kept_since _ _ _ _ _ c.keep.ensures.kept c.keep.ensures.as_before (λ image h. h)

pub returns-then-is_done-clause-bytes : goal.returns-then-is_done-clause-bytes
returns-then-is_done-clause-bytes c = rw (← disk_added _ _ _ (c.keep.ensures.kept c.if-keep.true)) c.read.ensures.bytes
