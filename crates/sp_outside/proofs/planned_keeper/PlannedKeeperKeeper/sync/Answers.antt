use Rattle.std.proofs.Common.{not}
use Rattle.sp_outside.proofs.RecordLemmas.{bytes_after_sync, kept_since, kept_within, synced_as, within_sync}
use Rattle.sp_outside.proofs.planned_keeper.PlannedKeeperKeeper.sync.Goals as goal

pub keep-requires : goal.keep-requires
keep-requires c = bytes_after_sync _ (not c.is_planned-is_done.result)

pub returns-then-is_done-clause-synced : goal.returns-then-is_done-clause-synced
returns-then-is_done-clause-synced c = synced_as _ _ c.is_planned-is_done.result c.if-is_done.true (c.keep.ensures.kept c.if-keep.true)

pub returns-then-is_done-clause-moments : goal.returns-then-is_done-clause-moments
returns-then-is_done-clause-moments c = kept_since _ _ _ _ _ c.keep.ensures.kept c.keep.ensures.as_before (within_sync _ (not c.is_planned-is_done.result))

pub returns-clause-synced : goal.returns-clause-synced
returns-clause-synced c = kept_within _ _ _ _ _ c.keep.ensures.kept c.keep.ensures.as_before (within_sync _ (not c.is_planned-is_done.result)) (λ image h. h)

pub returns-clause-moments : goal.returns-clause-moments
returns-clause-moments c = kept_since _ _ _ _ _ c.keep.ensures.kept c.keep.ensures.as_before (within_sync _ (not c.is_planned-is_done.result))
