use Rattle.sp_outside.proofs.DiskLemmas.{memory_written}
use Rattle.sp_outside.proofs.memory_keeper.MemoryKeeperKeeper.write_at.Goals as goal

pub returns-clause-wrote : goal.returns-clause-wrote
returns-clause-wrote c = memory_written _ _ _ _ c.write.ensures
