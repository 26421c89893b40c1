use Rattle.sp_outside.proofs.DiskLemmas.{bytes_of-still}
use Rattle.sp_outside.proofs.memory_keeper.MemoryKeeperKeeper.read.Goals as goal

pub returns-clause-bytes : goal.returns-clause-bytes
returns-clause-bytes c = rw (bytes_of-still c.args.self.now.file) c.read.ensures.bytes
