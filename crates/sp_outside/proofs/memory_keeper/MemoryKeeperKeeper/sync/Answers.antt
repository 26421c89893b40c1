use Rattle.std.proofs.Common.{ap, sym, List, ℕ}
use Rattle.sp_outside.specs.Disk.{still}
use Rattle.sp_outside.proofs.DiskLemmas.{bytes_of-still}
use Rattle.sp_outside.proofs.memory_keeper.MemoryKeeperKeeper.sync.Goals as goal

pub returns-clause-synced : goal.returns-clause-synced
returns-clause-synced c = ap (λ (l : List ℕ). still l) (sym (bytes_of-still c.args.self.now.file))
