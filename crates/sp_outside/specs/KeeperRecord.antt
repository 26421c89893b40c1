-- A file in memory that keeps a record of its calls: how the disk beneath it stands after each of them.
use Rattle.std.specs.Prelude.{ℕ, ◌≡◌, true, false, List, [], ◌∷◌, ◌++◌}
use Rattle.sp_outside.specs.Disk.{Disk, after_sync, after_write, still}
use Rattle.sp_outside.specs.declared.keeper_calls.KeeperCall.{KeeperCall}
use Rattle.sp_outside.specs.declared.keeper_calls.KeeperCall.TheVariants.{Read, Synced, Written}

-- the bytes that it began with, all on the disk, and the calls since
pub record Record : Type 0 where
  pub first : List ℕ
  pub calls : List KeeperCall

-- A write that failed is one of which all was done and nothing is sure. A sync that failed did nothing
abbrev pub after_call : Disk → KeeperCall → Disk
after_call disk (Read at len is_done) = disk
after_call disk (Written at bytes is_done) = after_write disk at bytes.items
after_call disk (Synced true) = after_sync disk
after_call disk (Synced false) = disk

-- the disk after these calls
abbrev pub after_calls : Disk → List KeeperCall → Disk
after_calls disk [] = disk
after_calls disk (call ∷ calls) = after_calls (after_call disk call) calls

-- and after each of them
abbrev pub after_each : Disk → List KeeperCall → List Disk
after_each disk [] = []
after_each disk (call ∷ calls) = after_call disk call ∷ after_each (after_call disk call) calls

-- what stands beneath a record now
abbrev pub disk_of : Record → Disk
disk_of told = after_calls (still told.first) told.calls

-- and stood at each moment
abbrev pub past_of : Record → List Disk
past_of told = after_each (still told.first) told.calls

-- one call was added, which left the disk so
pub record Adds (old new : Record) (disk : Disk) : Type 0 where
  pub first : new.first ≡ old.first
  pub call : KeeperCall
  pub calls : new.calls ≡ old.calls ++ call ∷ []
  pub left : disk ≡ after_call (disk_of old) call
