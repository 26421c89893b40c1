-- What the images of a disk are, against what a crash may do to one.
use Rattle.std.specs.Prelude.{ℕ, ◌≡◌, ◌+◌, ◌<◌, List, length, get_or, slice_get, Some}
use Rattle.sp_outside.specs.Disk.{Disk, IsImage, after_sync, after_write, bytes_of, patched, still}

-- what a read gives is an image
abbrev pub AReadGivesAnImage : Type 0
AReadGivesAnImage = (disk : Disk) → IsImage disk (bytes_of disk)

-- and after a sync the only one
abbrev pub ASyncLeavesOneImage : Type 0
ASyncLeavesOneImage = (disk : Disk) (image : List ℕ) → IsImage (after_sync disk) image → image ≡ bytes_of disk

-- each image before a write is one after it
abbrev pub AWriteTakesNoImage : Type 0
AWriteTakesNoImage = (disk : Disk) (at : ℕ) (bytes image : List ℕ) → IsImage disk image → IsImage (after_write disk at bytes) image

-- Where bytes were written over a file that was on the disk, any others may stand in their place, but for one that was written over itself
abbrev pub AnyBytesMayStand : Type 0
AnyBytesMayStand = (file : List ℕ) (at : ℕ) (bytes others : List ℕ) → length others ≡ length bytes
    → ((i place : ℕ) → i < length bytes → place ≡ at + i → slice_get file place ≡ Some (get_or bytes i 0) → get_or others i 0 ≡ get_or bytes i 0)
    → IsImage (after_write (still file) at bytes) (patched file at others)
