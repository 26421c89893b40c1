-- A small file on a disk: what a read gives, and what a crash may leave of it.
use Rattle.std.specs.Prelude.{ℕ, zero, suc, ◌≡◌, ◌==◌, ◌&&◌, Bool, true, false, List, [], ◌∷◌, map, if◌then◌else◌}

-- A byte as a read gives it. It is fixed where each image that is so long holds it, and there where each image is so long
pub record Cell : Type 0 where
  pub now : ℕ
  pub is_fixed : Bool
  pub is_there : Bool

-- the file, byte by byte
abbrev pub Disk : Type 0
Disk = List Cell

-- An image is what a crash may leave: the fixed bytes, and any others, up to an end that no byte forbids which is there
abbrev pub IsImage : Disk → List ℕ → Type 0
IsImage [] [] = Unit {0}
IsImage [] (b ∷ bs) = ⊥
IsImage (cell ∷ cells) [] = cell.is_there ≡ false
IsImage (cell ∷ cells) (b ∷ bs) = (cell.is_fixed ≡ true → b ≡ cell.now) × IsImage cells bs

-- what a read of the whole file gives. It is an image
abbrev pub bytes_of : Disk → List ℕ
bytes_of disk = map (λ cell. cell.now) disk

-- every image holds this byte
abbrev pub sure : ℕ → Cell
sure b = record { now = b; is_fixed = true; is_there = true }

-- all of it is on the disk: these bytes are the one image
abbrev pub still : List ℕ → Disk
still bytes = map sure bytes

-- a byte beyond the end, which a crash may cut off
abbrev pub grown : ℕ → Cell
grown b = record { now = b; is_fixed = false; is_there = false }

-- a byte between the end and a write beyond it: 0 in each image that is so long
abbrev pub gap : Cell
gap = record { now = 0; is_fixed = true; is_there = false }

-- Any byte may stand where one was written, but for one that every image holds there already
abbrev pub over : Cell → ℕ → Cell
over cell b = if cell.is_fixed && (cell.is_there && (cell.now == b)) then cell else (record { now = b; is_fixed = false; is_there = cell.is_there })

-- these bytes were written from this place on, and no sync came yet
abbrev pub after_write : Disk → ℕ → List ℕ → Disk
after_write disk at [] = disk
after_write [] zero (b ∷ bs) = grown b ∷ after_write [] zero bs
after_write (cell ∷ cells) zero (b ∷ bs) = over cell b ∷ after_write cells zero bs
after_write [] (suc at) (b ∷ bs) = gap ∷ after_write [] at (b ∷ bs)
after_write (cell ∷ cells) (suc at) (b ∷ bs) = cell ∷ after_write cells at (b ∷ bs)

-- a sync: what a read gives is the one image
abbrev pub after_sync : Disk → Disk
after_sync disk = still (bytes_of disk)

-- these bytes stand from this place on. What lies between the end and a write beyond it is 0
abbrev pub patched : List ℕ → ℕ → List ℕ → List ℕ
patched file at [] = file
patched [] zero (b ∷ bs) = b ∷ patched [] zero bs
patched (x ∷ xs) zero (b ∷ bs) = b ∷ patched xs zero bs
patched [] (suc at) (b ∷ bs) = 0 ∷ patched [] at (b ∷ bs)
patched (x ∷ xs) (suc at) (b ∷ bs) = x ∷ patched xs at (b ∷ bs)
