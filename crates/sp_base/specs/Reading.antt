-- Reading from the front of bytes: what was read and the bytes after it, or how many are missing.
use Rattle.std.specs.Prelude.{ℕ, ◌≡◌, nat_lt, List, length, take, drop, Result, Ok, Err, if◌then◌else◌}
use Rattle.byteorder.specs.Endian.{big_number}
use Rattle.sp_base.specs.declared.reader.Short.{Short}

-- the first n bytes and those after them
unfoldable pub piece_at : ℕ → List ℕ → Result (List ℕ × List ℕ) Short
piece_at n bytes = if nat_lt (length bytes) n then Err (record { need = n; left = length bytes }) else Ok (take n bytes, drop n bytes)

-- a number of n bytes, its high byte first, and the bytes after it
unfoldable pub number_at : ℕ → List ℕ → Result (ℕ × List ℕ) Short
number_at n bytes = if nat_lt (length bytes) n then Err (record { need = n; left = length bytes }) else Ok (big_number n bytes, drop n bytes)

-- what a call gave, seen by view, and left is what reading gives; a refusal takes nothing
abbrev pub Takes : {X Y : Type 0} → (X → Y) → Result X Short → List ℕ → List ℕ → Result (Y × List ℕ) Short → Type 0
Takes view (Ok x) old new read = read ≡ Ok (view x, new)
Takes view (Err e) old new read = (read ≡ Err e) × (new ≡ old)
