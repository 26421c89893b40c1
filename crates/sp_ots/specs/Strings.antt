-- Numbers as strings of bytes, high byte first (RFC 8554, section 3.1), and a string as digits (section 3.1.3).
use Rattle.std.specs.Prelude.{ℕ, ◌+◌, ◌-◌, ◌*◌, ◌/◌, ◌%◌, ◌^◌, List, [], ◌∷◌, bit_and, slice_index}
use Rattle.std.specs.Int.{w16, w32, to_be_bytes}

-- a number below 2^8 as one byte
abbrev pub u8str : ℕ → List ℕ
u8str x = x ∷ []

-- a number as two bytes
unfoldable pub u16str : ℕ → List ℕ
u16str x = to_be_bytes w16 x

-- a number as four bytes
unfoldable pub u32str : ℕ → List ℕ
u32str x = to_be_bytes w32 x

-- digit i of a string that is cut into digits of w bits, from the left
abbrev pub coef : List ℕ → ℕ → ℕ → ℕ
coef s i w = bit_and (2 ^ w - 1) (slice_index s (i * w / 8) / 2 ^ (8 - (w * (i % (8 / w)) + w)))
