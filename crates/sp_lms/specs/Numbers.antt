-- Numbers that are read from strings of bytes, high byte first (RFC 8554, section 3.1).
use Rattle.std.specs.Prelude.{ℕ, List}
use Rattle.std.specs.Int.{w32, from_be_bytes}

-- the number of four bytes: strTou32
unfoldable pub str_to_u32 : List ℕ → ℕ
str_to_u32 bytes = from_be_bytes w32 bytes
