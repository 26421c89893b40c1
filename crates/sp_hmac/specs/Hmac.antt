-- HMAC (RFC 2104, section 2) over SHA-256 (FIPS 180-4, section 6.2), on lists of bytes.
use Rattle.std.specs.Prelude.{ℕ, ◌-◌, List, ◌++◌, length, map, replicate, bit_xor, nat_le, if◌then◌else◌}
use Rattle.sha2.specs.Sha256.{sha256}

-- a key of at most one block of 64 bytes: a longer one is replaced by its digest (section 2)
abbrev pub short_key : List ℕ → List ℕ
short_key key = if nat_le (length key) 64 then key else sha256 key

-- the key with zeros after it, which fill one block of 64 bytes (section 2, step 1)
unfoldable pub key_block : List ℕ → List ℕ
key_block key = short_key key ++ replicate (64 - length (short_key key)) 0

-- the block with each byte changed by exclusive or (section 2, steps 2 and 5)
abbrev pub changed : ℕ → List ℕ → List ℕ
changed pad block = map (λ byte. bit_xor byte pad) block

-- the tag of a message under the key of a block: ipad is 36, opad is 5c (section 2, steps 2 to 7)
unfoldable pub block_hmac : List ℕ → List ℕ → List ℕ
block_hmac block message = sha256 (changed 0x5c block ++ sha256 (changed 0x36 block ++ message))

-- HMAC of a message under a key (section 2)
abbrev pub hmac : List ℕ → List ℕ → List ℕ
hmac key message = block_hmac (key_block key) message
