-- Words of bytes that are too long, and those that aren't.
use Rattle.std.proofs.Common.{◌≡◌, ◌<◌, ◌≤◌, ℕ, ◌*◌, inl, inr, List, [], ◌∷◌, length, refl, ap, arith}
use Rattle.std.specs.Prelude.{◌≢◌, ◌⊎◌, Option, Some, None, Result, Ok, Err, IfOk, IfSome, IfNone}
use Rattle.hex.specs.Hex.{lower_digits}
use Rattle.hex.proofs.HexLemmas.{length-encode_with}
use Rattle.sp_base.specs.Finds.{Finds}
use Rattle.sp_base.specs.Spelling.{AreBytes}
use Rattle.sp_text.specs.Spelling.{hex_word}
use Rattle.sp_client.specs.Requests.{IsPayload}

-- a word has two digits for each byte, or is a dash
pub length-hex_word : (bytes : List ℕ) → (length (hex_word bytes) ≡ 2 * length bytes) ⊎ (length bytes ≡ 0) × (length (hex_word bytes) ≡ 1)
length-hex_word [] = inr (refl, refl)
length-hex_word (b ∷ bytes) = inl (length-encode_with lower_digits (b ∷ bytes))

-- a word of too many bytes spells no payload
pub too_long : (word : List ℕ) → 2048 < length word → (x : List ℕ) → IsPayload x × (word ≡ hex_word x) → ⊥
too_long word long x right =
    let same : length word ≡ length (hex_word x) = ap length right.1 in
    let short = right.0.short in
    elim (length-hex_word x) [ inl twice ↦ omega arith | inr dash ↦ omega arith ]

-- the others spell only such
pub short_enough : (word bytes : List ℕ) → length word ≤ 2048 → word ≡ hex_word bytes → length bytes ≤ 1024
short_enough word bytes short is =
    let same : length word ≡ length (hex_word bytes) = ap length is in
    elim (length-hex_word bytes) [ inl twice ↦ omega arith | inr dash ↦ omega arith ]

-- what is read of a word that isn't too long
pub payload_read : {E : Type 0} (word : List ℕ) (read : Result (Option (List ℕ)) E) → length word ≤ 2048
    → IfOk read (λ o. IfSome o (λ bytes. word ≡ hex_word bytes))
    → IfOk read (λ o. IfSome o AreBytes) → IfOk read (λ o. IfNone o ((bytes : List ℕ) → AreBytes bytes → word ≢ hex_word bytes))
    → IfOk read (Finds (λ bytes. IsPayload bytes × (word ≡ hex_word bytes)))
payload_read word (Ok (Some bytes)) short found are none = (record { short = short_enough word bytes short found; bytes = are }, found)
payload_read word (Ok None) short found are none = λ bytes right. none bytes right.0.bytes right.1
payload_read word (Err e) short found are none = tt

-- a payload's word has at most 2,048 bytes
pub payload_word : (bytes : List ℕ) → length bytes ≤ 1024 → length (hex_word bytes) ≤ 2048
payload_word bytes short = elim (length-hex_word bytes) [ inl twice ↦ omega arith | inr dash ↦ omega arith ]
