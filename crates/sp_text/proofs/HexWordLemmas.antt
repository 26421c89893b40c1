-- Words in hexadecimal: which are bytes, and that each byte string has a word of its own.
use Rattle.std.proofs.Common.{◌≡◌, ◌≢◌, ℕ, ◌%◌, ◌<◌, true, false, inl, inr, List, [], ◌∷◌, length, Result, Ok, Err, refl, sym, ap, ◌∙◌, arith}
use Rattle.std.specs.Prelude.{IfSome, IfNone, codes}
use Rattle.std.specs.Char.{is_ascii_uppercase}
use Rattle.std.specs.List.{list_all, list_any}
use Rattle.std.specs.Result.{result_ok}
use Rattle.std.proofs.lemmas.Bool.{both_ways, cases_lt}
use Rattle.std.proofs.lemmas.List.{get_or_past}
use Rattle.hex.specs.Hex.{IsBytes, decode_sized, encode_lower, encode_with, lower_digits}
use Rattle.hex.specs.declared.error.FromHexError.{FromHexError}
use Rattle.hex.proofs.HexLemmas.{IsOk-decode_sized, decode_of-encode_lower, decode_of-same, decode_sized-encode_lower, decode_sized-ok, decode_sized-twice}
use Rattle.hex.proofs.HexLemmas.{length-encode_with}
use Rattle.sp_base.specs.Spelling.{AreBytes}
use Rattle.sp_text.specs.Spelling.{hex_word, is_digit}
use Rattle.sp_text.proofs.Digits.{digits_spelled, list_any-encode_lower, read_are_bytes, text_again}

-- bytes in the words of the crate that encodes
are_bytes : (bs : List ℕ) → AreBytes bs → IsBytes bs
are_bytes bs each i =
    elim (cases_lt i (length bs)) [
      | inl inside ↦ each i 0 inside
      | inr past ↦ rw (get_or_past bs i 0 past) (omega arith)
    ]

-- each byte string has a text of its own
pub encode_lower_injective : (a b : List ℕ) → AreBytes a → AreBytes b → encode_lower a ≡ encode_lower b → a ≡ b
encode_lower_injective a b bytes_a bytes_b same =
    decode_of-same (encode_lower a) a b (decode_of-encode_lower a (are_bytes a bytes_a)) (rw same (decode_of-encode_lower b (are_bytes b bytes_b)))

-- and a word of its own
pub hex_word_injective : (a b : List ℕ) → AreBytes a → AreBytes b → hex_word a ≡ hex_word b → a ≡ b
unfolding encode_with
hex_word_injective [] [] bytes_a bytes_b same = refl
hex_word_injective [] (y ∷ ys) bytes_a bytes_b same = let lengths = ap length same in absurd (omega arith)
hex_word_injective (x ∷ xs) [] bytes_a bytes_b same = let lengths = ap length same in absurd (omega arith)
hex_word_injective (x ∷ xs) (y ∷ ys) bytes_a bytes_b same = encode_lower_injective (x ∷ xs) (y ∷ ys) bytes_a bytes_b same

-- a word has at least one byte
pub hex_word_nonempty : (bytes : List ℕ) → 0 < length (hex_word bytes)
unfolding encode_with
hex_word_nonempty [] = omega arith
hex_word_nonempty (b ∷ bytes) = omega arith

-- a text with a capital is none of bytes
pub capital_encodes_none : (word bytes : List ℕ) → list_any is_ascii_uppercase word ≡ true → word ≢ encode_lower bytes
capital_encodes_none word bytes capital same = both_ways _ (list_any-encode_lower bytes) (rw same at capital)

-- what n bytes are decoded from is their text, if it has no capital
sized_again : (word : List ℕ) (n : ℕ) (bytes : List ℕ) → list_any is_ascii_uppercase word ≡ false → decode_sized word n ≡ Ok bytes → word ≡ encode_lower bytes
sized_again word n bytes small reads =
    let long = ((IsOk-decode_sized word n).0 (rw reads refl)).0 in
    text_again word bytes (sym (decode_sized-twice word n long) ∙ reads) small

-- and they are bytes
sized_are_bytes : (word : List ℕ) (n : ℕ) (bytes : List ℕ) → decode_sized word n ≡ Ok bytes → AreBytes bytes
sized_are_bytes word n bytes reads =
    read_are_bytes word bytes (sym (decode_sized-twice word n (decode_sized-ok word n bytes reads)) ∙ reads)

-- each read is of bytes
pub sized_gives_bytes : (word : List ℕ) (n : ℕ) (read : Result (List ℕ) FromHexError) → read ≡ decode_sized word n → IfSome (result_ok read) AreBytes
sized_gives_bytes word n (Ok bytes) reads = sized_are_bytes word n bytes (sym reads)
sized_gives_bytes word n (Err e) reads = tt

-- what is refused is the text of no n bytes
sized_refuses : (word : List ℕ) (n : ℕ) (e : FromHexError) → decode_sized word n ≡ Err e → (bytes : List ℕ) → AreBytes bytes → length bytes ≡ n
    → word ≢ encode_lower bytes
sized_refuses word n e refused bytes are long same =
    cc (sym refused ∙ ap (λ (w : List ℕ). decode_sized w n) same ∙ decode_sized-encode_lower bytes n long (are_bytes bytes are))

-- the bytes that are read of a word with no capital are the n bytes of its text, and there are none else
pub sized_is_exact : (word : List ℕ) (n : ℕ) (read : Result (List ℕ) FromHexError) → list_any is_ascii_uppercase word ≡ false → read ≡ decode_sized word n
    → IfSome (result_ok read) (λ bytes. word ≡ encode_lower bytes)
    × IfNone (result_ok read) ((bytes : List ℕ) → AreBytes bytes → length bytes ≡ n → word ≢ encode_lower bytes)
sized_is_exact word n (Ok bytes) small reads = (sized_again word n bytes small (sym reads), tt)
sized_is_exact word n (Err e) small reads = (tt, sized_refuses word n e (sym reads))

-- the word spells no bytes
abbrev pub SpellsNoBytes : List ℕ → Type 0
SpellsNoBytes word = (bytes : List ℕ) → AreBytes bytes → word ≢ hex_word bytes

-- the empty word spells none
pub empty_spells_none : (word : List ℕ) → length word ≡ 0 → SpellsNoBytes word
empty_spells_none word empty bytes are same = let full = hex_word_nonempty bytes in absurd (omega (arith, ap length same))

-- nor does one of another length
pub odd_spells_none : (word : List ℕ) → length word % 2 ≢ 0 → word ≢ codes "-" → SpellsNoBytes word
odd_spells_none word odd no_dash [] are same = no_dash same
odd_spells_none word odd no_dash (b ∷ bytes) are same =
    let long = length-encode_with lower_digits (b ∷ bytes) in
    absurd (odd (omega (arith, ap length same, long)))

-- nor one with what is no digit
pub other_spells_none : (word : List ℕ) → list_all is_digit word ≡ false → word ≢ codes "-" → SpellsNoBytes word
other_spells_none word other no_dash [] are same = no_dash same
other_spells_none word other no_dash (b ∷ bytes) are same = both_ways _ (rw same at other) (digits_spelled (b ∷ bytes) are)

-- what isn't empty and spells bytes is their word
pub pairs_spelled : (word bytes : List ℕ) → length word ≢ 0 → encode_lower bytes ≡ word → word ≡ hex_word bytes
unfolding encode_with
pairs_spelled word [] full same = absurd (full (ap length (sym same)))
pairs_spelled word (b ∷ bytes) full same = sym same
