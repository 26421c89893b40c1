-- A line without a bad place is words, one space apart, and such words make a line without a bad place.
use Rattle.std.proofs.Common.{◌≡◌, ◌≢◌, ℕ, ◌<◌, ◌≤◌, ◌==◌, nat_le, true, false, not, inl, inr, List, [], ◌∷◌, ◌++◌, length, Ok, refl, sym, ap, subst, ◌∙◌}
use Rattle.std.proofs.Common.{arith, append-nil}
use Rattle.std.specs.Prelude.{All}
use Rattle.std.specs.List.{join_with_byte, onto_first, position_or_len}
use Rattle.std.proofs.lemmas.Bool.{cases_Bool, cases_eq}
use Rattle.std.proofs.lemmas.Bool.Decides.{nat_tests}
use Rattle.std.proofs.lemmas.List.Elements.{All-cons, All-head, All-nil, All-tail, All-weaker}
use Rattle.sp_text.specs.Spelling.{IsOneWord, words_of}
use Rattle.sp_text.specs.Texts.{IsWord, bad_place, may_follow, pairs_after, ReadWordsAreSpelled, SpelledWordsAreRead}
use Rattle.sp_text.proofs.WordLemmas.{join-words_of, words_of-join}

abbrev IsWordByte : ℕ → Type 0
IsWordByte b = (33 ≤ b) × (b ≤ 126)

-- each byte may follow the one before it, and the line may end
abbrev Stands : ℕ → List ℕ → Type 0
Stands before [] = may_follow before 32 ≡ true
Stands before (b ∷ bytes) = (may_follow before b ≡ true) × Stands b bytes

abbrev bad_after : ℕ → List ℕ → ℕ
bad_after before line = position_or_len (λ pair. not (may_follow pair.0 pair.1)) (pairs_after before line)

no_bad_place : (before : ℕ) (line : List ℕ) → length line < bad_after before line → Stands before line
no_bad_place before [] past = elim (cases_Bool (may_follow before 32)) [
  | inl may ↦ may
  | inr cannot ↦ absurd (let p = rw cannot at past in omega (arith, p))
]
no_bad_place before (b ∷ bytes) past = elim (cases_Bool (may_follow before b)) [
  | inl may ↦ let p = rw may at past in (may, no_bad_place b bytes (omega (arith, p)))
  | inr cannot ↦ absurd (let p = rw cannot at past in omega (arith, p))
]

none_is_bad : (before : ℕ) (line : List ℕ) → Stands before line → length line < bad_after before line
none_is_bad before [] stands = rw stands (omega arith)
none_is_bad before (b ∷ bytes) stands = rw stands.0 (omega (arith, none_is_bad b bytes stands.1))

-- a byte that may follow, but a space, is one of a word
of_word : (before b : ℕ) → may_follow before b ≡ true → b ≢ 32 → IsWordByte b
of_word before b may other = (grind (arith, nat_tests), grind (arith, nat_tests))

-- a space follows only a byte of a word
after_word : (before : ℕ) → may_follow before 32 ≡ true → IsWordByte before
after_word before may = (grind (arith, nat_tests), grind (arith, nat_tests))

may_stand : (before b : ℕ) → IsWordByte b → may_follow before b ≡ true
may_stand before b is = grind (arith, nat_tests)

may_end : (before : ℕ) → IsWordByte before → may_follow before 32 ≡ true
may_end before is = grind (arith, nat_tests)

-- ---- a line without a bad place is words

-- the words of the rest of a line: the first may be empty
record Rest (line : List ℕ) : Type 0 where
  first : List ℕ
  others : List (List ℕ)
  split : words_of line ≡ first ∷ others
  bytes : All IsWordByte first
  words : All IsWord others

-- the words of what comes after a space
record Words (line : List ℕ) : Type 0 where
  some : 0 < length (words_of line)
  words : All IsWord (words_of line)

one_more : (b : ℕ) (bytes : List ℕ) → b ≢ 32 → (rest : Rest bytes) → words_of (b ∷ bytes) ≡ (b ∷ rest.first) ∷ rest.others
one_more b bytes other rest =
    let differs : (b == 32) ≡ false = grind (arith, nat_tests) in
    rw differs (ap (λ (parts : List (List ℕ)). onto_first b parts) rest.split)

record Parts (before : ℕ) (line : List ℕ) : Type 0 where
  rest : IsWordByte before → Rest line
  words : before ≡ 32 → Words line

nothing_left : (before : ℕ) → Stands before [] → Parts before []
nothing_left before stands = record {
  rest = λ is. record { first = []; others = []; split = refl; bytes = All-nil IsWordByte; words = All-nil IsWord };
  words = λ same. absurd (let is = after_word before stands in omega (arith, is.0, same));
}

space_next : (before : ℕ) (bytes : List ℕ) → may_follow before 32 ≡ true → Words bytes → Parts before (32 ∷ bytes)
space_next before bytes may after = record {
  rest = λ is. record { first = []; others = words_of bytes; split = refl; bytes = All-nil IsWordByte; words = after.words };
  words = λ same. absurd (let is = after_word before may in omega (arith, is.0, same));
}

byte_next : (before b : ℕ) (bytes : List ℕ) → IsWordByte b → Rest bytes → Parts before (b ∷ bytes)
byte_next before b bytes is after =
    let other : b ≢ 32 = λ same. omega (arith, is.0, same) in
    let split = one_more b bytes other after in
    let long = All-cons IsWordByte b after.first is after.bytes in
    let word : IsWord (b ∷ after.first) = record { full = omega arith; bytes = long } in
    record {
      rest = λ _. record { first = b ∷ after.first; others = after.others; split = split; bytes = long; words = after.words };
      words = λ _. record { some = rw split (omega arith); words = rw split (All-cons IsWord (b ∷ after.first) after.others word after.words) };
    }

parts_of : (before : ℕ) (line : List ℕ) → Stands before line → Parts before line
parts_of before [] stands = nothing_left before stands
parts_of before (b ∷ bytes) stands = elim (cases_eq b 32) [
  | inl same ↦
      let may : may_follow before 32 ≡ true = subst (λ (x : ℕ). may_follow before x ≡ true) same stands.0 in
      let after : Words bytes = (parts_of b bytes stands.1).words same in
      rw same (space_next before bytes may after)
  | inr other ↦
      let is = of_word before b stands.0 other in
      byte_next before b bytes is ((parts_of b bytes stands.1).rest is)
]

-- ---- words, one space apart, are a line without a bad place

stands_on : (before : ℕ) (word tail : List ℕ) → IsWordByte before → All IsWordByte word → ((b : ℕ) → IsWordByte b → Stands b tail)
    → Stands before (word ++ tail)
stands_on before [] tail is bytes then = then before is
stands_on before (b ∷ word) tail is bytes then =
    let next = All-head IsWordByte b word bytes in
    (may_stand before b next, stands_on b word tail next (All-tail IsWordByte b word bytes) then)

word_stands : (word tail : List ℕ) → IsWord word → ((b : ℕ) → IsWordByte b → Stands b tail) → Stands 32 (word ++ tail)
word_stands [] tail is then = absurd (omega (arith, is.full))
word_stands (b ∷ word) tail is then =
    let next = All-head IsWordByte b word is.bytes in
    (may_stand 32 b next, stands_on b word tail next (All-tail IsWordByte b word is.bytes) then)

words_stand : (words : List (List ℕ)) → 0 < length words → All IsWord words → Stands 32 (join_with_byte 32 words)
words_stand [] some each = absurd (omega arith)
words_stand (w ∷ []) some each =
    rw (← append-nil w) (word_stands w [] (All-head IsWord w [] each) may_end)
words_stand (w ∷ v ∷ words) some each =
    let rest = words_stand (v ∷ words) (omega arith) (All-tail IsWord w (v ∷ words) each) in
    word_stands w (32 ∷ join_with_byte 32 (v ∷ words)) (All-head IsWord w (v ∷ words) each) (λ b is. (may_end b is, rest))

one_word : (word : List ℕ) → IsWord word → IsOneWord word
one_word word is = All-weaker IsWordByte (λ b. b ≢ 32) (λ b byte same. omega (arith, byte.0, same)) word is.bytes

-- ---- both ways

pub spelled_words_are_read : SpelledWordsAreRead
spelled_words_are_read number words some each =
    let line = join_with_byte 32 words in
    let past = none_is_bad 32 line (words_stand words some each) in
    let good : nat_le (bad_place line) (length line) ≡ false = grind (arith, nat_tests, past) in
    rw good (ap (λ (ws : List (List ℕ)). Ok ws) (words_of-join words some (All-weaker IsWord IsOneWord one_word words each)))

pub read_words_are_spelled : ReadWordsAreSpelled
read_words_are_spelled number line words read = elim (cases_Bool (nat_le (bad_place line) (length line))) [
  | inl bad ↦ absurd (let refused = rw bad at read in cc)
  | inr good ↦
      let kept : Ok (words_of line) ≡ Ok words = rw good at read in
      let same : words_of line ≡ words = cc in
      let past : length line < bad_place line = grind (arith, nat_tests) in
      let is = (parts_of 32 line (no_bad_place 32 line past)).words refl in
      (sym (join-words_of line) ∙ ap (λ (ws : List (List ℕ)). join_with_byte 32 ws) same, rw same at is.some, rw same at is.words)
]
