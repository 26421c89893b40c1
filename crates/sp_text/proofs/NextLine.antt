-- The first newline of a text, searched for in no more bytes than the longest line and its newline have.
use Rattle.std.proofs.Common.{◌≡◌, ◌≢◌, ℕ, zero, suc, ◌+◌, ◌<◌, ◌≤◌, ◌==◌, min, nat_lt, Bool, true, false, not, inl, inr, List, [], ◌∷◌, ◌++◌, length, get_or}
use Rattle.std.proofs.Common.{subst, take, drop, Some, None, Ok, Err, refl, sym, ap, ◌∙◌, arith, length-take, length-append}
use Rattle.std.specs.List.{after_first, before_first, position, position_or_len}
use Rattle.std.proofs.lemmas.Bool.{cases_Bool, cases_eq, cases_lt, eqb-true, ne_eqb}
use Rattle.std.proofs.lemmas.Bool.Decides.{nat_tests}
use Rattle.std.proofs.lemmas.List.Sums.{passes_at_first, prefix_len-le-length, split_at_first}
use Rattle.std.proofs.lemmas.List.Elements.{All-cons, All-head, All-nil, All-tail}
use Rattle.std.proofs.Math.Seq.{drop-append-add, take-append_seam}
use Rattle.sp_text.specs.declared.place.TextRefused.{TextRefused}
use Rattle.sp_text.specs.Texts.{ReadLinesAreSpelled, SpelledLinesAreRead, cut_line, is_newline, line_at, long_line}
use Rattle.sp_text.specs.Lines.{BeginsWithLine, IsInOneLine}
use Rattle.sp_text.specs.Unread.{LineText}

-- the first of some elements is the first of all, or none of them is
first_of_some : {X : Type 0} (p : X → Bool) (n : ℕ) (xs : List X) → position_or_len p (take n xs) ≡ min n (position_or_len p xs)
first_of_some p zero xs = omega arith
first_of_some p (suc n) [] = omega arith
first_of_some p (suc n) (x ∷ xs) = elim (cases_Bool (p x)) [
  | inl is ↦ rw is (omega arith)
  | inr not_is ↦ rw not_is (omega (arith, first_of_some p n xs))
]

position_found : {X : Type 0} (p : X → Bool) (xs : List X) (i : ℕ) → position p xs ≡ Some i → (position_or_len p xs ≡ i) × (i < length xs)
position_found p xs i found = elim (cases_Bool (nat_lt (position_or_len p xs) (length xs))) [
  | inl is ↦
      let some : Some (position_or_len p xs) ≡ Some i = rw is at found in
      let same : position_or_len p xs ≡ i = cc in
      let inside : position_or_len p xs < length xs = grind (arith, nat_tests) in
      (same, omega arith)
  | inr not_is ↦ absurd (let none = rw not_is at found in cc)
]

position_missing : {X : Type 0} (p : X → Bool) (xs : List X) → position p xs ≡ None → length xs ≤ position_or_len p xs
position_missing p xs missing = elim (cases_Bool (nat_lt (position_or_len p xs) (length xs))) [
  | inl is ↦ absurd (let some = rw is at missing in cc)
  | inr not_is ↦ grind (arith, nat_tests)
]

-- a newline was found, so a line is given
pub line_found : (number : ℕ) (text : List ℕ) (n end : ℕ) → n ≡ min (length text) 131201 → position is_newline (take n text) ≡ Some end
    → line_at number text ≡ Ok (record { number = number; bytes = take end text }, drop (end + 1) text)
unfolding line_at
line_found number text n end most found =
    let here = position_found is_newline (take n text) end found in
    let count = length-take n text in
    let seen = first_of_some is_newline n text in
    let place : position_or_len is_newline text ≡ end = omega (arith, here.0, here.1, count, seen, most) in
    let short : nat_lt 131200 (position_or_len is_newline text) ≡ false = grind (arith, nat_tests, here.1, count, most, place) in
    let whole : (position_or_len is_newline text == length text) ≡ false = grind (arith, nat_tests, here.1, count, most, place) in
    rw (short, whole, place) refl

-- no newline was found, so the line is too long, or cut
pub line_missing : (number : ℕ) (text : List ℕ) (n : ℕ) (refused : TextRefused) → n ≡ min (length text) 131201 → position is_newline (take n text) ≡ None
    → (131200 < length text → refused ≡ long_line number) → (length text ≤ 131200 → refused ≡ cut_line number text) → line_at number text ≡ Err refused
unfolding line_at
line_missing number text n refused most missing long cut =
    let past = position_missing is_newline (take n text) missing in
    let count = length-take n text in
    let seen = first_of_some is_newline n text in
    let within : position_or_len is_newline text ≤ length text = prefix_len-le-length (λ x. not (is_newline x)) text in
    elim (cases_lt 131200 (length text)) [
      | inl more ↦
          let is_long : nat_lt 131200 (position_or_len is_newline text) ≡ true = grind (arith, nat_tests, past, count, seen, most, more) in
          rw is_long (ap (λ (r : TextRefused). Err r) (sym (long more)))
      | inr few ↦
          let whole : position_or_len is_newline text ≡ length text = omega (arith, past, count, seen, most, few, within) in
          let short : nat_lt 131200 (length text) ≡ false = grind (arith, nat_tests, few) in
          let cut_here : (length text == length text) ≡ true = grind (arith, nat_tests) in
          rw (whole, short, cut_here) (ap (λ (r : TextRefused). Err r) (sym (cut few)))
    ]

-- the same for the text that is left
pub is_not_empty : (text : List ℕ) → false ≡ (length text == 0) → text ≢ []
is_not_empty [] full empty = absurd (cc)
is_not_empty (b ∷ text) full empty = absurd (cc)

-- ---- a line and the texts that begin with it

before_newline : (line rest : List ℕ) → IsInOneLine line → position_or_len is_newline (line ++ 10 ∷ rest) ≡ length line
before_newline [] rest one = refl
before_newline (b ∷ line) rest one =
    let differs : (b == 10) ≡ false = ne_eqb b 10 (All-head (λ (x : ℕ). x ≢ 10) b line one) in
    rw differs (omega (arith, before_newline line rest (All-tail (λ (x : ℕ). x ≢ 10) b line one)))

pub spelled_lines_are_read : SpelledLinesAreRead
unfolding line_at
spelled_lines_are_read number line rest one short =
    let place = before_newline line rest one in
    let long : length (line ++ 10 ∷ rest) ≡ length line + (length rest + 1) = omega (arith, length-append line (10 ∷ rest)) in
    let within : nat_lt 131200 (length line) ≡ false = grind (arith, nat_tests, short) in
    let more : (length line == length (line ++ 10 ∷ rest)) ≡ false = grind (arith, nat_tests, long) in
    let front : take (length line) (line ++ 10 ∷ rest) ≡ line = take-append_seam line (10 ∷ rest) in
    let back : drop (length line + 1) (line ++ 10 ∷ rest) ≡ rest = drop-append-add line (10 ∷ rest) 1 in
    rw (place, within, more, front, back) refl

take_one_more : (n b : ℕ) (text : List ℕ) → take (1 + n) (b ∷ text) ≡ b ∷ take n text
take_one_more n b text = let more : 1 + n ≡ suc n = omega arith in ap (λ (k : ℕ). take k (b ∷ text)) more

no_newline_before : (text : List ℕ) → IsInOneLine (before_first is_newline text)
no_newline_before [] = All-nil (λ (x : ℕ). x ≢ 10)
no_newline_before (b ∷ text) = elim (cases_eq b 10) [
  | inl same ↦ let is : (b == 10) ≡ true = grind (arith, nat_tests) in rw is (All-nil (λ (x : ℕ). x ≢ 10))
  | inr other ↦
      let differs : (b == 10) ≡ false = ne_eqb b 10 other in
      rw (differs, take_one_more (position_or_len is_newline text) b text)
      (All-cons (λ (x : ℕ). x ≢ 10) b (before_first is_newline text) other (no_newline_before text))
]

-- what a line that is read makes of its text
record Splits (number : ℕ) (text rest : List ℕ) (line : LineText) : Type 0 where
  begins : BeginsWithLine text line.bytes rest
  count : line.number ≡ number
  short : length line.bytes ≤ 131200

splits_at_newline : (number : ℕ) (text : List ℕ) → position_or_len is_newline text ≤ 131200 → position_or_len is_newline text < length text
    → Splits number text (after_first is_newline text) (record { number = number; bytes = before_first is_newline text })
splits_at_newline number text few inside =
    let newline : get_or text (position_or_len is_newline text) 0 ≡ 10 = eqb-true _ 10 (passes_at_first is_newline text 0 inside) in
    record {
      begins = record {
        split = split_at_first is_newline text 0 inside ∙ ap (λ (b : ℕ). before_first is_newline text ++ b ∷ after_first is_newline text) newline;
        one_line = no_newline_before text;
      };
      count = refl;
      short = omega (arith, few, length-take (position_or_len is_newline text) text);
    }

at_most : (a : ℕ) → nat_lt 131200 a ≡ false → a ≤ 131200
at_most a short = grind (arith, nat_tests)

before_end : (a b : ℕ) → (a == b) ≡ false → a ≤ b → a < b
before_end a b differs within = grind (arith, nat_tests)

splits : (number : ℕ) (text rest : List ℕ) (line : LineText) → line_at number text ≡ Ok (line, rest) → Splits number text rest line
unfolding line_at
splits number text rest line read =
    let within : position_or_len is_newline text ≤ length text = prefix_len-le-length (λ x. not (is_newline x)) text in
    elim (cases_Bool (nat_lt 131200 (position_or_len is_newline text))) [
      | inl long ↦ absurd (let refused = rw long at read in cc)
      | inr short ↦ elim (cases_Bool (position_or_len is_newline text == length text)) [
        | inl whole ↦ absurd (let refused = rw (short, whole) at read in cc)
        | inr inside ↦
            let kept : Ok (record { number = number; bytes = before_first is_newline text }, after_first is_newline text) ≡ Ok (line, rest) = rw
            (short, inside) at read in
            let pair : (record { number = number; bytes = before_first is_newline text }, after_first is_newline text) ≡ (line, rest) = cc in
            let few : position_or_len is_newline text ≤ 131200 = at_most (position_or_len is_newline text) short in
            let more = before_end (position_or_len is_newline text) (length text) inside within in
            subst (λ (p : LineText × List ℕ). Splits number text p.1 p.0) pair (splits_at_newline number text few more)
      ]
    ]

pub read_lines_are_spelled : ReadLinesAreSpelled
read_lines_are_spelled number text rest line read =
    let is = splits number text rest line read in
    (is.begins, is.count, is.short)
