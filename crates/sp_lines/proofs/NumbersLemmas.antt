-- Numbers with commas between: what is spelled is read, and what is read is spelled.
use Rattle.std.proofs.Common.{◌≡◌, ℕ, ◌+◌, ◌*◌, ◌<◌, ◌≤◌, ◌^◌, ◌==◌, Bool, true, false, inl, inr, List, [], ◌∷◌, ◌++◌, length, map, Option, Some, None, Ok}
use Rattle.std.proofs.Common.{refl, sym, ap, subst, ◌∙◌, arith, append-nil, append_assoc}
use Rattle.std.specs.Prelude.{All, codes}
use Rattle.std.specs.List.{flat_map, join_with_byte, list_all}
use Rattle.std.specs.Fmt.{decimal}
use Rattle.std.specs.Str.Parse.{AllDigits}
use Rattle.std.proofs.lemmas.Bool.{cases_Bool, ne_eqb}
use Rattle.std.proofs.lemmas.Bool.Decides.{nat_tests}
use Rattle.std.proofs.lemmas.Fmt.{decimal_is_IsNumeral}
use Rattle.std.proofs.lemmas.List.{length-append, length-map}
use Rattle.std.proofs.lemmas.List.Elements.{All-append, All-cons, All-head, All-nil, All-tail, All-weaker}
use Rattle.std.proofs.lemmas.List.Splits.{join_with_byte-slice_split, length-slice_split, slice_split_at, slice_split_none}
use Rattle.std.proofs.lemmas.Str.Parse.{digit_from_value}
use Rattle.sp_base.specs.Refusals.{◌>>=◌}
use Rattle.sp_base.proofs.RefusalLemmas.{then_ok}
use Rattle.sp_text.specs.Spelling.{Word}
use Rattle.sp_text.specs.Texts.{IsWord}
use Rattle.sp_lines.specs.Cells.{AreNumbers, each_at, is_number, number_at, numbers_at, numbers_word, pieces, same, so_many_at}
use Rattle.sp_lines.proofs.PlaceLemmas.{number_at_back, number_at_read}
use Rattle.sp_lines.proofs.TextLemmas.{clean_name, clean_number, short_number}
use Rattle.sp_lines.proofs.Words.{number_back, same_words}

abbrev AreSmall : List ℕ → Type 0
AreSmall ns = All (λ n. n < 2 ^ 64) ns

small_numbers : (high : ℕ) (ns : List ℕ) → high < 2 ^ 64 → All (λ n. n ≤ high) ns → AreSmall ns
small_numbers high ns room are = All-weaker (λ n. n ≤ high) (λ n. n < 2 ^ 64) (λ n below. omega (arith, room, below)) ns are

head_small : (n : ℕ) (ns : List ℕ) → AreSmall (n ∷ ns) → n < 2 ^ 64
head_small n ns small = All-head (λ n. n < 2 ^ 64) n ns small

tail_small : (n : ℕ) (ns : List ℕ) → AreSmall (n ∷ ns) → AreSmall ns
tail_small n ns small = All-tail (λ n. n < 2 ^ 64) n ns small

-- ---- what is spelled is read

-- a decimal has no comma
no_comma : (n : ℕ) → n < 2 ^ 64 → All (λ b. (b == 44) ≡ false) (decimal n)
no_comma n small = digits (decimal n) (decimal_is_IsNumeral n small).0.1
  where
    apart : (b : ℕ) → 48 ≤ b → (b == 44) ≡ false
    apart b above = ne_eqb b 44 (λ is. omega (arith, above, is))

    digits : (ds : List ℕ) → AllDigits 10 ds → All (λ b. (b == 44) ≡ false) ds
    digits [] all = All-nil (λ b. (b == 44) ≡ false)
    digits (b ∷ ds) all =
        let range = digit_from_value b all.0 in
        All-cons (λ b. (b == 44) ≡ false) b ds (apart b range.0) (digits ds all.1)

pieces_back : (ns : List ℕ) → 0 < length ns → AreSmall ns → pieces (join_with_byte 44 (map decimal ns)) ≡ map decimal ns
pieces_back [] some small = absurd (omega (arith, some))
pieces_back (n ∷ []) some small = slice_split_none (λ b. b == 44) (decimal n) (no_comma n (head_small n [] small))
pieces_back (n ∷ m ∷ ns) some small =
    slice_split_at (λ b. b == 44) (decimal n) 44 (join_with_byte 44 (map decimal (m ∷ ns))) (no_comma n (head_small n (m ∷ ns) small)) refl
    ∙ ap (λ (rest : List Word). decimal n ∷ rest) (pieces_back (m ∷ ns) (omega arith) (tail_small n (m ∷ ns) small))

all_numbers : (ns : List ℕ) → AreSmall ns → list_all is_number (map decimal ns) ≡ true
all_numbers [] small = refl
all_numbers (n ∷ ns) small = rw (number_back n (head_small n ns small)) (all_numbers ns (tail_small n ns small))

each_back : (high : ℕ) (ns : List ℕ) → high < 2 ^ 64 → All (λ n. n ≤ high) ns → each_at high (map decimal ns) ≡ Ok ns
each_back high [] room are = refl
each_back high (n ∷ ns) room are =
    rw (number_at_back 0 high n room (omega arith) (All-head (λ n. n ≤ high) n ns are)) (rw (each_back high ns room (All-tail (λ n. n ≤ high) n ns are)) refl)

-- no decimal is the word `same`
not_digits : AllDigits 10 (codes "same") → ⊥
not_digits all = let range = digit_from_value 115 all.0 in absurd (omega (arith, range.0, range.1))

not_same : (ns : List ℕ) → 0 < length ns → AreSmall ns → same (join_with_byte 44 (map decimal ns)) (codes "same") ≡ false
not_same [] some small = absurd (omega (arith, some))
not_same (n ∷ ns) some small = elim (cases_Bool (same (join_with_byte 44 (map decimal (n ∷ ns))) (codes "same"))) [
  | inr other ↦ other
  | inl is_same ↦
      let is = same_words (join_with_byte 44 (map decimal (n ∷ ns))) (codes "same") is_same in
      let one : codes "same" ∷ [] ≡ map decimal (n ∷ ns) = ap pieces (sym is) ∙ pieces_back (n ∷ ns) some small in
      let first : decimal n ≡ codes "same" = cc in
      absurd (not_digits (subst (AllDigits 10) first (decimal_is_IsNumeral n (head_small n ns small)).0.1))
]

itself : (n : ℕ) → (n == n) ≡ true
itself n = grind (arith, nat_tests)

pub numbers_at_back : (count high : ℕ) (v : Option (List ℕ)) → high < 2 ^ 64 → AreNumbers count high v → numbers_at count high (numbers_word v) ≡ Ok v
unfolding numbers_at numbers_word
numbers_at_back count high None room are = refl
numbers_at_back count high (Some ns) room are =
    let small = small_numbers high ns room are.2 in
    let some : 0 < length ns = omega (arith, are.0, are.1) in
    let many : (length (map decimal ns) == count) ≡ true = rw (length-map ns decimal, are.0) (itself count) in
    rw (not_same ns some small, pieces_back ns some small, all_numbers ns small, many, each_back high ns room are.2) refl

-- ---- what is read is spelled

pub cons_same : (a b : Word) (vs ws : List Word) → a ≡ b → vs ≡ ws → (a ∷ vs) ≡ (b ∷ ws)
cons_same a b vs ws p q = rw (p, q) refl

each_read : (high : ℕ) (words : List Word) (ns : List ℕ) → each_at high words ≡ Ok ns → (words ≡ map decimal ns) × All (λ n. n ≤ high) ns
each_read high [] ns read = let is : [] ≡ ns = cc in subst (λ (z : List ℕ). ([] ≡ map decimal z) × All (λ n. n ≤ high) z) is (refl, All-nil (λ n. n ≤ high))
each_read high (w ∷ words) ns read =
    let one = then_ok (number_at 0 high w) (λ n. each_at high words >>= λ more. Ok (n ∷ more)) ns read in
    let two = then_ok (each_at high words) (λ more. Ok (one.0 ∷ more)) ns one.2 in
    let first = number_at_read 0 high one.0 w one.1 in
    let more = each_read high words two.0 two.1 in
    let is : one.0 ∷ two.0 ≡ ns = let f : Ok (one.0 ∷ two.0) ≡ Ok ns = two.2 in cc in
    let both : ((w ∷ words) ≡ map decimal (one.0 ∷ two.0)) × All (λ n. n ≤ high) (one.0 ∷ two.0) =
    (cons_same _ _ _ _ first.0 more.0, All-cons (λ n. n ≤ high) one.0 two.0 first.2 more.1) in
    subst (λ (z : List ℕ). ((w ∷ words) ≡ map decimal z) × All (λ n. n ≤ high) z) is both

-- so many words of numbers
record AreOf (count high : ℕ) (words : List Word) (v : Option (List ℕ)) : Type 0 where
  numbers : List ℕ
  is : Some numbers ≡ v
  spelled : words ≡ map decimal numbers
  many : length words ≡ count
  each : All (λ n. n ≤ high) numbers

so_many_read : (count high : ℕ) (words : List Word) (v : Option (List ℕ)) → so_many_at count high words ≡ Ok v → AreOf count high words v
so_many_read count high words v read = elim (cases_Bool (length words == count)) [
  | inr f ↦ absurd (let g = rw f at read in cc)
  | inl t ↦
      let step = then_ok (each_at high words) (λ ns. Ok (Some ns)) v (rw t at read) in
      let r = each_read high words step.0 step.1 in
      record {
        numbers = step.0;
        is = let f : Ok (Some step.0) ≡ Ok v = step.2 in cc;
        spelled = r.0;
        many = grind (arith, nat_tests, t);
        each = r.1;
      }
]

pub numbers_at_read : (count high : ℕ) (v : Option (List ℕ)) (w : Word) → numbers_at count high w ≡ Ok v → (w ≡ numbers_word v) × AreNumbers count high v
unfolding numbers_at numbers_word
numbers_at_read count high v w read = elim (cases_Bool (same w (codes "same"))) [
  | inl t ↦
      let is : None ≡ v = let f : Ok None ≡ Ok v = rw t at read in cc in
      subst (λ (z : Option (List ℕ)). (w ≡ numbers_word z) × AreNumbers count high z) is (same_words w (codes "same") t, tt)
  | inr f ↦ elim (cases_Bool (list_all is_number (pieces w))) [
    | inr g ↦ absurd (let h = rw (f, g) at read in cc)
    | inl g ↦
        let r = so_many_read count high (pieces w) v (rw (f, g) at read) in
        let some = length-slice_split (λ b. b == 44) w in
        let long : length (pieces w) ≡ length r.numbers = ap length r.spelled ∙ length-map r.numbers decimal in
        let spelled : w ≡ join_with_byte 44 (map decimal r.numbers) = sym (join_with_byte-slice_split 44 w) ∙ ap (join_with_byte 44) r.spelled in
        let counted : length r.numbers ≡ count = sym long ∙ r.many in
        let full : 1 ≤ count = omega (arith, some, r.many) in
        subst (λ (z : Option (List ℕ)). (w ≡ numbers_word z) × AreNumbers count high z) r.is (spelled, (counted, full, r.each))
  ]
]

-- ---- one word, which isn't too long

abbrev InWord : ℕ → Type 0
InWord b = (33 ≤ b) × (b ≤ 126)

clean_joined : (ns : List ℕ) → 0 < length ns → AreSmall ns → IsWord (join_with_byte 44 (map decimal ns))
clean_joined [] some small = absurd (omega (arith, some))
clean_joined (n ∷ []) some small = clean_number n (head_small n [] small)
clean_joined (n ∷ m ∷ ns) some small =
    let rest = clean_joined (m ∷ ns) (omega arith) (tail_small n (m ∷ ns) small) in
    let joined = join_with_byte 44 (map decimal (m ∷ ns)) in
    record {
      full = omega (arith, length-append (decimal n) (44 ∷ joined));
      bytes = All-append InWord (decimal n) (44 ∷ joined) (clean_number n (head_small n (m ∷ ns) small)).bytes
          (All-cons InWord 44 joined (omega arith, omega arith) rest.bytes);
    }

short_joined : (ns : List ℕ) → 0 < length ns → AreSmall ns → length (join_with_byte 44 (map decimal ns)) + 1 ≤ length ns * 21
short_joined [] some small = absurd (omega (arith, some))
short_joined (n ∷ []) some small = omega (arith, short_number n (head_small n [] small))
short_joined (n ∷ m ∷ ns) some small =
    let rest = short_joined (m ∷ ns) (omega arith) (tail_small n (m ∷ ns) small) in
    omega (arith, length-append (decimal n) (44 ∷ join_with_byte 44 (map decimal (m ∷ ns))), short_number n (head_small n (m ∷ ns) small), rest)

pub clean_numbers : (count high : ℕ) (v : Option (List ℕ)) → high < 2 ^ 64 → AreNumbers count high v → IsWord (numbers_word v)
unfolding numbers_word
clean_numbers count high None room are = clean_name (codes "same") refl (omega arith)
clean_numbers count high (Some ns) room are = clean_joined ns (omega (arith, are.0, are.1)) (small_numbers high ns room are.2)

pub short_numbers : (count high : ℕ) (v : Option (List ℕ)) → high < 2 ^ 64 → AreNumbers count high v → length (numbers_word v) + 1 ≤ count * 21 + 5
unfolding numbers_word
short_numbers count high None room are = omega arith
short_numbers count high (Some ns) room are =
    let short = short_joined ns (omega (arith, are.0, are.1)) (small_numbers high ns room are.2) in
    omega (arith, are.0, short)

-- ---- what is written

-- a number, and each of the others after a comma
pub joined_numbers : (n : ℕ) (ns : List ℕ) → decimal n ++ flat_map (λ m. 44 ∷ decimal m) ns ≡ join_with_byte 44 (map decimal (n ∷ ns))
joined_numbers n [] = append-nil (decimal n)
joined_numbers n (m ∷ ns) = ap (λ (more : List ℕ). decimal n ++ 44 ∷ more) (joined_numbers m ns)

pub first_written : (old middle : List ℕ) (n : ℕ) (ns : List ℕ) → middle ≡ old ++ (32 ∷ decimal n)
    → middle ++ flat_map (λ m. 44 ∷ decimal m) ns ≡ old ++ (32 ∷ join_with_byte 44 (map decimal (n ∷ ns)))
first_written old middle n ns is =
    ap (λ (text : List ℕ). text ++ flat_map (λ m. 44 ∷ decimal m) ns) is ∙ append_assoc old (32 ∷ decimal n) (flat_map (λ m. 44 ∷ decimal m) ns)
    ∙ ap (λ (text : List ℕ). old ++ 32 ∷ text) (joined_numbers n ns)
