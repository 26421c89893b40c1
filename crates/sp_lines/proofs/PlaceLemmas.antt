-- One place: what is spelled is read, and what is read is spelled.
use Rattle.std.proofs.Common.{◌≡◌, ℕ, ◌<◌, ◌≤◌, ◌^◌, ◌&&◌, Bool, true, false, inl, inr, List, [], length, Ok, Err, Option, Some, None, refl, sym, ap, ap₂}
use Rattle.std.proofs.Common.{subst, take, drop, ◌++◌, ◌==◌, ◌∙◌, arith, if◌then◌else◌, append-nil}
use Rattle.std.specs.Prelude.{nat_le, nat_lt}
use Rattle.std.specs.Fmt.{decimal}
use Rattle.std.proofs.lemmas.Bool.{and_parts, cases_Bool}
use Rattle.std.proofs.lemmas.Bool.Decides.{nat_tests}
use Rattle.std.proofs.lemmas.List.{drop_at, length-append, length-drop, take-append-drop, take_all}
use Rattle.std.proofs.lemmas.List.Elements.{All-append, All-drop}
use Rattle.byteorder.specs.Endian.{big_bytes, big_from, big_number}
use Rattle.byteorder.specs.Numbers.{big_number-reads_back, length-bytes_high_first}
use Rattle.sp_base.specs.Spelling.{AreBytes}
use Rattle.sp_base.specs.declared.format.TheConstants.{FORMAT_1}
use Rattle.sp_base.specs.declared.limits.TheConstants.{MAX_EDGES}
use Rattle.sp_base.proofs.NumberLemmas.{AreBytes-big_bytes, bytes_back as number_bytes, number_fits}
use Rattle.sp_base.proofs.RefusalLemmas.{then_ok}
use Rattle.sp_text.specs.Spelling.{Word, hex_word}
use Rattle.sp_lines.specs.Cells.{AreSoMany, IsMask, bytes_at, bytes_of, in_range, mask_at, mask_word, narrow_mask_at, number_at, number_of, of_length}
use Rattle.sp_lines.specs.Cells.{tested_at, wide_mask_at}
use Rattle.sp_lines.specs.declared.fault.Fault.TheVariants as faults
use Rattle.sp_lines.proofs.Words.{bytes_back, bytes_read, number_back, number_read}

-- ---- what is spelled is read

-- a number in its range is read back from its spelling
pub number_at_back : (low high n : ℕ) → high < 2 ^ 64 → low ≤ n → n ≤ high → number_at low high (decimal n) ≡ Ok n
unfolding number_at
number_at_back low high n room above below =
    let up : nat_le low n ≡ true = grind (arith, nat_tests, above) in
    let down : nat_le n high ≡ true = grind (arith, nat_tests, below) in
    rw (number_back n (omega (arith, room, below)), up, down) refl

pub tested_at_back : (low high n : ℕ) (test : ℕ → Bool) → high < 2 ^ 64 → low ≤ n → n ≤ high → test n ≡ true → tested_at low high test (decimal n) ≡ Ok n
unfolding tested_at
tested_at_back low high n test room above below good = rw (number_at_back low high n room above below) (rw good refl)

-- so many bytes are read back from their spelling
pub bytes_at_back : (low high : ℕ) (bs : List ℕ) → AreSoMany low high bs → bytes_at low high (hex_word bs) ≡ Ok bs
unfolding bytes_at
bytes_at_back low high bs is =
    let up : nat_le low (length bs) ≡ true = let above = is.0 in grind (arith, nat_tests, above) in
    let down : nat_le (length bs) high ≡ true = let below = is.1 in grind (arith, nat_tests, below) in
    rw (bytes_back bs is.2, up, down) refl

sixteen : (n : ℕ) → AreSoMany 16 16 (big_bytes 16 n)
sixteen n =
    let count : length (big_bytes 16 n) ≡ 16 = length-bytes_high_first 16 n in
    (omega (arith, count), omega (arith, count), AreBytes-big_bytes 16 n)

half_back : (n : ℕ) (rest : List ℕ) → n < 2 ^ 128 → big_number 16 (big_bytes 16 n ++ rest) ≡ n
half_back n rest small = big_number-reads_back 16 n rest (omega (arith, small))

whole_back : (n : ℕ) → n < 2 ^ 128 → big_number 16 (big_bytes 16 n) ≡ n
whole_back n small = ap (λ bs. big_from 0 16 bs) (sym (append-nil (big_bytes 16 n))) ∙ half_back n [] small

narrow_back : (n : ℕ) → n < 2 ^ MAX_EDGES → narrow_mask_at (hex_word (big_bytes 16 n)) ≡ Ok (0, n)
unfolding narrow_mask_at
narrow_back n small =
    let below : nat_lt n (2 ^ MAX_EDGES) ≡ true = grind (arith, nat_tests, small) in
    rw (bytes_at_back 16 16 (big_bytes 16 n) (sixteen n)) (rw (whole_back n (omega (arith, small)), below) refl)

thirty_two : (high low : ℕ) → AreSoMany 32 32 (big_bytes 16 high ++ big_bytes 16 low)
thirty_two high low =
    let one : length (big_bytes 16 high) ≡ 16 = length-bytes_high_first 16 high in
    let two : length (big_bytes 16 low) ≡ 16 = length-bytes_high_first 16 low in
    let both = length-append (big_bytes 16 high) (big_bytes 16 low) in (
      omega (arith, one, two, both),
      omega (arith, one, two, both),
      All-append (λ b. b < 256) (big_bytes 16 high) (big_bytes 16 low) (AreBytes-big_bytes 16 high) (AreBytes-big_bytes 16 low),
    )

wide_back : (high low : ℕ) → high < 2 ^ 128 → low < 2 ^ 128 → wide_mask_at (hex_word (big_bytes 16 high ++ big_bytes 16 low)) ≡ Ok (high, low)
unfolding wide_mask_at
wide_back high low up down =
    let behind : drop 16 (big_bytes 16 high ++ big_bytes 16 low) ≡ big_bytes 16 low =
    drop_at (big_bytes 16 high) (big_bytes 16 low) 16 (length-bytes_high_first 16 high) in
    rw (bytes_at_back 32 32 (big_bytes 16 high ++ big_bytes 16 low) (thirty_two high low))
    (ap₂ (λ (a b : ℕ). Ok (a, b)) (half_back high (big_bytes 16 low) up) (ap (λ bs. big_number 16 bs) behind ∙ whole_back low down))

pub mask_at_back : (format : ℕ) (mask : ℕ × ℕ) → IsMask format mask → mask_at format (mask_word format mask) ≡ Ok mask
unfolding mask_at mask_word
mask_at_back format mask is = go (format == FORMAT_1) is.high is.low
  where
    go : (t : Bool) → mask.0 < (if t then 1 else 2 ^ 128) → mask.1 < (if t then 2 ^ MAX_EDGES else 2 ^ 128)
        → (if t then narrow_mask_at (hex_word (if t then big_bytes 16 mask.1 else big_bytes 16 mask.0 ++ big_bytes 16 mask.1))
        else wide_mask_at (hex_word (if t then big_bytes 16 mask.1 else big_bytes 16 mask.0 ++ big_bytes 16 mask.1))) ≡ Ok mask
    go true high low = let none : mask.0 ≡ 0 = omega (arith, high) in narrow_back mask.1 low ∙ ap (λ n. Ok (n, mask.1)) (sym none)
    go false high low = wide_back mask.0 mask.1 high low

-- ---- what is read is spelled

in_range_read : (low high n : ℕ) (o : Option ℕ) → in_range low high o ≡ Ok n → (o ≡ Some n) × (low ≤ n) × (n ≤ high)
in_range_read low high n None e = absurd (cc)
in_range_read low high n (Some m) e = elim (cases_Bool (nat_le low m && nat_le m high)) [
  | inr f ↦ absurd (let g = rw f at e in cc)
  | inl t ↦
      let g : Ok m ≡ Ok n = rw t at e in
      let is : m ≡ n = cc in
      let both = and_parts (nat_le low m) (nat_le m high) t in
      (cc, grind (arith, nat_tests, is), grind (arith, nat_tests, is))
]

-- a word that is read as a number is that number's one spelling, and the number is in its range
pub number_at_read : (low high n : ℕ) (w : Word) → number_at low high w ≡ Ok n → (w ≡ decimal n) × (low ≤ n) × (n ≤ high)
unfolding number_at
number_at_read low high n w e =
    let r = in_range_read low high n (number_of w) e in
    ((number_read w n r.0).0, r.1, r.2)

tested_read : (t : Bool) (n m : ℕ) → (if t then Ok m else Err faults.Range) ≡ Ok n → (m ≡ n) × (t ≡ true)
tested_read true n m e = (cc, refl)
tested_read false n m e = absurd (cc)

pub tested_at_read : (low high n : ℕ) (test : ℕ → Bool) (w : Word) → tested_at low high test w ≡ Ok n
    → (w ≡ decimal n) × (low ≤ n) × (n ≤ high) × (test n ≡ true)
unfolding tested_at
tested_at_read low high n test w e =
    let step = then_ok (number_at low high w) (λ m. if test m then Ok m else Err faults.Range) n e in
    let r = number_at_read low high step.0 w step.1 in
    let good = tested_read (test step.0) n step.0 step.2 in
    (rw good.0 at r.0, rw good.0 at r.1, rw good.0 at r.2, rw good.0 at good.1)

of_length_read : (low high : ℕ) (bs : List ℕ) (o : Option (List ℕ)) → of_length low high o ≡ Ok bs → (o ≡ Some bs) × (low ≤ length bs) × (length bs ≤ high)
of_length_read low high bs None e = absurd (cc)
of_length_read low high bs (Some cs) e = elim (cases_Bool (nat_le low (length cs) && nat_le (length cs) high)) [
  | inr f ↦ absurd (let g = rw f at e in cc)
  | inl t ↦
      let g : Ok cs ≡ Ok bs = rw t at e in
      let is : cs ≡ bs = cc in
      let both = and_parts (nat_le low (length cs)) (nat_le (length cs) high) t in
      let long : length cs ≡ length bs = ap length is in
      (cc, grind (arith, nat_tests, long), grind (arith, nat_tests, long))
]

-- a word that is read as bytes is their one spelling, and they are so many
pub bytes_at_read : (low high : ℕ) (bs : List ℕ) (w : Word) → bytes_at low high w ≡ Ok bs → (w ≡ hex_word bs) × AreSoMany low high bs
unfolding bytes_at
bytes_at_read low high bs w e =
    let r = of_length_read low high bs (bytes_of w) e in
    let b = bytes_read w bs r.0 in
    (b.0, (r.1, r.2, b.1))

mask_read : (t : Bool) (n : ℕ × ℕ) (m : ℕ × ℕ) → (if t then Ok m else Err faults.Range) ≡ Ok n → (m ≡ n) × (t ≡ true)
mask_read true n m e = (cc, refl)
mask_read false n m e = absurd (cc)

narrow_read : (mask : ℕ × ℕ) (w : Word) → narrow_mask_at w ≡ Ok mask → (w ≡ hex_word (big_bytes 16 mask.1)) × (mask.0 < 1) × (mask.1 < 2 ^ MAX_EDGES)
unfolding narrow_mask_at
narrow_read mask w e =
    let step = then_ok (bytes_at 16 16 w) (λ bs. if nat_lt (big_number 16 bs) (2 ^ MAX_EDGES) then Ok (0, big_number 16 bs) else Err faults.Range) mask e in
    let bs = step.0 in
    let r = bytes_at_read 16 16 bs w step.1 in
    let good = mask_read (nat_lt (big_number 16 bs) (2 ^ MAX_EDGES)) mask (0, big_number 16 bs) step.2 in
    let bytes : big_bytes 16 (big_number 16 bs) ≡ bs = number_bytes 16 bs r.1.0 r.1.2 ∙ take_all 16 bs r.1.1 in
    let small : big_number 16 bs < 2 ^ MAX_EDGES = grind (arith, nat_tests, good.1) in
    let low : big_number 16 bs ≡ mask.1 = ap (λ (x : ℕ × ℕ). x.1) good.0 in
    let none : 0 ≡ mask.0 = ap (λ (x : ℕ × ℕ). x.0) good.0 in
    (r.0 ∙ ap hex_word (sym bytes ∙ ap (big_bytes 16) low), omega (arith, none), omega (arith, small, low))

wide_read : (mask : ℕ × ℕ) (w : Word) → wide_mask_at w ≡ Ok mask
    → (w ≡ hex_word (big_bytes 16 mask.0 ++ big_bytes 16 mask.1)) × (mask.0 < 2 ^ 128) × (mask.1 < 2 ^ 128)
unfolding wide_mask_at
wide_read mask w e =
    let step = then_ok (bytes_at 32 32 w) (λ bs. Ok (big_number 16 bs, big_number 16 (drop 16 bs))) mask e in
    let bs = step.0 in
    let r = bytes_at_read 32 32 bs w step.1 in
    let rest = drop 16 bs in
    let long : length rest ≡ 16 = omega (arith, length-drop 16 bs, r.1.0, r.1.1) in
    let are : AreBytes rest = All-drop (λ b. b < 256) 16 bs r.1.2 in
    let first : big_bytes 16 (big_number 16 bs) ≡ take 16 bs = number_bytes 16 bs (omega (arith, r.1.0)) r.1.2 in
    let second : big_bytes 16 (big_number 16 rest) ≡ rest = number_bytes 16 rest (omega (arith, long)) are ∙ take_all 16 rest (omega (arith, long)) in
    let same : (big_number 16 bs, big_number 16 rest) ≡ mask = let f : Ok (big_number 16 bs, big_number 16 rest) ≡ Ok mask = step.2 in cc in
    let bytes : big_bytes 16 mask.0 ++ big_bytes 16 mask.1 ≡ bs =
    ap (λ (x : ℕ × ℕ). big_bytes 16 x.0 ++ big_bytes 16 x.1) (sym same) ∙ ap₂ (λ (a b : List ℕ). a ++ b) first second ∙ take-append-drop 16 bs in
    let high : big_number 16 bs < 2 ^ 128 = number_fits 16 bs r.1.2 in
    let low : big_number 16 rest < 2 ^ 128 = number_fits 16 rest are in
    (r.0 ∙ ap hex_word (sym bytes), subst (λ (x : ℕ × ℕ). x.0 < 2 ^ 128) same high, subst (λ (x : ℕ × ℕ). x.1 < 2 ^ 128) same low)

pub mask_at_read : (format : ℕ) (mask : ℕ × ℕ) (w : Word) → mask_at format w ≡ Ok mask → (w ≡ mask_word format mask) × IsMask format mask
unfolding mask_at mask_word
mask_at_read format mask w e = let both = go (format == FORMAT_1) e in (both.0, record { high = both.1; low = both.2 })
  where
    go : (t : Bool) → (if t then narrow_mask_at w else wide_mask_at w) ≡ Ok mask
        → (w ≡ hex_word (if t then big_bytes 16 mask.1 else big_bytes 16 mask.0 ++ big_bytes 16 mask.1))
        × (mask.0 < (if t then 1 else 2 ^ 128)) × (mask.1 < (if t then 2 ^ MAX_EDGES else 2 ^ 128))
    go true e = narrow_read mask w e
    go false e = wide_read mask w e
