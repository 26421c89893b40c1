-- Bytes and their number: each number has one spelling of so many bytes, and is read back from it.
use Rattle.std.proofs.Common.{◌≡◌, ℕ, zero, suc, ◌+◌, ◌*◌, ◌/◌, ◌%◌, ◌^◌, ◌<◌, ◌≤◌, nat_lt, false, inl, inr, List, [], ◌∷◌, ◌++◌, length, take, drop}
use Rattle.std.proofs.Common.{slice_index, append-nil, length-append, length-take, take-append-drop, Ok, refl, sym, ap, ◌∙◌, subst, arith, lit<}
use Rattle.std.specs.Int.{byte_at, bytes_high_first}
use Rattle.std.proofs.Math.Seq.{drop-append_seam, take-append_seam}
use Rattle.std.proofs.lemmas.Bool.{cases_Bool}
use Rattle.std.proofs.lemmas.Bool.Decides.{nat_tests}
use Rattle.std.proofs.lemmas.List.Elements.{All-cons, All-drop, All-from_get_or, All-head, All-nil, All-tail, All-take}
use Rattle.std.proofs.lemmas.Nat.{div-mul-add, mod-mul-add}
use Rattle.byteorder.specs.Endian.{big_bytes, big_from, big_number}
use Rattle.byteorder.specs.Numbers.{big_from-cons, big_from-lt, big_from-take, big_number-reads_back, length-bytes_high_first}
use Rattle.sp_base.specs.Reading.{number_at, piece_at}
use Rattle.sp_base.specs.Spelling.{AreBytes}

-- ---- lists of bytes by their places

-- each place holds a byte
pub byte_at_place : (bytes : List ℕ) → AreBytes bytes → (k : ℕ) → slice_index bytes k < 256
byte_at_place [] are k = lit< tt
byte_at_place (b ∷ bytes) are zero = All-head (λ b. b < 256) b bytes are
byte_at_place (b ∷ bytes) are (suc k) = byte_at_place bytes (All-tail (λ b. b < 256) b bytes are) k

-- a list with a byte at each place is bytes: what the type of a slice says, by `λ i. (c.type_inv.x i).fits`
pub AreBytes-from_places : (bytes : List ℕ) → ((k : ℕ) → slice_index bytes k < 256) → AreBytes bytes
AreBytes-from_places bytes each = All-from_get_or (λ b. b < 256) bytes 0 (λ k below. each k)

byte_small : (i x : ℕ) → byte_at i x < 256
byte_small zero x = omega arith
byte_small (suc i) x = omega arith

-- the bytes of a number are bytes
pub AreBytes-big_bytes : (n x : ℕ) → AreBytes (big_bytes n x)
AreBytes-big_bytes zero x = All-nil (λ b. b < 256)
AreBytes-big_bytes (suc n) x = All-cons (λ b. b < 256) (byte_at n x) (bytes_high_first n x) (byte_small n x) (AreBytes-big_bytes n x)

-- a number of so many bytes is below its bound
pub number_fits : (n : ℕ) (bytes : List ℕ) → AreBytes bytes → big_number n bytes < 256 ^ n
number_fits n bytes are = big_from-lt 0 n bytes (byte_at_place bytes are)

-- of so many bytes, no others have the same number
pub one_number : (n : ℕ) (xs ys : List ℕ) → length xs ≡ n → length ys ≡ n → AreBytes xs → AreBytes ys → big_number n xs ≡ big_number n ys → xs ≡ ys
one_number zero [] [] lx ly ax ay e = refl
one_number zero (x ∷ xs) ys lx ly ax ay e = absurd (omega (arith, lx))
one_number zero [] (y ∷ ys) lx ly ax ay e = absurd (omega (arith, ly))
one_number (suc n) [] ys lx ly ax ay e = absurd (omega (arith, lx))
one_number (suc n) (x ∷ xs) [] lx ly ax ay e = absurd (omega (arith, ly))
one_number (suc n) (x ∷ xs) (y ∷ ys) lx ly ax ay e =
    let rest_x = All-tail (λ b. b < 256) x xs ax in
    let rest_y = All-tail (λ b. b < 256) y ys ay in
    let small_x : big_from 0 n xs < 256 ^ n = number_fits n xs rest_x in
    let small_y : big_from 0 n ys < 256 ^ n = number_fits n ys rest_y in
    let same : x * 256 ^ n + big_from 0 n xs ≡ y * 256 ^ n + big_from 0 n ys =
    ap (λ r. x * 256 ^ n + r) (sym (big_from-cons 0 n x xs)) ∙ e ∙ ap (λ r. y * 256 ^ n + r) (big_from-cons 0 n y ys) in
    let first : x ≡ y =
    sym (div-mul-add x (256 ^ n) (big_from 0 n xs) small_x) ∙ ap (λ z. z / 256 ^ n) same ∙ div-mul-add y (256 ^ n) (big_from 0 n ys) small_y in
    let others : big_from 0 n xs ≡ big_from 0 n ys =
    sym (mod-mul-add x (256 ^ n) (big_from 0 n xs) small_x) ∙ ap (λ z. z % 256 ^ n) same ∙ mod-mul-add y (256 ^ n) (big_from 0 n ys) small_y in
    ap (λ z. z ∷ xs) first ∙ ap (λ zs. y ∷ zs) (one_number n xs ys (omega (arith, lx)) (omega (arith, ly)) rest_x rest_y others)

-- the first n bytes are those of their number
pub bytes_back : (n : ℕ) (bytes : List ℕ) → n ≤ length bytes → AreBytes bytes → big_bytes n (big_number n bytes) ≡ take n bytes
bytes_back n bytes long are =
    let z = big_number n bytes in
    let read : big_from 0 n (big_bytes n z) ≡ z =
    ap (λ bs. big_from 0 n bs) (sym (append-nil (big_bytes n z))) ∙ big_number-reads_back n z [] (number_fits n bytes are) in
    one_number n (big_bytes n z) (take n bytes) (length-bytes_high_first n z) (omega (arith, length-take n bytes)) (AreBytes-big_bytes n z)
    (All-take (λ b. b < 256) n bytes are) (read ∙ sym (big_from-take 0 n n bytes (omega arith)))

-- ---- what is spelled is read

-- a number that is spelled is read, whatever follows
pub number_back : (n x : ℕ) (rest : List ℕ) → x < 256 ^ n → number_at n (big_bytes n x ++ rest) ≡ Ok (x, rest)
unfolding number_at
number_back n x rest small =
    let count : length (big_bytes n x) ≡ n = length-bytes_high_first n x in
    let long : nat_lt (length (big_bytes n x ++ rest)) n ≡ false = rw (length-append (big_bytes n x) rest, count) (grind (arith, nat_tests)) in
    let after : drop n (big_bytes n x ++ rest) ≡ rest = ap (λ k. drop k (big_bytes n x ++ rest)) (sym count) ∙ drop-append_seam (big_bytes n x) rest in
    rw long (rw (big_number-reads_back n x rest small, after) refl)

-- a piece is read, whatever follows
pub piece_back : (piece rest : List ℕ) → piece_at (length piece) (piece ++ rest) ≡ Ok (piece, rest)
unfolding piece_at
piece_back piece rest =
    let long : nat_lt (length (piece ++ rest)) (length piece) ≡ false = rw (length-append piece rest) (grind (arith, nat_tests)) in
    rw long (rw (take-append_seam piece rest, drop-append_seam piece rest) refl)

-- ---- what is read is spelled

-- the bytes begin with n bytes, the number x, and the rest are bytes too
pub record BeginsWithNumber (n : ℕ) (bytes : List ℕ) (x : ℕ) (rest : List ℕ) : Type 0 where
  pub spelled : bytes ≡ big_bytes n x ++ rest
  pub fits : x < 256 ^ n
  pub are_bytes : AreBytes rest

-- the bytes begin with this piece of n bytes
pub record BeginsWithPiece (n : ℕ) (bytes piece rest : List ℕ) : Type 0 where
  pub joined : bytes ≡ piece ++ rest
  pub count : length piece ≡ n

-- a number that is read is spelled by the bytes that were read
pub number_read : (n : ℕ) (bytes : List ℕ) (p : ℕ × List ℕ) → AreBytes bytes → number_at n bytes ≡ Ok p → BeginsWithNumber n bytes p.0 p.1
unfolding number_at
number_read n bytes p are e =
    elim (cases_Bool (nat_lt (length bytes) n)) [
      | inl t ↦ absurd (let f = rw t at e in cc)
      | inr t ↦
          let f : Ok (big_number n bytes, drop n bytes) ≡ Ok p = rw t at e in
          let pair : (big_number n bytes, drop n bytes) ≡ p = cc in
          let long : n ≤ length bytes = grind (arith, nat_tests) in
          let here : BeginsWithNumber n bytes (big_number n bytes) (drop n bytes) = record {
            spelled = sym (take-append-drop n bytes) ∙ ap (λ front. front ++ drop n bytes) (sym (bytes_back n bytes long are));
            fits = number_fits n bytes are;
            are_bytes = All-drop (λ b. b < 256) n bytes are;
          } in
          subst (λ (q : ℕ × List ℕ). BeginsWithNumber n bytes q.0 q.1) pair here
    ]

-- a piece that is read stands first
pub piece_read : (n : ℕ) (bytes : List ℕ) (p : List ℕ × List ℕ) → piece_at n bytes ≡ Ok p → BeginsWithPiece n bytes p.0 p.1
unfolding piece_at
piece_read n bytes p e =
    elim (cases_Bool (nat_lt (length bytes) n)) [
      | inl t ↦ absurd (let f = rw t at e in cc)
      | inr t ↦
          let f : Ok (take n bytes, drop n bytes) ≡ Ok p = rw t at e in
          let pair : (take n bytes, drop n bytes) ≡ p = cc in
          let long : n ≤ length bytes = grind (arith, nat_tests) in
          let here : BeginsWithPiece n bytes (take n bytes) (drop n bytes) = record {
            joined = sym (take-append-drop n bytes);
            count = omega (arith, length-take n bytes);
          } in
          subst (λ (q : List ℕ × List ℕ). BeginsWithPiece n bytes q.0 q.1) pair here
    ]
