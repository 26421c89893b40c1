-- A way to read and a way to spell that fit each other: the words of the grammar keep this.
use Rattle.std.proofs.Common.{◌≡◌, ℕ, zero, suc, ◌^◌, ◌<◌, ◌≤◌, ◌==◌, Bool, true, false, inl, inr, List, [], ◌∷◌, ◌++◌, length, append_assoc, Option, None}
use Rattle.std.proofs.Common.{Some, Result, Ok, Err, if◌then◌else◌, refl, sym, ap, ◌∙◌, subst, arith, lit<}
use Rattle.std.specs.Prelude.{All, IfSome, flat_map, nat_le}
use Rattle.std.proofs.lemmas.Bool.{cases_Bool, eqb-true}
use Rattle.std.proofs.lemmas.Bool.Decides.{nat_tests}
use Rattle.std.proofs.lemmas.List.Elements.{All-cons, All-head, All-nil, All-tail}
use Rattle.byteorder.specs.Endian.{big_bytes}
use Rattle.sp_base.specs.Reading.{number_at, piece_at}
use Rattle.sp_base.specs.Refusals.{◌>>=◌}
use Rattle.sp_base.specs.Spelling.{AreBytes}
use Rattle.sp_base.proofs.NumberLemmas.{number_back, number_read, piece_back, piece_read}
use Rattle.sp_base.proofs.RefusalLemmas.{as_refusal_ok, then_ok}
use Rattle.sp_frame.specs.Grammar.{◌⊗◌, count, counted, counted_bytes, flagged, flagged_bytes, later, later_bytes, limited, made, number, piece, times}
use Rattle.sp_frame.specs.declared.refused.SectionRefused.{SectionRefused}
use Rattle.sp_frame.specs.declared.refused.SectionRefused.TheVariants as refusals

-- the bytes begin with these, and the rest are bytes too
pub record Begins (bytes front rest : List ℕ) : Type 0 where
  pub is : bytes ≡ front ++ rest
  pub are_bytes : AreBytes rest

-- what is spelled is read back, whatever follows, and what is read is spelled by the bytes that were read, and is in its range
pub record Fit {X : Type 0} (one : List ℕ → Result (X × List ℕ) SectionRefused) (spell : X → List ℕ) (IsGood : X → Type 0) : Type 0 where
  pub back : (x : X) (rest : List ℕ) → IsGood x → one (spell x ++ rest) ≡ Ok (x, rest)
  pub read : (bytes : List ℕ) (p : X × List ℕ) → AreBytes bytes → one bytes ≡ Ok p → Begins bytes (spell p.0) p.1 × IsGood p.0

-- ---- numbers and pieces
number_is_back : (n x : ℕ) (rest : List ℕ) → x < 256 ^ n → number n (big_bytes n x ++ rest) ≡ Ok (x, rest)
unfolding number
number_is_back n x rest small = rw (number_back n x rest small) refl

number_is_read : (n : ℕ) (bytes : List ℕ) (p : ℕ × List ℕ) → AreBytes bytes → number n bytes ≡ Ok p → Begins bytes (big_bytes n p.0) p.1 × (p.0 < 256 ^ n)
unfolding number
number_is_read n bytes p are e =
    let m = number_read n bytes p are (as_refusal_ok (λ short. refusals.Cut) (number_at n bytes) p e) in
    (record { is = m.spelled; are_bytes = m.are_bytes }, m.fits)

pub number_fit : (n : ℕ) → Fit (number n) (big_bytes n) (λ x. x < 256 ^ n)
number_fit n = record { back = number_is_back n; read = number_is_read n }

pub piece_is_back : (bytes rest : List ℕ) → piece (length bytes) (bytes ++ rest) ≡ Ok (bytes, rest)
unfolding piece
piece_is_back bytes rest = rw (piece_back bytes rest) refl

tail_of : (front rest : List ℕ) → AreBytes (front ++ rest) → AreBytes rest
tail_of [] rest are = are
tail_of (b ∷ front) rest are = tail_of front rest (All-tail (λ x. x < 256) b (front ++ rest) are)

front_of : (front rest : List ℕ) → AreBytes (front ++ rest) → AreBytes front
front_of [] rest are = All-nil (λ x. x < 256)
front_of (b ∷ front) rest are =
    All-cons (λ x. x < 256) b front (All-head (λ x. x < 256) b (front ++ rest) are) (front_of front rest (All-tail (λ x. x < 256) b (front ++ rest) are))

-- a piece that was read
pub record IsPiece (n : ℕ) (bytes : List ℕ) (p : List ℕ × List ℕ) : Type 0 where
  pub begins : Begins bytes p.0 p.1
  pub count : length p.0 ≡ n
  pub are_bytes : AreBytes p.0

pub piece_is_read : (n : ℕ) (bytes : List ℕ) (p : List ℕ × List ℕ) → AreBytes bytes → piece n bytes ≡ Ok p → IsPiece n bytes p
unfolding piece
piece_is_read n bytes p are e =
    let m = piece_read n bytes p (as_refusal_ok (λ short. refusals.Cut) (piece_at n bytes) p e) in
    let both : AreBytes (p.0 ++ p.1) = subst AreBytes m.joined are in
    record { begins = record { is = m.joined; are_bytes = tail_of p.0 p.1 both }; count = m.count; are_bytes = front_of p.0 p.1 both }

pub piece_fit : (n : ℕ) → Fit (piece n) (λ xs. xs) (λ xs. length xs ≡ n)
piece_fit n = record {
  back = λ xs rest long. ap (λ k. piece k (xs ++ rest)) (sym long) ∙ piece_is_back xs rest;
  read = λ bytes p are e. let f = piece_is_read n bytes p are e in (f.begins, f.count);
}

-- ---- one part and the next
-- both parts, the bytes in one
pub joined : (bytes front middle back rest : List ℕ) → Begins bytes front middle → Begins middle back rest → Begins bytes (front ++ back) rest
joined bytes front middle back rest first second = record {
  is = first.is ∙ ap (λ bs. front ++ bs) second.is ∙ sym (append_assoc front back rest);
  are_bytes = second.are_bytes;
}

module _ {X Y : Type 0} {one : List ℕ → Result (X × List ℕ) SectionRefused} {spell : X → List ℕ} {IsGood : X → Type 0} where
  both_back : {two : List ℕ → Result (Y × List ℕ) SectionRefused} {spell_two : Y → List ℕ} {IsGoodTwo : Y → Type 0}
      → Fit one spell IsGood → Fit two spell_two IsGoodTwo → (x : X) (y : Y) (rest : List ℕ) → IsGood x → IsGoodTwo y
      → (one ⊗ two) ((spell x ++ spell_two y) ++ rest) ≡ Ok ((x, y), rest)
  both_back {two} {spell_two} first second x y rest good good_two =
      rw (append_assoc (spell x) (spell_two y) rest) (rw (first.back x (spell_two y ++ rest) good) (rw (second.back y rest good_two) refl))

  both_read : {two : List ℕ → Result (Y × List ℕ) SectionRefused} {spell_two : Y → List ℕ} {IsGoodTwo : Y → Type 0}
      → Fit one spell IsGood → Fit two spell_two IsGoodTwo → (bytes : List ℕ) (p : (X × Y) × List ℕ) → AreBytes bytes → (one ⊗ two) bytes ≡ Ok p
      → Begins bytes (spell p.0.0 ++ spell_two p.0.1) p.1 × (IsGood p.0.0 × IsGoodTwo p.0.1)
  both_read {two} {spell_two} {IsGoodTwo} first second bytes p are e =
      let s = then_ok (one bytes) (λ x. two x.1 >>= λ y. Ok ((x.0, y.0), y.1)) p e in
      let t = then_ok (two s.0.1) (λ y. Ok ((s.0.0, y.0), y.1)) p s.2 in
      let f = first.read bytes s.0 are s.1 in
      let g = second.read s.0.1 t.0 f.0.are_bytes t.1 in
      let same : ((s.0.0, t.0.0), t.0.1) ≡ p = let h : Ok ((s.0.0, t.0.0), t.0.1) ≡ Ok p = t.2 in cc in
      subst (λ (q : (X × Y) × List ℕ). Begins bytes (spell q.0.0 ++ spell_two q.0.1) q.1 × (IsGood q.0.0 × IsGoodTwo q.0.1)) same
      (joined bytes (spell s.0.0) s.0.1 (spell_two t.0.0) t.0.1 f.0 g.0, (f.1, g.1))

  pub both_fit : {two : List ℕ → Result (Y × List ℕ) SectionRefused} {spell_two : Y → List ℕ} {IsGoodTwo : Y → Type 0}
      → Fit one spell IsGood → Fit two spell_two IsGoodTwo → Fit (one ⊗ two) (λ p. spell p.0 ++ spell_two p.1) (λ p. IsGood p.0 × IsGoodTwo p.1)
  both_fit first second = record {
    back = λ p rest good. both_back first second p.0 p.1 rest good.0 good.1;
    read = both_read first second;
  }

  -- ---- a part made into a value of another type, where what is good has one way back
  pub made_good_fit : (make : X → Y) (parts : Y → X) (IsFine : Y → Type 0) → ((y : Y) → IsFine y → make (parts y) ≡ y)
      → ((x : X) → IsGood x → parts (make x) ≡ x) → ((y : Y) → IsFine y → IsGood (parts y)) → ((x : X) → IsGood x → IsFine (make x)) → Fit one spell IsGood
      → Fit (made make one) (λ y. spell (parts y)) IsFine
  made_good_fit make parts IsFine whole again to from fit = record {
    back = λ y rest fine. rw (fit.back (parts y) rest (to y fine)) (ap (λ z. Ok (z, rest)) (whole y fine));
    read = λ bytes p are e.
        let s = then_ok (one bytes) (λ x. Ok (make x.0, x.1)) p e in
        let f = fit.read bytes s.0 are s.1 in
        let same : (make s.0.0, s.0.1) ≡ p = let h : Ok (make s.0.0, s.0.1) ≡ Ok p = s.2 in cc in
        let here : Begins bytes (spell (parts (make s.0.0))) s.0.1 × IsFine (make s.0.0) =
        (subst (λ x. Begins bytes (spell x) s.0.1) (sym (again s.0.0 f.1)) f.0, from s.0.0 f.1) in
        subst (λ (q : Y × List ℕ). Begins bytes (spell (parts q.0)) q.1 × IsFine q.0) same here;
  }

  pub made_fit : (make : X → Y) (parts : Y → X) → ((y : Y) → make (parts y) ≡ y) → ((x : X) → parts (make x) ≡ x) → Fit one spell IsGood
      → Fit (made make one) (λ y. spell (parts y)) (λ y. IsGood (parts y))
  made_fit make parts whole again fit =
      made_good_fit make parts (λ y. IsGood (parts y)) (λ y fine. whole y) (λ x good. again x) (λ y fine. fine)
      (λ x good. subst IsGood (sym (again x)) good) fit

-- ---- limited numbers, and counts
limited_is_back : (n most x : ℕ) (rest : List ℕ) → most < 256 ^ n → x ≤ most → limited n most (big_bytes n x ++ rest) ≡ Ok (x, rest)
unfolding limited
limited_is_back n most x rest small few =
    let below : nat_le x most ≡ true = grind (arith, nat_tests) in
    let fits : x < 256 ^ n = omega (arith, small, few) in
    rw (number_is_back n x rest fits) (rw below refl)

few_enough : (most : ℕ) (n p : ℕ × List ℕ) → (if nat_le n.0 most then Ok n else Err refusals.Count) ≡ Ok p → (n ≡ p) × (n.0 ≤ most)
few_enough most n p e = elim (cases_Bool (nat_le n.0 most)) [
  | inr t ↦ absurd (let f = rw t at e in cc)
  | inl t ↦ (let f : Ok n ≡ Ok p = rw t at e in cc, grind (arith, nat_tests))
]

limited_is_read : (n most : ℕ) (bytes : List ℕ) (p : ℕ × List ℕ) → AreBytes bytes → limited n most bytes ≡ Ok p
    → Begins bytes (big_bytes n p.0) p.1 × (p.0 ≤ most)
unfolding limited
limited_is_read n most bytes p are e =
    let s = then_ok (number n bytes) (λ x. if nat_le x.0 most then Ok x else Err refusals.Count) p e in
    let f = number_is_read n bytes s.0 are s.1 in
    let few = few_enough most s.0 p s.2 in
    subst (λ (q : ℕ × List ℕ). Begins bytes (big_bytes n q.0) q.1 × (q.0 ≤ most)) few.0 (f.0, few.1)

pub limited_fit : (n most : ℕ) → most < 256 ^ n → Fit (limited n most) (big_bytes n) (λ x. x ≤ most)
limited_fit n most small = record { back = λ x rest few. limited_is_back n most x rest small few; read = limited_is_read n most }

count_is_back : (most x : ℕ) (rest : List ℕ) → most < 256 → x ≤ most → count most (big_bytes 1 x ++ rest) ≡ Ok (x, rest)
count_is_back most x rest small few = limited_is_back 1 most x rest small few

count_is_read : (most : ℕ) (bytes : List ℕ) (p : ℕ × List ℕ) → AreBytes bytes → count most bytes ≡ Ok p → Begins bytes (big_bytes 1 p.0) p.1 × (p.0 ≤ most)
count_is_read most bytes p are e = limited_is_read 1 most bytes p are e

-- ---- so many, one after the other
-- so many were read
record AreRead {X : Type 0} (spell : X → List ℕ) (IsGood : X → Type 0) (n : ℕ) (bytes : List ℕ) (p : List X × List ℕ) : Type 0 where
  begins : Begins bytes (flat_map spell p.0) p.1
  good : All IsGood p.0
  many : length p.0 ≡ n

-- none was read
without : {X : Type 0} (spell : X → List ℕ) (IsGood : X → Type 0) (bytes rest : List ℕ) (p : Option X × List ℕ) → Begins bytes (big_bytes 1 0) rest
    → (None, rest) ≡ p → Begins bytes (flagged_bytes spell p.0) p.1 × IfSome p.0 IsGood
without {X} spell IsGood bytes rest p begins same =
    subst (λ (q : Option X × List ℕ). Begins bytes (flagged_bytes spell q.0) q.1 × IfSome q.0 IsGood) same (begins, tt)

when_later : {X : Type 0} (IsGood : X → Type 0) (x : Option X) → IfSome x IsGood → IfSome x (λ y. (false ≡ false) × IsGood y)
when_later IsGood None good = tt
when_later IsGood (Some x) good = (refl, good)

later_when : {X : Type 0} (IsGood : X → Type 0) (x : Option X) → IfSome x (λ y. (false ≡ false) × IsGood y) → IfSome x IsGood
later_when IsGood None good = tt
later_when IsGood (Some x) good = good.1

none_first : {X : Type 0} (IsGood : X → Type 0) (x : Option X) → IfSome x (λ y. (true ≡ false) × IsGood y) → x ≡ None
none_first IsGood None good = refl
none_first IsGood (Some x) good = absurd (let wrong : true ≡ false = good.0 in cc)

module _ {X : Type 0} {one : List ℕ → Result (X × List ℕ) SectionRefused} {spell : X → List ℕ} {IsGood : X → Type 0} where
  times_back : Fit one spell IsGood → (xs : List X) (rest : List ℕ) → All IsGood xs → times one (length xs) (flat_map spell xs ++ rest) ≡ Ok (xs, rest)
  times_back fit [] rest good = refl
  times_back fit (x ∷ xs) rest good =
      rw (append_assoc (spell x) (flat_map spell xs) rest)
      (rw (fit.back x (flat_map spell xs ++ rest) (All-head IsGood x xs good)) (rw (times_back fit xs rest (All-tail IsGood x xs good)) refl))

  times_read : Fit one spell IsGood → (n : ℕ) (bytes : List ℕ) (p : List X × List ℕ) → AreBytes bytes → times one n bytes ≡ Ok p
      → AreRead spell IsGood n bytes p
  times_read fit zero bytes p are e =
      let same : ([], bytes) ≡ p = cc in
      let here : AreRead spell IsGood zero bytes ([], bytes) = record { begins = record { is = refl; are_bytes = are }; good = All-nil IsGood; many = refl } in
      subst (λ (q : List X × List ℕ). AreRead spell IsGood zero bytes q) same here
  times_read fit (suc n) bytes p are e =
      let s = then_ok (one bytes) (λ x. times one n x.1 >>= λ xs. Ok (x.0 ∷ xs.0, xs.1)) p e in
      let t = then_ok (times one n s.0.1) (λ xs. Ok (s.0.0 ∷ xs.0, xs.1)) p s.2 in
      let f = fit.read bytes s.0 are s.1 in
      let g = times_read fit n s.0.1 t.0 f.0.are_bytes t.1 in
      let same : (s.0.0 ∷ t.0.0, t.0.1) ≡ p = let h : Ok (s.0.0 ∷ t.0.0, t.0.1) ≡ Ok p = t.2 in cc in
      let here : AreRead spell IsGood (suc n) bytes (s.0.0 ∷ t.0.0, t.0.1) = record {
        begins = joined bytes (spell s.0.0) s.0.1 (flat_map spell t.0.0) t.0.1 f.0 g.begins;
        good = All-cons IsGood s.0.0 t.0.0 f.1 g.good;
        many = ap suc g.many;
      } in
      subst (λ (q : List X × List ℕ). AreRead spell IsGood (suc n) bytes q) same here

  counted_back : Fit one spell IsGood → (most : ℕ) → most < 256 → (xs : List X) (rest : List ℕ) → length xs ≤ most → All IsGood xs
      → counted one most (counted_bytes spell xs ++ rest) ≡ Ok (xs, rest)
  counted_back fit most small xs rest few good =
      rw (append_assoc (big_bytes 1 (length xs)) (flat_map spell xs) rest)
      (rw (count_is_back most (length xs) (flat_map spell xs ++ rest) small few) (times_back fit xs rest good))

  counted_read : Fit one spell IsGood → (most : ℕ) (bytes : List ℕ) (p : List X × List ℕ) → AreBytes bytes → counted one most bytes ≡ Ok p
      → Begins bytes (counted_bytes spell p.0) p.1 × ((length p.0 ≤ most) × All IsGood p.0)
  counted_read fit most bytes p are e =
      let s = then_ok (count most bytes) (λ n. times one n.0 n.1) p e in
      let f = count_is_read most bytes s.0 are s.1 in
      let g = times_read fit s.0.0 s.0.1 p f.0.are_bytes s.2 in
      let first : Begins bytes (big_bytes 1 (length p.0)) s.0.1 = subst (λ n. Begins bytes (big_bytes 1 n) s.0.1) (sym g.many) f.0 in
      (joined bytes (big_bytes 1 (length p.0)) s.0.1 (flat_map spell p.0) p.1 first g.begins, (omega (arith, f.1, g.many), g.good))

  pub counted_fit : (most : ℕ) → most < 256 → Fit one spell IsGood → Fit (counted one most) (counted_bytes spell) (λ xs. (length xs ≤ most) × All IsGood xs)
  counted_fit most small fit = record {
    back = λ xs rest good. counted_back fit most small xs rest good.0 good.1;
    read = counted_read fit most;
  }

  -- ---- flags
  flagged_back : Fit one spell IsGood → (x : Option X) (rest : List ℕ) → IfSome x IsGood → flagged one (flagged_bytes spell x ++ rest) ≡ Ok (x, rest)
  flagged_back fit None rest good = rw (count_is_back 1 0 rest (lit< tt) (omega arith)) refl
  flagged_back fit (Some x) rest good =
      rw (append_assoc (big_bytes 1 1) (spell x) rest) (rw (count_is_back 1 1 (spell x ++ rest) (lit< tt) (omega arith)) (rw (fit.back x rest good) refl))

  with_one : Fit one spell IsGood → (bytes middle : List ℕ) (p : Option X × List ℕ) → Begins bytes (big_bytes 1 1) middle
      → (one middle >>= λ x. Ok (Some x.0, x.1)) ≡ Ok p → Begins bytes (flagged_bytes spell p.0) p.1 × IfSome p.0 IsGood
  with_one fit bytes middle p begins e =
      let s = then_ok (one middle) (λ x. Ok (Some x.0, x.1)) p e in
      let f = fit.read middle s.0 begins.are_bytes s.1 in
      let same : (Some s.0.0, s.0.1) ≡ p = let h : Ok (Some s.0.0, s.0.1) ≡ Ok p = s.2 in cc in
      subst (λ (q : Option X × List ℕ). Begins bytes (flagged_bytes spell q.0) q.1 × IfSome q.0 IsGood) same
      (joined bytes (big_bytes 1 1) middle (spell s.0.0) s.0.1 begins f.0, f.1)

  flagged_read : Fit one spell IsGood → (bytes : List ℕ) (p : Option X × List ℕ) → AreBytes bytes → flagged one bytes ≡ Ok p
      → Begins bytes (flagged_bytes spell p.0) p.1 × IfSome p.0 IsGood
  flagged_read fit bytes p are e =
      let s = then_ok (count 1 bytes) (λ flag. if flag.0 == 0 then Ok (None, flag.1) else one flag.1 >>= λ x. Ok (Some x.0, x.1)) p e in
      let f = count_is_read 1 bytes s.0 are s.1 in
      elim (cases_Bool (s.0.0 == 0)) [
        | inl t ↦
            let g : Ok (None, s.0.1) ≡ Ok p = rw t at s.2 in
            let zero_is : s.0.0 ≡ 0 = eqb-true s.0.0 0 t in
            without spell IsGood bytes s.0.1 p (subst (λ n. Begins bytes (big_bytes 1 n) s.0.1) zero_is f.0) cc
        | inr t ↦
            let g : (one s.0.1 >>= λ x. Ok (Some x.0, x.1)) ≡ Ok p = rw t at s.2 in
            let few : s.0.0 ≤ 1 = f.1 in
            let one_is : s.0.0 ≡ 1 = grind (arith, nat_tests) in
            with_one fit bytes s.0.1 p (subst (λ n. Begins bytes (big_bytes 1 n) s.0.1) one_is f.0) g
      ]

  pub flagged_fit : Fit one spell IsGood → Fit (flagged one) (flagged_bytes spell) (λ x. IfSome x IsGood)
  flagged_fit fit = record { back = flagged_back fit; read = flagged_read fit }

  -- ---- a part that format 1 lacks
  pub later_fit : (first : Bool) → Fit one spell IsGood → Fit (later one first) (later_bytes spell first) (λ x. IfSome x (λ y. (first ≡ false) × IsGood y))
  later_fit true fit = record {
    back = λ x rest good. ap (λ z. Ok (z, rest)) (sym (none_first IsGood x good));
    read = λ bytes p are e.
        let same : (None, bytes) ≡ p = let f : Ok (None, bytes) ≡ Ok p = e in cc in
        subst (λ (q : Option X × List ℕ). Begins bytes [] q.1 × IfSome q.0 (λ y. (true ≡ false) × IsGood y)) same (record { is = refl; are_bytes = are }, tt);
  }
  later_fit false fit = record {
    back = λ x rest good. flagged_back fit x rest (later_when IsGood x good);
    read = λ bytes p are e. let f = flagged_read fit bytes p are e in (f.0, when_later IsGood p.0 f.1);
  }
