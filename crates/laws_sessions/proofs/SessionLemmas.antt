-- The rows of a table: each port has one at most, and a request changes the one of its port alone.
use Rattle.std.proofs.Common.{◌≡◌, ℕ, ◌+◌, true, false, cond, inl, inr, List, [], ◌∷◌, ◌++◌, length, Option, Some, None, refl, sym, ap, ◌∙◌, arith}
use Rattle.std.specs.Prelude.{find, ⊤}
use Rattle.std.proofs.lemmas.Bool.{cases_Bool, eqb-true}
use Rattle.std.proofs.lemmas.Bool.Decides.{nat_tests}
use Rattle.sp_base.specs.Rows.{replace_where}
use Rattle.sp_rules.specs.Choices.{less_first}
use Rattle.sp_client.specs.Tables.{Session, has_port}

-- no port has two rows
abbrev pub AreSingle : List Session → Type 0
AreSingle [] = ⊤
AreSingle (s ∷ ss) = (find (has_port s.port) ss ≡ None) × AreSingle ss

-- a row of one port is none of another
other_port : (s : Session) (p q : ℕ) → has_port p s ≡ true → (q ≡ p → ⊥) → has_port q s ≡ false
other_port s p q is apart = grind (arith, nat_tests)

-- ---- a row at the end

pub find_push_own : (ss : List Session) (y : Session) (p : ℕ) → find (has_port p) ss ≡ None → has_port p y ≡ true
    → find (has_port p) (ss ++ y ∷ []) ≡ Some y
find_push_own [] y p none is = rw is refl
find_push_own (s ∷ ss) y p none is = elim (cases_Bool (has_port p s)) [
  | inl here ↦ absurd (let found = rw here at none in cc)
  | inr not_here ↦ rw not_here (find_push_own ss y p (rw not_here at none) is)
]

pub find_push_other : (ss : List Session) (y : Session) (q : ℕ) → has_port q y ≡ false → find (has_port q) (ss ++ y ∷ []) ≡ find (has_port q) ss
find_push_other [] y q off = rw off refl
find_push_other (s ∷ ss) y q off = ap (λ (rest : Option Session). cond (has_port q s) (Some s) rest) (find_push_other ss y q off)

pub single_push : (ss : List Session) (y : Session) → find (has_port y.port) ss ≡ None → AreSingle ss → AreSingle (ss ++ y ∷ [])
single_push [] y none single = (refl, tt)
single_push (s ∷ ss) y none single = elim (cases_Bool (has_port y.port s)) [
  | inl here ↦ absurd (let found = rw here at none in cc)
  | inr not_here ↦
      let apart : has_port s.port y ≡ false = grind (arith, nat_tests) in
      (find_push_other ss y s.port apart ∙ single.0, single_push ss y (rw not_here at none) single.1)
]

-- ---- one row less

pub find_less_own : (ss : List Session) (p : ℕ) → AreSingle ss → find (has_port p) (less_first (has_port p) ss) ≡ None
find_less_own [] p single = refl
find_less_own (s ∷ ss) p single = elim (cases_Bool (has_port p s)) [
  | inl here ↦ rw here (ap (λ (x : ℕ). find (has_port x) ss) (sym (eqb-true s.port p here)) ∙ single.0)
  | inr not_here ↦ rw (not_here, not_here) (find_less_own ss p single.1)
]

pub find_less_other : (ss : List Session) (p q : ℕ) → (q ≡ p → ⊥) → find (has_port q) (less_first (has_port p) ss) ≡ find (has_port q) ss
find_less_other [] p q apart = refl
find_less_other (s ∷ ss) p q apart = elim (cases_Bool (has_port p s)) [
  | inl here ↦ rw (here, other_port s p q here apart) refl
  | inr not_here ↦ rw not_here (ap (λ (rest : Option Session). cond (has_port q s) (Some s) rest) (find_less_other ss p q apart))
]

pub single_less : (ss : List Session) (p : ℕ) → AreSingle ss → AreSingle (less_first (has_port p) ss)
single_less [] p single = tt
single_less (s ∷ ss) p single = elim (cases_Bool (has_port p s)) [
  | inl here ↦ rw here single.1
  | inr not_here ↦
      let apart : s.port ≡ p → ⊥ = λ same. grind (arith, nat_tests) in
      rw not_here (find_less_other ss p s.port apart ∙ single.0, single_less ss p single.1)
]

pub length_less : (ss : List Session) (p : ℕ) (x : Session) → find (has_port p) ss ≡ Some x → length (less_first (has_port p) ss) + 1 ≡ length ss
length_less [] p x found = absurd (cc)
length_less (s ∷ ss) p x found = elim (cases_Bool (has_port p s)) [
  | inl here ↦ rw here (omega arith)
  | inr not_here ↦ let rest = length_less ss p x (rw not_here at found) in rw not_here (omega (arith, rest))
]

-- ---- a row in the place of one

pub find_replace_own : (ss : List Session) (y x : Session) (p : ℕ) → find (has_port p) ss ≡ Some x → has_port p y ≡ true
    → find (has_port p) (replace_where (has_port p) y ss) ≡ Some y
find_replace_own [] y x p found is = absurd (cc)
find_replace_own (s ∷ ss) y x p found is = elim (cases_Bool (has_port p s)) [
  | inl here ↦ rw (here, is) refl
  | inr not_here ↦ rw (not_here, not_here) (find_replace_own ss y x p (rw not_here at found) is)
]

pub find_replace_other : (ss : List Session) (y : Session) (p q : ℕ) → has_port p y ≡ true → (q ≡ p → ⊥)
    → find (has_port q) (replace_where (has_port p) y ss) ≡ find (has_port q) ss
find_replace_other [] y p q is apart = refl
find_replace_other (s ∷ ss) y p q is apart = elim (cases_Bool (has_port p s)) [
  | inl here ↦ rw (here, other_port s p q here apart, other_port y p q is apart) refl
  | inr not_here ↦ rw not_here (ap (λ (rest : Option Session). cond (has_port q s) (Some s) rest) (find_replace_other ss y p q is apart))
]

pub single_replace : (ss : List Session) (y : Session) (p : ℕ) → has_port p y ≡ true → AreSingle ss → AreSingle (replace_where (has_port p) y ss)
single_replace [] y p is single = tt
single_replace (s ∷ ss) y p is single = elim (cases_Bool (has_port p s)) [
  | inl here ↦
      let same : s.port ≡ y.port = eqb-true s.port p here ∙ sym (eqb-true y.port p is) in
      rw here (ap (λ (x : ℕ). find (has_port x) ss) (sym same) ∙ single.0, single.1)
  | inr not_here ↦
      let apart : s.port ≡ p → ⊥ = λ same. grind (arith, nat_tests) in
      rw not_here (find_replace_other ss y p s.port is apart ∙ single.0, single_replace ss y p is single.1)
]

pub length_replace : (ss : List Session) (y : Session) (p : ℕ) → length (replace_where (has_port p) y ss) ≡ length ss
length_replace [] y p = refl
length_replace (s ∷ ss) y p = elim (cases_Bool (has_port p s)) [
  | inl here ↦ rw here refl
  | inr not_here ↦ rw not_here (omega (arith, length_replace ss y p))
]
