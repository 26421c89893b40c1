-- A test of two lists of bytes that says whether they are equal.
use Rattle.std.proofs.Common.{◌≡◌, ℕ, Bool, inl, inr, List, sym, ◌∙◌}
use Rattle.std.specs.Prelude.{◌↔◌, IsTrue, nat_eq}
use Rattle.std.specs.Cmp.Lexicographic.{other_text, pointwise, same_text}
use Rattle.std.proofs.lemmas.Bool.{cases_Bool}

pub same_answer : (v : Bool) (xs ys : List ℕ) → IsTrue v ↔ (xs ≡ ys) → v ≡ pointwise nat_eq xs ys
same_answer v xs ys both = elim (cases_Bool (pointwise nat_eq xs ys)) [
  | inl t ↦ both.1 (same_text xs ys (sym t)) ∙ sym t
  | inr f ↦ elim (cases_Bool v) [
    | inl is ↦ absurd (other_text xs ys (sym f) (both.0 is))
    | inr not_is ↦ not_is ∙ sym f
  ]
]
