-- The numbers of a node after those of one became others.
use Rattle.std.proofs.Common.{◌≡◌, ℕ, ◌-◌, ◌<◌, List, length, refl, sym, ap, subst, ◌∙◌, arith, inl, inr}
use Rattle.std.specs.Prelude.{slice_index_or, slice_set}
use Rattle.std.proofs.lemmas.Bool.{cases_eq}
use Rattle.std.proofs.lemmas.List.{get_or-set_other, get_or-set_same, length-set}
use Rattle.sp_base.specs.declared.id.NodeId.{NodeId}
use Rattle.sp_keystate.specs.declared.numbers.Numbers.{Numbers}
use Rattle.sp_keystate.specs.States.{first_numbers}
use Rattle.sp_epoch.specs.Numbers.{IsOneOf, numbers_at, with_numbers}

pub set_same : (old : List Numbers) (i k : ℕ) (n : Numbers) → i < length old → k ≡ i → slice_index_or (slice_set old i n) k first_numbers ≡ n
set_same old i k n inside same = ap (λ (j : ℕ). slice_index_or (slice_set old i n) j first_numbers) same ∙ get_or-set_same old i n first_numbers inside

-- a node has the numbers that it was given
pub at_own : (old : List Numbers) (u v : NodeId) (n : Numbers) → IsOneOf old u → v.0 ≡ u.0 → numbers_at (with_numbers old u n) v ≡ n
at_own old u v n one same = set_same old (u.0 - 1) (v.0 - 1) n (omega (arith, one.0, one.1)) (ap (λ (i : ℕ). i - 1) same)

-- each other node keeps its numbers
pub at_other : (old : List Numbers) (u v : NodeId) (n : Numbers) → IsOneOf old u → IsOneOf old v → (v.0 ≡ u.0 → ⊥)
    → numbers_at (with_numbers old u n) v ≡ numbers_at old v
at_other old u v n one also other =
    get_or-set_other old (u.0 - 1) (v.0 - 1) n first_numbers (λ same. other (omega (arith, same, one.0, also.0)))

-- what holds of the numbers of each node, and of the new ones, holds of each after that
pub any_numbers : (P : Numbers → Type 0) (old : List Numbers) (u v : NodeId) (n : Numbers) → IsOneOf old u → P n → P (numbers_at old v)
    → P (numbers_at (with_numbers old u n) v)
any_numbers P old u v n one new was = elim (cases_eq (v.0 - 1) (u.0 - 1)) [
  | inl same ↦ subst P (sym (set_same old (u.0 - 1) (v.0 - 1) n (omega (arith, one.0, one.1)) same)) new
  | inr other ↦ subst P (sym (get_or-set_other old (u.0 - 1) (v.0 - 1) n first_numbers other)) was
]

-- the list of numbers stays as long as it was
pub as_many : (old : List Numbers) (u : NodeId) (n : Numbers) → length (with_numbers old u n) ≡ length old
as_many old u n = length-set old (u.0 - 1) n
