-- The first number of which a fact doesn't hold: of several facts, of facts for each number, and along events.
use Rattle.std.proofs.Common.{◌≡◌, ◌<◌, ◌≤◌, ℕ, ◌+◌, min, subst, inl, inr, arith}
use Rattle.std.proofs.lemmas.Bool.{cases_lt}
use Rattle.sp_audit.specs.Firsts.{IsFirst}

-- a fact that holds of all has no first number of which it doesn't
pub first_none : (P : ℕ → Type 0) (last : ℕ) → ((m : ℕ) → m ≤ last → P m) → IsFirst P last (last + 1)
first_none P last all = record {
  within = omega arith;
  before = λ m below. all m (omega arith);
  fails = λ within. absurd (omega arith);
}

-- of two facts
pub first_both : (P Q : ℕ → Type 0) (last a b : ℕ) → IsFirst P last a → IsFirst Q last b → IsFirst (λ m. P m × Q m) last (min a b)
first_both P Q last a b p q = elim (cases_lt b a) [
  | inl less ↦ subst (λ (n : ℕ). IsFirst (λ m. P m × Q m) last n) (omega arith) (record {
    within = q.within;
    before = λ m below. (p.before m (omega arith), q.before m below);
    fails = λ within both. q.fails within both.1;
  })
  | inr most ↦ subst (λ (n : ℕ). IsFirst (λ m. P m × Q m) last n) (omega arith) (record {
    within = p.within;
    before = λ m below. (p.before m below, q.before m (omega arith));
    fails = λ within both. p.fails within both.0;
  })
]

-- of a fact that is the same
pub first_same : (P Q : ℕ → Type 0) (last n : ℕ) → ((m : ℕ) → P m → Q m) → ((m : ℕ) → Q m → P m) → IsFirst P last n → IsFirst Q last n
first_same P Q last n there back p = record {
  within = p.within;
  before = λ m below. there m (p.before m below);
  fails = λ within is. p.fails within (back n is);
}

-- of a fact for each number below one more
pub first_more : (P : ℕ → ℕ → Type 0) (last i a b : ℕ) → IsFirst (λ m. (k : ℕ) → k < i → P k m) last a → IsFirst (P i) last b
    → IsFirst (λ m. (k : ℕ) → k < i + 1 → P k m) last (min a b)
first_more P last i a b below here =
    first_same (λ m. ((k : ℕ) → k < i → P k m) × P i m) (λ m. (k : ℕ) → k < i + 1 → P k m) last (min a b)
    (λ m both k under. elim (cases_lt k i) [
      | inl less ↦ both.0 k less
      | inr more ↦ subst (λ (j : ℕ). P j m) (let same : i ≡ k = omega arith in same) both.1
    ])
    (λ m all. (λ k under. all k (omega arith), all i (omega arith)))
    (first_both (λ m. (k : ℕ) → k < i → P k m) (P i) last a b below here)

-- ---- along events

-- what holds up to a place holds up to the next, where it holds there
pub holds_more : (P : ℕ → Type 0) (place : ℕ) → ((m : ℕ) → m ≤ place → P m) → P (place + 1) → (m : ℕ) → m ≤ place + 1 → P m
holds_more P place all next m most = elim (cases_lt m (place + 1)) [
  | inl less ↦ all m (omega arith)
  | inr more ↦ subst P (let same : place + 1 ≡ m = omega arith in same) next
]

-- it fails first where it holds up to the place before
pub first_here : (P : ℕ → Type 0) (last place : ℕ) → place < last → ((m : ℕ) → m ≤ place → P m) → (P (place + 1) → ⊥) → IsFirst P last (place + 1)
first_here P last place under all fails = record {
  within = omega arith;
  before = λ m below. all m (omega arith);
  fails = λ within is. fails is;
}

-- and nowhere where it holds up to the last
pub first_nowhere : (P : ℕ → Type 0) (last place : ℕ) → last ≤ place → ((m : ℕ) → m ≤ place → P m) → IsFirst P last (last + 1)
first_nowhere P last place past all = first_none P last (λ m within. all m (omega arith))
