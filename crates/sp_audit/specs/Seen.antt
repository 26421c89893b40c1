-- Numbers that were seen, in a set.
use Rattle.std.specs.Prelude.{ℕ, ◌≡◌, Bool, true, false, List, ◌++◌}
use Rattle.std.specs.BTreeSet.{BTreeSet, contains}
use Rattle.std.specs.Ordering.{nat_cmp}
use Rattle.laws_runs.specs.Priority.{AreOnce}
use Rattle.sp_rules.specs.Window.{is_in}

-- the set has just these
abbrev pub AreSeen : BTreeSet ℕ → List ℕ → Type 0
AreSeen seen numbers = (n : ℕ) → contains nat_cmp seen n ≡ is_in n numbers

-- whether numbers that came after others were new, each of them: then the set has them too
abbrev pub IsTaken : (before these : List ℕ) → BTreeSet ℕ → Bool → Type 0
IsTaken before these seen true = AreSeen seen (before ++ these) × AreOnce (before ++ these)
IsTaken before these seen false = AreOnce (before ++ these) → ⊥

-- whatever came before, none of it twice
abbrev pub TakesIn : (old : BTreeSet ℕ) (these : List ℕ) (new : BTreeSet ℕ) → Bool → Type 0
TakesIn old these new fine = (before : List ℕ) → AreSeen old before → AreOnce before → IsTaken before these new fine
