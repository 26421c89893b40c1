-- The nodes of a header are those of 1 to its number of nodes.
use Rattle.std.proofs.Common.{◌≡◌, ℕ, zero, suc, ◌+◌, ◌<◌, ◌≤◌, Bool, true, false, eqb, List, map, refl, inl, inr, arith}
use Rattle.std.specs.List.{list_any, range_with_len}
use Rattle.std.proofs.lemmas.Bool.{cases_Bool, eqb-false, ne_eqb}
use Rattle.sp_base.specs.declared.id.NodeId.{NodeId}
use Rattle.sp_runs.specs.Scenarios.{node_key, setting_of}
use Rattle.sp_runs.specs.Settings.{is_node}
use Rattle.sp_schedule_events.specs.declared.scenario.Scenario.{Scenario}
use Rattle.sp_topology.specs.declared.topology.LmsHeight.{LmsHeight}
use Rattle.sp_topology.specs.declared.topology.NodeKey.{NodeKey}

module _ (h : LmsHeight) (seed : List ℕ) (u : ℕ) where
  -- one of the n nodes from a on has this number
  abbrev has : ℕ → ℕ → Bool
  has a n = list_any (λ m. eqb m.0 u) (map (λ (k : NodeKey). k.id) (map (node_key h seed) (range_with_len a n)))

  has_it : (a n : ℕ) → a ≤ u → u < a + n → has a n ≡ true
  has_it a zero low high = absurd (omega (arith, low, high))
  has_it a (suc n) low high = elim (cases_Bool (eqb a u)) [
    | inl same ↦ rw same refl
    | inr other ↦ rw (other, has_it (a + 1) n (omega (arith, low, eqb-false a u other)) (omega (arith, high))) refl
  ]

  below : (a n : ℕ) → u < a → has a n ≡ false
  below a zero low = refl
  below a (suc n) low = rw (ne_eqb a u (λ same. omega (arith, low, same)), below (a + 1) n (omega (arith, low))) refl

  above : (a n : ℕ) → a + n ≤ u → has a n ≡ false
  above a zero high = refl
  above a (suc n) high = rw (ne_eqb a u (λ same. omega (arith, high, same)), above (a + 1) n (omega (arith, high))) refl

pub is_numbered : (s : Scenario) (u : NodeId) → 1 ≤ u.0 → u.0 ≤ s.graph.nodes → is_node (setting_of s) u ≡ true
is_numbered s u low high = has_it s.height s.seed u.0 1 s.graph.nodes low (omega (arith, high))

pub is_below : (s : Scenario) (u : NodeId) → u.0 < 1 → is_node (setting_of s) u ≡ false
is_below s u low = below s.height s.seed u.0 1 s.graph.nodes low

pub is_above : (s : Scenario) (u : NodeId) → s.graph.nodes < u.0 → is_node (setting_of s) u ≡ false
is_above s u high = above s.height s.seed u.0 1 s.graph.nodes (omega (arith, high))
