-- The nodes of a header are those from 1 to its number.
use Rattle.std.proofs.Common.{◌≡◌, ℕ, zero, suc, ◌+◌, Bool, nat_le, true, List, map, ap, ◌∙◌, arith}
use Rattle.std.specs.Prelude.{◌==◌, ◌&&◌, ◌||◌}
use Rattle.std.specs.List.{list_any, range_with_len}
use Rattle.std.proofs.lemmas.Bool.{eqb-true}
use Rattle.std.proofs.lemmas.Bool.Decides.{nat_tests}
use Rattle.sp_base.specs.declared.id.NodeId.{NodeId}
use Rattle.sp_schedule_events.specs.declared.scenario.Scenario.{Scenario}
use Rattle.sp_topology.specs.declared.topology.LmsHeight.{LmsHeight}
use Rattle.sp_topology.specs.declared.topology.NodeKey.{NodeKey}
use Rattle.sp_runs.specs.Scenarios.{node_key, setting_of}
use Rattle.sp_runs.specs.Settings.{is_node}

step : (first count u : ℕ) (t : Bool) → t ≡ (nat_le (first + 1) u && nat_le (u + 1) (first + 1 + count))
    → ((first == u) || t) ≡ (nat_le first u && nat_le (u + 1) (first + suc count))
step first count u t is = grind (arith, nat_tests, is)

among : (h : LmsHeight) (seed : List ℕ) (first count u : ℕ)
    → list_any (λ (n : NodeId). n.0 == u) (map (λ (n : NodeKey). n.id) (map (node_key h seed) (range_with_len first count)))
    ≡ (nat_le first u && nat_le (u + 1) (first + count))
among h seed first zero u = grind (arith, nat_tests)
among h seed first (suc count) u = step first count u _ (among h seed (first + 1) count u)

pub node_is : (s : Scenario) (u : NodeId) → is_node (setting_of s) u ≡ (nat_le 1 u.0 && nat_le u.0 s.graph.nodes)
node_is s u = among s.height s.seed 1 s.graph.nodes u.0 ∙ last s.graph.nodes u.0
  where
    last : (n u : ℕ) → (nat_le 1 u && nat_le (u + 1) (1 + n)) ≡ (nat_le 1 u && nat_le u n)
    last n u = grind (arith, nat_tests)

-- nodes of one number are one node
pub same_node : (a b : NodeId) → (a.0 == b.0) ≡ true → a ≡ b
same_node a b is = ap (λ (n : ℕ). record { 0 = n }) (eqb-true a.0 b.0 is)
