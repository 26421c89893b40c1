-- What the weight of a link is, whatever updates come.
use Rattle.std.specs.Prelude.{ℕ, ◌≡◌, ◌≤◌, max, List, Some, slice_get}
use Rattle.sp_msg.specs.declared.kept.Kept.{Kept}
use Rattle.sp_topology.specs.declared.topology.Edge.{Edge}
use Rattle.sp_topology.specs.declared.topology.Topology.{Topology}
use Rattle.sp_topology.specs.Ranges.{IsTopology}
use Rattle.sp_rules.specs.Weights.{WeightState, effective, minimum, start}
use Rattle.laws_node.specs.HeldUpdates.{after, last_weight, taken}

abbrev pub NeverBelowTheMinimum : Type 0
NeverBelowTheMinimum = (s : WeightState) (edge : ℕ) → minimum s edge ≤ effective s edge

-- from a topology on, after any updates
abbrev pub EffectiveIsGreatest : Type 0
EffectiveIsGreatest = (t : Topology) (updates : List Kept) (edge : ℕ) (e : Edge) → IsTopology t → slice_get t.edges edge ≡ Some e →
    let counted : List Kept = taken (start t) updates in
    effective (after (start t) updates) edge ≡ max e.weight (max (last_weight edge e.low.0 0 counted) (last_weight edge e.high.0 0 counted))
