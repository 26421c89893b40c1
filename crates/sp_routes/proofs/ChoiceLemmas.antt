-- 0 paths mean all edges that aren't withdrawn.
use Rattle.std.proofs.Common.{◌≡◌, ℕ, zero, suc, ap, arith}
use Rattle.sp_base.specs.declared.id.NodeId.{NodeId}
use Rattle.sp_graph.specs.declared.graph.Graph.{Graph}
use Rattle.sp_rules.specs.Masks.{IsChoice, Mask, open_edges}
use Rattle.sp_rules.specs.Weights.{WeightState}

pub all_chosen : (w : WeightState) (g : Graph) (s d : NodeId) (count mask : ℕ) → count ≡ 0 → mask ≡ open_edges 0 w.least → IsChoice w g s d count (Mask mask)
all_chosen w g s d zero mask none is = ap (λ (m : ℕ). Mask m) is
all_chosen w g s d (suc more) mask none is = absurd (omega (arith, none))
