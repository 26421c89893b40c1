-- Two ends of which it can't be that one is no node are nodes.
use Rattle.std.proofs.Common.{◌≤◌, ◌<◌, ◌⊎◌, inl, inr, ℕ, arith}
use Rattle.std.proofs.lemmas.Bool.{cases_lt}
use Rattle.sp_base.specs.declared.id.NodeId.{NodeId}
use Rattle.sp_graph.specs.declared.graph.Graph.{Graph}
use Rattle.sp_paths.specs.Cheapest.{IsNode}

-- what can't be false of an order of numbers is so
not_not_le : (m n : ℕ) → ¬ (¬ (m ≤ n)) → m ≤ n
not_not_le m n both = go (cases_lt n m)
  where
    go : (n < m) ⊎ (m ≤ n) → m ≤ n
    go (inl less) = absurd (both (λ le. absurd (omega (arith, le, less))))
    go (inr le) = le

pub known_ends : (g : Graph) (s t : NodeId) → ¬ (¬ (IsNode g s × IsNode g t)) → IsNode g s × IsNode g t
known_ends g s t both = (
  (not_not_le 1 s.0 (λ no. both (λ is. no is.0.0)), not_not_le s.0 g.nodes (λ no. both (λ is. no is.0.1))),
  (not_not_le 1 t.0 (λ no. both (λ is. no is.1.0)), not_not_le t.0 g.nodes (λ no. both (λ is. no is.1.1))),
)
