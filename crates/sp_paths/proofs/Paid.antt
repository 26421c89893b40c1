-- A cost that is paid step by step.
use Rattle.std.proofs.Common.{◌≡◌, ◌+◌, ◌-◌, ◌≤◌, ℕ, List, [], ◌∷◌, length, take, drop, sum_by, arith}
use Rattle.std.specs.Prelude.{slice_index_or}
use Rattle.std.proofs.Math.Seq.{take-length}
use Rattle.std.proofs.lemmas.List.Sums.{sum_by-cons}
use Rattle.sp_base.specs.declared.id.NodeId.{NodeId}
use Rattle.sp_topology.specs.declared.topology.Edge.{Edge}
use Rattle.sp_graph.specs.Walks.{steps, weight_between}

abbrev pub price : List Edge → List NodeId → ℕ
price edges path = sum_by (λ step. weight_between edges step.0 step.1) (steps path)

-- one step is paid
pub pay_step : (edges : List Edge) (path rest : List NodeId) (cost left weight : ℕ) (d : NodeId) → 2 ≤ length rest
    → weight ≡ weight_between edges (slice_index_or rest 0 d) (slice_index_or rest 1 d) → weight ≤ left
    → left + price edges path ≡ cost + price edges rest → (left - weight) + price edges path ≡ cost + price edges (take (length rest - 1) (drop 1 rest))
pay_step edges path [] cost left weight d long is enough so_far = absurd (omega (arith, long))
pay_step edges path (u ∷ []) cost left weight d long is enough so_far = absurd (omega (arith, long))
pay_step edges path (u ∷ v ∷ rest) cost left weight d long is enough so_far =
    let whole : take (length (u ∷ v ∷ rest) - 1) (v ∷ rest) ≡ v ∷ rest = let n : length (u ∷ v ∷ rest) - 1 ≡ length (v ∷ rest) = omega arith in
    rw n (take-length (v ∷ rest)) in
    rw whole (omega (arith, is, enough, so_far, sum_by-cons (λ (step : NodeId × NodeId). weight_between edges step.0 step.1) (u, v) (steps (v ∷ rest))))
