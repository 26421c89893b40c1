-- How a meter in memory is seen, and what always holds of it.
use Rattle.std.specs.Prelude.{ℕ, ◌≡◌, ◌-◌, ◌≤◌, List, All, drop, length}
use Rattle.sp_measure.specs.Hashed.{hashed}
use Rattle.sp_measure.specs.Proofs.{Sender, nonces, proof_of}
use Rattle.sp_measure.specs.declared.opening.TheConstants.{MAX_COST}
use Rattle.sp_measure.specs.declared.weight.TheConstants.{WEIGHED_COSTS}

-- of the places the last ones hold the costs, as many as there are
abbrev pub costs_in : List ℕ → ℕ → List ℕ
costs_in places closed = drop (WEIGHED_COSTS - closed) places

-- the proof that is expected is that of all own probes, and each place holds what may be a cost
pub record IsMeter (sender : Sender) (number : ℕ) (expected places : List ℕ) (closed : ℕ) : Type 0 where
  pub expects : expected ≡ proof_of hashed (nonces hashed sender number)
  pub all_places : length places ≡ WEIGHED_COSTS
  pub within : closed ≤ WEIGHED_COSTS
  pub small : All (λ cost. cost ≤ MAX_COST) places
