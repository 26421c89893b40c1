-- What holds of the weights of a node after any steps: each row has an update of its own end alone, in its ranges.
use Rattle.std.specs.Prelude.{ℕ, ◌≡◌, ◌≤◌, ◌+◌, ◌==◌, true, Some, IfSome, length}
use Rattle.sp_base.specs.declared.id.NodeId.{NodeId}
use Rattle.sp_msg.specs.declared.body.Body.{Body}
use Rattle.sp_msg.specs.declared.body.Body.TheVariants as bodies
use Rattle.sp_msg.specs.declared.kept.Kept.{Kept}
use Rattle.sp_rules.specs.Weights.{WeightState, held_in, row_for}
use Rattle.sp_rules.specs.declared.weights.TheConstants.{MAX_OWN_HEARD}
use Rattle.laws_node.specs.Sizes.{Fits, Sizes}

abbrev pub IsUpdate : Body → Type 0
IsUpdate (bodies.Weight u) = Unit {0}
IsUpdate _ = ⊥

-- the number of a node's own update is at most this
abbrev pub OwnUpTo : NodeId → ℕ → Body → Type 0
OwnUpTo me number (bodies.Weight u) = (u.origin.0 == me.0) ≡ true → u.seq ≤ number
OwnUpTo me number _ = Unit {0}

-- an update in the row of its own end, and of this node no later one than it signed
pub record UpdateHolds (k : Sizes) (index row : ℕ) (o : Kept) : Type 0 where
  pub kind : IsUpdate o.body
  pub place : row_for k.edges o.body ≡ Some row
  pub fits : Fits k o
  pub own : OwnUpTo k.me (MAX_OWN_HEARD + index) o.body

-- each row of weights holds an update of its own end
pub record WeightsHold (k : Sizes) (index : ℕ) (w : WeightState) : Type 0 where
  pub edges : w.edges ≡ k.edges
  pub least : length w.least ≡ length k.edges
  pub rows : (row : ℕ) → IfSome (held_in w.rows row) (UpdateHolds k index row)
