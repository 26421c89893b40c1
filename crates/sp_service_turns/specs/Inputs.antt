-- What is asked of a node.
use Rattle.std.specs.Prelude.{ℕ, List}
use Rattle.sp_base.specs.declared.id.NodeId.{NodeId}

pub data Input : Type 0 where
  Reserve : (upto : ℕ) → Input
  Tick : (now : ℕ) → Input
  Datagram : (node : NodeId) (bytes : List ℕ) → Input
  Request : (port : ℕ) (bytes : List ℕ) → Input
  Poll : (node : NodeId) → Input

-- the steps of a node: from a state, on what is asked, with what is answered, to a state
abbrev pub Steps : Type 0 → Type 1
Steps N = N → Input → List ℕ → N → Type 0
