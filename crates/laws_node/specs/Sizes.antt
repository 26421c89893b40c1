-- What is the same for all that a node keeps, and what holds of each signed message among it.
use Rattle.std.specs.Prelude.{ℕ, List, ◌≡◌, ◌≤◌, ◌+◌, ◌*◌, ◌^◌, length}
use Rattle.sp_base.specs.Formats.{max_nodes}
use Rattle.sp_base.specs.declared.id.NodeId.{NodeId}
use Rattle.sp_base.specs.declared.limits.TheConstants.{MAX_MESSAGES}
use Rattle.sp_msg.specs.Bodies.{HasGoodFieldsIn}
use Rattle.sp_msg.specs.declared.kept.Kept.{Kept}
use Rattle.sp_topology.specs.declared.topology.Edge.{Edge}

-- this node, the format, the nodes and the edges of its topology, the length of all signatures, the bounds of its flows and stores, and what is asked of each
-- message
-- beside its form
pub record Sizes : Type 1 where
  pub me : NodeId
  pub format : ℕ
  pub nodes : List NodeId
  pub edges : List Edge
  pub signature_len : ℕ
  pub buffer : ℕ
  pub store : ℕ
  pub keeps : Kept → Type 0

-- a message whose fields are in their ranges, with a signature of the right length
pub record Fits (k : Sizes) (o : Kept) : Type 0 where
  pub fields : HasGoodFieldsIn k.format o.body
  pub long : length o.signature ≡ k.signature_len
  pub holds : k.keeps o

-- a node of this format
abbrev pub IsNode : (format : ℕ) → NodeId → Type 0
IsNode format v = (1 ≤ v.0) × (v.0 ≤ max_nodes format)

-- how many link numbers were given to a neighbour at most: as many as there may be in each frame to it
abbrev pub numbers_after : (calls : ℕ) → ℕ
numbers_after calls = MAX_MESSAGES * calls

-- how many ids a store may have given: one for each priority message that came in a frame, and one for each own one
abbrev pub ids_after : (calls index : ℕ) → ℕ
ids_after calls index = MAX_MESSAGES * calls + index

-- no key of a node has more indexes: two levels of height 15 (RFC 8554, section 6)
abbrev pub most_indexes : ℕ
most_indexes = 2 ^ 30
