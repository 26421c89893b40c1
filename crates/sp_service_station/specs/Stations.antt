-- The steps of a station, a node with the sessions of its clients: of a tick, a datagram and a poll one step of the node by the overlay's rules, of a
-- client's datagram one step of the sessions over the node by the protocol of clients.
use Rattle.std.specs.Prelude.{ℕ, ◌≡◌, ◌&&◌, nat_le, List, [], if◌then◌else◌}
use Rattle.sp_client.specs.Tables as tables
use Rattle.sp_client_node.specs.Steps.{AnswersBy}
use Rattle.sp_client_node.specs.declared.local.LocalNode.{LocalNode}
use Rattle.sp_node_format.specs.Format.{format_of}
use Rattle.sp_rules.specs.Node.{NodeState, extended}
use Rattle.sp_rules.specs.Steps as steps
use Rattle.sp_service_turns.specs.Inputs.{Datagram, Input, Poll, Request, Reserve, Tick}
use Rattle.sp_service_turns.specs.declared.indexes.Indexes.{Indexes}
use Rattle.sp_service_station.specs.Texts.{answer_text, frame_in}

-- the table of its sessions, and its node
pub record Station : Type 0 where
  pub clients : tables.Table
  pub local : LocalNode

-- the node of a station
abbrev pub node_of : Station → NodeState
node_of s = s.local.node.state

-- indexes up to this bound are reserved, where it is one that the signer may have. Else nothing changes
abbrev pub reserved : NodeState → ℕ → NodeState
reserved n upto = if nat_le n.signer.bound upto && nat_le upto n.signer.total then extended n upto else n

-- how far the node is with the indexes of its signing key
abbrev pub indexes_of : NodeState → Indexes
indexes_of n = record { index = n.signer.index; bound = n.signer.bound; total = n.signer.total }

-- the indexes of a station's node
abbrev pub indexes_in : Station → Indexes
indexes_in s = indexes_of (node_of s)

-- the node answers so: this makes the answer of the output of one step
abbrev pub Gives : (steps.Output → List ℕ) → NodeState → steps.Input → List ℕ → NodeState → Type 0
Gives answer_of old input answer new = (output : steps.Output) × steps.NodeStep (format_of old.fixed) old input output new × (answer ≡ answer_of output)

-- the frame of an output
abbrev pub frame_of : steps.Output → List ℕ
frame_of output = frame_in output.reply

-- the sessions stay where the node alone is asked
abbrev pub StationStep : Station → Input → List ℕ → Station → Type 0
StationStep old (Reserve upto) answer new = (answer ≡ []) × (node_of new ≡ reserved (node_of old) upto) × (new.clients ≡ old.clients)
StationStep old (Tick now) answer new = Gives answer_text (node_of old) (steps.Tick now) answer (node_of new) × (new.clients ≡ old.clients)
StationStep old (Datagram node bytes) answer new =
    Gives answer_text (node_of old) (steps.Datagram node bytes) answer (node_of new) × (new.clients ≡ old.clients)
StationStep old (Request port bytes) answer new = tables.Datagram AnswersBy old.clients port bytes answer new.clients old.local new.local
StationStep old (Poll node) answer new = Gives frame_of (node_of old) (steps.Poll node) answer (node_of new) × (new.clients ≡ old.clients)
