-- One call of one node among all.
use Rattle.std.specs.Prelude.{ℕ, ◌≡◌, ◌≤◌, List, None, Some}
use Rattle.sp_base.specs.declared.id.NodeId.{NodeId}
use Rattle.sp_journal.specs.declared.entry.Entry.{Entry}
use Rattle.sp_node_format.specs.Format.{format_of}
use Rattle.sp_node_format.specs.PolledFrames.{most_signature}
use Rattle.sp_rules.specs.Node.{NodeState, call_refusal, extended}
use Rattle.sp_rules.specs.Steps.{Frame, NodeStep, Poll, replied}
use Rattle.sp_rules.specs.declared.node.Step.{Step}
use Rattle.sp_rules.specs.declared.node.Taken.{Taken}
use Rattle.sp_runs.specs.Inputs.{acting}
use Rattle.sp_runs.specs.Worlds.{node_in, with_node}
use Rattle.sp_schedule_events.specs.declared.event.Event.{Event}
use Rattle.sp_world_steps.specs.Asks.{GaveAnswer, MayAsk}
use Rattle.sp_world_steps.specs.Gave.{GaveTaken}

-- the node of this id, in the life of this boot
pub record IsMember (n : NodeState) (id : NodeId) (boot : ℕ) : Type 0 where
  pub me : n.fixed.me ≡ id
  pub boots : n.fixed.boot ≡ boot

-- ---- before

-- the node that acts is there, and this may be asked of it
pub record CanAsk (nodes : List NodeState) (event : Event) (document : List ℕ) : Type 0 where
  pub node : NodeState
  pub is_there : node_in nodes (acting event) ≡ Some node
  pub may : MayAsk node event document

-- the node is there, answers this neighbour, and its signatures are those of this format
pub record CanCall (nodes : List NodeState) (u neighbour : NodeId) : Type 0 where
  pub node : NodeState
  pub is_there : node_in nodes u ≡ Some node
  pub answers : call_refusal node neighbour ≡ None
  pub short : node.fixed.signature_len ≤ most_signature

-- the node is there, and its signer may have the indexes below this bound
pub record CanReserve (nodes : List NodeState) (u : NodeId) (upto : ℕ) : Type 0 where
  pub node : NodeState
  pub is_there : node_in nodes u ≡ Some node
  pub forward : node.signer.bound ≤ upto
  pub within : upto ≤ node.signer.total

-- ---- after. All other nodes stay as they are

-- something was asked of the node that acts
pub record AskedAmong (nodes : List NodeState) (event : Event) (document : List ℕ) (entry : Entry) (after : List NodeState) : Type 0 where
  pub old : NodeState
  pub new : NodeState
  pub is_there : node_in nodes (acting event) ≡ Some old
  pub gave : GaveAnswer old event document entry new
  pub nodes_are : after ≡ with_node nodes (acting event) new

-- u made its next frame for v
pub record PolledAmong (nodes : List NodeState) (u v : NodeId) (bytes : List ℕ) (after : List NodeState) : Type 0 where
  pub old : NodeState
  pub new : NodeState
  pub is_there : node_in nodes u ≡ Some old
  pub step : NodeStep (format_of old.fixed) old (Poll v) (replied (Frame bytes)) new
  pub nodes_are : after ≡ with_node nodes u new

-- v took what came from u
pub record HeardAmong (nodes : List NodeState) (u v : NodeId) (bytes : List ℕ) (step : Step Taken) (after : List NodeState) : Type 0 where
  pub old : NodeState
  pub new : NodeState
  pub is_there : node_in nodes v ≡ Some old
  pub took : GaveTaken old u bytes step new
  pub nodes_are : after ≡ with_node nodes v new

-- u has the indexes below this bound
pub record ReservedAmong (nodes : List NodeState) (u : NodeId) (upto : ℕ) (after : List NodeState) : Type 0 where
  pub old : NodeState
  pub is_there : node_in nodes u ≡ Some old
  pub nodes_are : after ≡ with_node nodes u (extended old upto)
