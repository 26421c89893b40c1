-- What each call of a node does: one step of the rules of the node's format. Where no memory was left, nothing happened; that is told only where
-- the rules refuse the call for no other cause.
use Rattle.std.specs.Prelude.{ℕ, ◌≡◌, List, [], Option, None, Result, Ok, Err}
use Rattle.sp_base.specs.declared.id.NodeId.{NodeId}
use Rattle.sp_node_format.specs.Format.{format_of}
use Rattle.sp_msg.specs.declared.effect.Why.TheVariants.{Taken as TakenAway}
use Rattle.sp_rules.specs.Arrivals.{before_document, document_at, handled}
use Rattle.sp_rules.specs.Node.{NodeState, call_refusal}
use Rattle.sp_rules.specs.PrioPeer.{gone}
use Rattle.sp_rules.specs.Steps.{NodeStep, Poll, Datagram, Publish, Tick, TakeKrel, TakePrio, TakeRel, Frame, Arrived, Message, NotCalled, Output, Payload}
use Rattle.sp_rules.specs.Steps.{Replaced}
use Rattle.sp_rules.specs.Steps.{Ticked, document_adopted, replied}
use Rattle.sp_rules.specs.declared.answers.DocumentAnswer.{DocumentAnswer}
use Rattle.sp_rules.specs.declared.node.NodeRefused.{NodeRefused}
use Rattle.sp_rules.specs.declared.node.NodeRefused.TheVariants as calls
use Rattle.sp_rules.specs.declared.node.Step.{Step}
use Rattle.sp_rules.specs.declared.node.Taken.{Taken}
use Rattle.sp_rules.specs.declared.node.TickReply.{TickReply}
use Rattle.sp_rules.specs.declared.store.Entry.{Entry}

-- a poll: the frame, or why there is none
abbrev pub Polls : NodeState → NodeId → Result (List ℕ) NodeRefused → NodeState → Type 0
Polls old v (Ok bytes) new = NodeStep (format_of old.fixed) old (Poll v) (replied (Frame bytes)) new
Polls old v (Err calls.NotNeighbour) new = NodeStep (format_of old.fixed) old (Poll v) (replied (NotCalled calls.NotNeighbour)) new
Polls old v (Err calls.Worn) new = NodeStep (format_of old.fixed) old (Poll v) (replied (NotCalled calls.Worn)) new
Polls old v (Err calls.Memory) new = (call_refusal old v ≡ None) × (new ≡ old)

-- the output of a tick
abbrev pub ticked : Step TickReply → Output
ticked step = record { reply = Ticked step.reply; effects = step.effects.list; answered = []; adopted = None }

-- a tick: what it did of the acknowledgement that was due, and what it caused
abbrev pub Ticks : NodeState → ℕ → Result (Step TickReply) NodeRefused → NodeState → Type 0
Ticks old now (Ok step) new = NodeStep (format_of old.fixed) old (Tick now) (ticked step) new
Ticks old now (Err refused) new = (refused ≡ calls.Memory) × (new ≡ old)

-- the output of a datagram
abbrev pub taken_in : NodeState → NodeId → List ℕ → Step Taken → Output
taken_in old from bytes step =
    let arts = format_of old.fixed in
    record {
      reply = Arrived step.reply.link step.reply.items;
      effects = step.effects.list;
      answered = (handled arts old from bytes).answered;
      adopted = document_adopted arts (before_document arts old from bytes) (document_at arts old from bytes);
    }

-- a datagram: what became of it at its link, the answers to its objects, and what they caused, or why it isn't answered
abbrev pub Datagrams : NodeState → NodeId → List ℕ → Result (Step Taken) NodeRefused → NodeState → Type 0
Datagrams old from bytes (Ok step) new =
    NodeStep (format_of old.fixed) old (Datagram from bytes)
    (taken_in old from bytes step) new
Datagrams old from bytes (Err calls.NotNeighbour) new = NodeStep (format_of old.fixed) old (Datagram from bytes) (replied (NotCalled calls.NotNeighbour)) new
Datagrams old from bytes (Err calls.Worn) new = NodeStep (format_of old.fixed) old (Datagram from bytes) (replied (NotCalled calls.Worn)) new
Datagrams old from bytes (Err calls.Memory) new = (call_refusal old from ≡ None) × (new ≡ old)

-- a client takes the oldest message of the flow from a node
abbrev pub TakesRel : NodeState → NodeId → Option (List ℕ) → NodeState → Type 0
TakesRel old src payload new = NodeStep (format_of old.fixed) old (TakeRel src) (replied (Payload payload)) new

-- a client takes the oldest message on paths from a node
abbrev pub TakesKrel : NodeState → NodeId → Option (List ℕ) → NodeState → Type 0
TakesKrel old src payload new = NodeStep (format_of old.fixed) old (TakeKrel src) (replied (Payload payload)) new

-- a client takes the oldest priority message, which leaves the inbox, place 0
abbrev pub TakesPrio : NodeState → Option Entry → NodeState → Type 0
TakesPrio old entry new = NodeStep (format_of old.fixed) old TakePrio (record {
  reply = Message entry;
  effects = gone 0 TakenAway entry;
  answered = [];
  adopted = None;
}) new

-- the output of a document that is handed out
abbrev pub published : Step DocumentAnswer → Output
published step = record { reply = Replaced step.reply; effects = step.effects.list; answered = []; adopted = None }

-- the administrator hands a document to the node: the answer to it, and what it causes
abbrev pub Publishes : NodeState → List ℕ → Result (Step DocumentAnswer) NodeRefused → NodeState → Type 0
Publishes old document (Ok step) new = NodeStep (format_of old.fixed) old (Publish document) (published step) new
Publishes old document (Err refused) new = (refused ≡ calls.Memory) × (new ≡ old)
