-- One step of a node: what it answers to a call, what that causes, and what is left. There are eleven cases.
use Rattle.std.specs.Prelude.{ℕ, ◌≡◌, List, [], ◌∷◌, ◌++◌, map, Option, None, Some}
use Rattle.sp_base.specs.declared.id.NodeId.{NodeId}
use Rattle.sp_msg.specs.declared.effect.Effect.{Effect}
use Rattle.sp_msg.specs.declared.kept.Kept.{Kept}
use Rattle.sp_msg.specs.declared.refused.SendRefused.{SendRefused}
use Rattle.sp_rules.specs.Arrivals.{after_datagram, before_document, document_at, handled, reply_at}
use Rattle.sp_rules.specs.Arts.{Arts}
use Rattle.sp_rules.specs.Documents.{adopted_where, after_publish, document_answer, publish_effects}
use Rattle.sp_rules.specs.Kflow.{waiting_mask}
use Rattle.sp_rules.specs.KflowSends.{KSend, after_send_krel, after_take_krel, krel_number, krel_refusal, krel_sent, send_krel_refusal}
use Rattle.sp_rules.specs.Masks.{Choice, IsChoice, graph_of}
use Rattle.sp_rules.specs.Node.{NodeState, call_refusal}
use Rattle.sp_rules.specs.Polls.{after_poll, frame_to}
use Rattle.sp_rules.specs.Rel as rel
use Rattle.sp_rules.specs.Sends.{PrioSend, after_send_prio, after_send_rel, after_set_weight, after_take_prio, after_take_rel, prio_refusal}
use Rattle.sp_rules.specs.Sends.{prio_sent, rel_number, rel_refusal, rel_sent, send_prio_refusal, take_prio_effects, weight_number}
use Rattle.sp_rules.specs.Sends.{weight_refusal, weight_sent}
use Rattle.sp_rules.specs.Store.{oldest}
use Rattle.sp_rules.specs.Ticks.{after_tick, tick_effects, tick_reply}
use Rattle.sp_rules.specs.declared.answers.DocumentAnswer.{DocumentAnswer}
use Rattle.sp_rules.specs.declared.answers.Item.{Item}
use Rattle.sp_rules.specs.declared.answers.Item.TheVariants as items
use Rattle.sp_rules.specs.declared.node.LinkReply.{LinkReply}
use Rattle.sp_rules.specs.declared.node.NodeRefused.{NodeRefused}
use Rattle.sp_rules.specs.declared.node.TickReply.{TickReply}
use Rattle.sp_rules.specs.declared.store.Entry.{Entry}

pub data Input : Type 0 where
  Poll : (to : NodeId) → Input
  Datagram : (from : NodeId) (bytes : List ℕ) → Input
  Tick : (now : ℕ) → Input
  SendRel : (dst : NodeId) (payload : List ℕ) → Input
  SendPrio : (message : PrioSend) → Input
  SetWeight : (peer : NodeId) (weight : ℕ) → Input
  TakeRel : (src : NodeId) → Input
  TakePrio : Input
  SendKrel : (message : KSend) → Input
  TakeKrel : (src : NodeId) → Input
  -- the administrator hands a document to the node
  Publish : (document : List ℕ) → Input

-- what a call is answered with
pub data Reply : Type 0 where
  Frame : (bytes : List ℕ) → Reply
  -- a datagram, with the answers to its objects in the order of handling
  Arrived : (link : LinkReply) (items : List Item) → Reply
  Ticked : (reply : TickReply) → Reply
  -- under this number
  Accepted : (number : ℕ) → Reply
  Refused : (refused : SendRefused) → Reply
  NotCalled : (refused : NodeRefused) → Reply
  Payload : (payload : Option (List ℕ)) → Reply
  Message : (entry : Option Entry) → Reply
  Replaced : (answer : DocumentAnswer) → Reply

-- the reply, what was caused, in order, each object that a datagram brought with its answer, and the document that the node adopted from it
pub record Output : Type 0 where
  pub reply : Reply
  pub effects : List Effect
  pub answered : List (Kept × Item)
  pub adopted : Option (List ℕ)

-- a reply alone
abbrev pub replied : Reply → Output
replied reply = record { reply = reply; effects = []; answered = []; adopted = None }

-- an output that accepts under a number
abbrev pub accepted : ℕ → List Effect → Output
accepted number effects = record { reply = Accepted number; effects = effects; answered = []; adopted = None }

-- ---- the outputs

-- an output, or the refusal of the call
abbrev pub refused_call : Option NodeRefused → Output → Output
refused_call (Some refused) output = replied (NotCalled refused)
refused_call None output = output

-- an output, or the refusal of what a client asked
abbrev pub refused_send : Option SendRefused → Output → Output
refused_send (Some refused) output = replied (Refused refused)
refused_send None output = output

-- what a poll gives
abbrev pub poll_output : Arts → NodeState → NodeId → Output
poll_output arts n v = refused_call (call_refusal n v) (replied (Frame (frame_to arts n v)))

-- the answer to a document that is handled
abbrev pub document_items : Arts → NodeState → Option (List ℕ) → List Item
document_items arts n None = []
document_items arts n (Some document) = items.Document (document_answer arts n document) ∷ []

-- what is told of a frame's document
abbrev pub document_effects : Arts → NodeState → Option (List ℕ) → List Effect
document_effects arts n None = []
document_effects arts n (Some document) = publish_effects arts n document

-- the document of a frame that the node took
abbrev pub document_adopted : Arts → NodeState → Option (List ℕ) → Option (List ℕ)
document_adopted arts n None = None
document_adopted arts n (Some document) = adopted_where (document_answer arts n document) document

-- a document meets the node as its link and its pieces leave it
abbrev pub arrived : Arts → NodeState → NodeId → List ℕ → Output
arrived arts n v bytes =
    let done = handled arts n v bytes in
    let document = document_at arts n v bytes in
    let then = before_document arts n v bytes in
    record {
      reply = Arrived (reply_at arts n v bytes) (map (λ a. a.1) done.answered ++ document_items arts then document);
      effects = done.effects ++ document_effects arts then document;
      answered = done.answered;
      adopted = document_adopted arts then document;
    }

-- what a datagram gives
abbrev pub datagram_output : Arts → NodeState → NodeId → List ℕ → Output
datagram_output arts n v bytes = refused_call (call_refusal n v) (arrived arts n v bytes)

-- what a tick gives
abbrev pub tick_output : Arts → NodeState → ℕ → Output
tick_output arts n now = record { reply = Ticked (tick_reply arts n now); effects = tick_effects arts n now; answered = []; adopted = None }

-- what sending a reliable message gives
abbrev pub send_rel_output : Arts → NodeState → NodeId → List ℕ → Output
send_rel_output arts n dst payload = refused_send (rel_refusal n dst) (accepted (rel_number n dst) (rel_sent arts n dst payload))

-- what sending a priority message gives
abbrev pub send_prio_output : Arts → NodeState → PrioSend → Choice → Output
send_prio_output arts n m choice = refused_send (send_prio_refusal n m choice) (accepted n.parts.prio.next (prio_sent arts n m choice))

-- what sending a message on paths gives
abbrev pub send_krel_output : Arts → NodeState → KSend → Choice → Output
send_krel_output arts n m choice = refused_send (send_krel_refusal n m choice) (accepted (krel_number n m.dst) (krel_sent arts n m choice))

-- what setting a weight gives
abbrev pub set_weight_output : Arts → NodeState → NodeId → ℕ → Output
set_weight_output arts n v weight = refused_send (weight_refusal n v weight) (accepted (weight_number n v) (weight_sent arts n v weight))

-- what taking a priority message gives
abbrev pub take_prio_output : NodeState → Output
take_prio_output n = record { reply = Message (oldest n.parts.prio.inbox); effects = take_prio_effects n; answered = []; adopted = None }

-- what a document that is handed out gives
abbrev pub publish_output : Arts → NodeState → List ℕ → Output
publish_output arts n document = record {
  reply = Replaced (document_answer arts n document);
  effects = publish_effects arts n document;
  answered = [];
  adopted = None;
}

-- ---- the steps

-- one of two cases with a choice: which of the cheapest paths a message takes. They are sought only where nothing else refuses
pub record SendsPrio (arts : Arts) (old : NodeState) (m : PrioSend) (output : Output) (new : NodeState) : Type 0 where
  pub choice : Choice
  pub is_choice : prio_refusal old m ≡ None → IsChoice old.parts.weights (graph_of old.fixed.topology old.parts.weights) old.fixed.me m.dst m.paths choice
  pub output_is : output ≡ send_prio_output arts old m choice
  pub new_is : new ≡ after_send_prio arts old m choice

-- the other one: they are sought only where nothing else refuses, and no message waits whose mask stays
pub record SendsKrel (arts : Arts) (old : NodeState) (m : KSend) (output : Output) (new : NodeState) : Type 0 where
  pub choice : Choice
  pub is_choice : krel_refusal old m ≡ None → waiting_mask old.parts.kflow m.dst ≡ None
      → IsChoice old.parts.weights (graph_of old.fixed.topology old.parts.weights) old.fixed.me m.dst m.paths choice
  pub output_is : output ≡ send_krel_output arts old m choice
  pub new_is : new ≡ after_send_krel arts old m choice

-- from old the node answers the call so, and goes on to new
abbrev pub NodeStep : Arts → NodeState → Input → Output → NodeState → Type 0
NodeStep arts old (Poll to) output new = (output ≡ poll_output arts old to) × (new ≡ after_poll old to)
NodeStep arts old (Datagram from bytes) output new = (output ≡ datagram_output arts old from bytes) × (new ≡ after_datagram arts old from bytes)
NodeStep arts old (Tick now) output new = (output ≡ tick_output arts old now) × (new ≡ after_tick arts old now)
NodeStep arts old (SendRel dst payload) output new = (output ≡ send_rel_output arts old dst payload) × (new ≡ after_send_rel arts old dst payload)
NodeStep arts old (SendPrio message) output new = SendsPrio arts old message output new
NodeStep arts old (SetWeight peer weight) output new = (output ≡ set_weight_output arts old peer weight) × (new ≡ after_set_weight arts old peer weight)
NodeStep arts old (TakeRel src) output new = (output ≡ replied (Payload (rel.oldest old.parts.rel src))) × (new ≡ after_take_rel old src)
NodeStep arts old TakePrio output new = (output ≡ take_prio_output old) × (new ≡ after_take_prio old)
NodeStep arts old (SendKrel message) output new = SendsKrel arts old message output new
NodeStep arts old (TakeKrel src) output new = (output ≡ replied (Payload (rel.oldest old.parts.kflow.flows src))) × (new ≡ after_take_krel old src)
NodeStep arts old (Publish document) output new = (output ≡ publish_output arts old document) × (new ≡ after_publish arts old document)
