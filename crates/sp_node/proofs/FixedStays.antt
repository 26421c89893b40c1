-- What is fixed of a node stays in each call.
use Rattle.std.proofs.Common.{◌≡◌, ℕ, List, Option, None, Result, Ok, Err, [], ap}
use Rattle.laws_node.proofs.Shapes.{shapes_stay}
use Rattle.laws_node.specs.Shapes.{Shape}
use Rattle.sp_base.specs.declared.id.NodeId.{NodeId}
use Rattle.sp_msg.specs.declared.effect.Why.TheVariants.{Taken as TakenAway}
use Rattle.sp_msg.specs.declared.refused.SendRefused.{SendRefused}
use Rattle.sp_msg.specs.declared.refused.SendRefused.TheVariants as sends
use Rattle.sp_node.specs.Calls.{Datagrams, Polls, Publishes, TakesKrel, TakesPrio, TakesRel, Ticks, published, taken_in, ticked}
use Rattle.sp_node_format.specs.Format.{format_of}
use Rattle.sp_node_state.specs.Sends.{Sends}
use Rattle.sp_rules.specs.Node.{NodeState}
use Rattle.sp_rules.specs.PrioPeer.{gone}
use Rattle.sp_rules.specs.Steps.{Datagram, Frame, Input, Message, NodeStep, NotCalled, Output, Payload, Poll, Publish, Refused, TakeKrel, TakePrio, TakeRel}
use Rattle.sp_rules.specs.Steps.{Tick}
use Rattle.sp_rules.specs.Steps.{accepted, replied}
use Rattle.sp_rules.specs.declared.answers.DocumentAnswer.{DocumentAnswer}
use Rattle.sp_rules.specs.declared.node.NodeRefused.{NodeRefused}
use Rattle.sp_rules.specs.declared.node.NodeRefused.TheVariants as calls
use Rattle.sp_rules.specs.declared.node.Step.{Step}
use Rattle.sp_rules.specs.declared.node.Taken.{Taken}
use Rattle.sp_rules.specs.declared.node.TickReply.{TickReply}
use Rattle.sp_rules.specs.declared.store.Entry.{Entry as Stored}

-- no step changes what is fixed in a life
pub fixed_stays : (old : NodeState) (input : Input) (output : Output) (new : NodeState) → NodeStep (format_of old.fixed) old input output new
    → new.fixed ≡ old.fixed
fixed_stays old input output new step = ap (λ (s : Shape). s.fixed) (shapes_stay (format_of old.fixed) old input output new step)

-- a send changes nothing that is fixed
pub fixed_by_send : (input : Input) (refusal : Option SendRefused) (old new : NodeState) (done : Result (Step ℕ) SendRefused) → Sends input refusal old done new
    → new.fixed ≡ old.fixed
fixed_by_send input refusal old new (Ok step) gave = fixed_stays old input (accepted step.reply step.effects.list) new gave
fixed_by_send input refusal old new (Err sends.Memory) gave = ap (λ (n : NodeState). n.fixed) gave.1
fixed_by_send input refusal old new (Err sends.BadEnd) gave = fixed_stays old input (replied (Refused sends.BadEnd)) new gave
fixed_by_send input refusal old new (Err (sends.Full base have)) gave = fixed_stays old input (replied (Refused (sends.Full base have))) new gave
fixed_by_send input refusal old new (Err (sends.Busy paths)) gave = fixed_stays old input (replied (Refused (sends.Busy paths))) new gave
fixed_by_send input refusal old new (Err (sends.Expired now)) gave = fixed_stays old input (replied (Refused (sends.Expired now))) new gave
fixed_by_send input refusal old new (Err (sends.NoPaths found)) gave = fixed_stays old input (replied (Refused (sends.NoPaths found))) new gave
fixed_by_send input refusal old new (Err (sends.Low least)) gave = fixed_stays old input (replied (Refused (sends.Low least))) new gave
fixed_by_send input refusal old new (Err (sends.Spent index)) gave = fixed_stays old input (replied (Refused (sends.Spent index))) new gave
fixed_by_send input refusal old new (Err (sends.NotReserved bound)) gave = fixed_stays old input (replied (Refused (sends.NotReserved bound))) new gave

-- a poll changes nothing that is fixed
pub fixed_by_poll : (old : NodeState) (v : NodeId) (new : NodeState) (done : Result (List ℕ) NodeRefused) → Polls old v done new → new.fixed ≡ old.fixed
fixed_by_poll old v new (Ok bytes) gave = fixed_stays old (Poll v) (replied (Frame bytes)) new gave
fixed_by_poll old v new (Err calls.NotNeighbour) gave = fixed_stays old (Poll v) (replied (NotCalled calls.NotNeighbour)) new gave
fixed_by_poll old v new (Err calls.Worn) gave = fixed_stays old (Poll v) (replied (NotCalled calls.Worn)) new gave
fixed_by_poll old v new (Err calls.Memory) gave = ap (λ (n : NodeState). n.fixed) gave.1

-- a datagram changes nothing that is fixed
pub fixed_by_datagram : (old : NodeState) (u : NodeId) (bytes : List ℕ) (new : NodeState) (done : Result (Step Taken) NodeRefused)
    → Datagrams old u bytes done new
    → new.fixed ≡ old.fixed
fixed_by_datagram old u bytes new (Ok step) gave =
    fixed_stays old (Datagram u bytes) (taken_in old u bytes step) new gave
fixed_by_datagram old u bytes new (Err calls.NotNeighbour) gave = fixed_stays old (Datagram u bytes) (replied (NotCalled calls.NotNeighbour)) new gave
fixed_by_datagram old u bytes new (Err calls.Worn) gave = fixed_stays old (Datagram u bytes) (replied (NotCalled calls.Worn)) new gave
fixed_by_datagram old u bytes new (Err calls.Memory) gave = ap (λ (n : NodeState). n.fixed) gave.1

-- a tick changes nothing that is fixed
pub fixed_by_tick : (old : NodeState) (now : ℕ) (new : NodeState) (done : Result (Step TickReply) NodeRefused) → Ticks old now done new → new.fixed ≡ old.fixed
fixed_by_tick old now new (Ok step) gave =
    fixed_stays old (Tick now) (ticked step) new gave
fixed_by_tick old now new (Err refused) gave = ap (λ (n : NodeState). n.fixed) gave.1

-- taking a reliable message changes nothing that is fixed
pub fixed_by_take_rel : (old : NodeState) (src : NodeId) (payload : Option (List ℕ)) (new : NodeState) → TakesRel old src payload new → new.fixed ≡ old.fixed
fixed_by_take_rel old src payload new gave = fixed_stays old (TakeRel src) (replied (Payload payload)) new gave

-- taking a message on paths changes nothing that is fixed
pub fixed_by_take_krel : (old : NodeState) (src : NodeId) (payload : Option (List ℕ)) (new : NodeState) → TakesKrel old src payload new → new.fixed ≡ old.fixed
fixed_by_take_krel old src payload new gave = fixed_stays old (TakeKrel src) (replied (Payload payload)) new gave

-- taking a priority message changes nothing that is fixed
pub fixed_by_take_prio : (old : NodeState) (entry : Option Stored) (new : NodeState) → TakesPrio old entry new → new.fixed ≡ old.fixed
fixed_by_take_prio old entry new gave =
    fixed_stays old TakePrio (record { reply = Message entry; effects = gone 0 TakenAway entry; answered = []; adopted = None }) new gave

-- a publication changes nothing that is fixed
pub fixed_by_publish : (old : NodeState) (document : List ℕ) (new : NodeState) (done : Result (Step DocumentAnswer) NodeRefused)
    → Publishes old document done new → new.fixed ≡ old.fixed
fixed_by_publish old document new (Ok step) gave = fixed_stays old (Publish document) (published step) new gave
fixed_by_publish old document new (Err refused) gave = ap (λ (n : NodeState). n.fixed) gave.1
