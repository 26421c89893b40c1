-- What a call of a station leaves as it is, and how long a frame is.
use Rattle.std.proofs.Common.{◌≡◌, ℕ, ◌≤◌, Bool, true, false, List, Option, None, Some, length, refl, sym, subst, ap, arith}
use Rattle.laws_node.specs.Nodes.{IsKept}
use Rattle.sp_base.specs.declared.id.NodeId.{NodeId}
use Rattle.sp_client.specs.Sessions.{Answers, own_answer}
use Rattle.sp_client.specs.Tables as tables
use Rattle.sp_client.specs.declared.answer.Answer.{Answer}
use Rattle.sp_client.specs.declared.request.Command.{Command}
use Rattle.sp_client.specs.declared.request.Command.TheVariants as commands
use Rattle.sp_client.specs.declared.request.Request.{Request}
use Rattle.sp_client_node.specs.Steps.{AnswersBy, TakesFrom, may_come_on_paths}
use Rattle.sp_client_node.specs.declared.local.LocalNode.{LocalNode}
use Rattle.sp_frame.specs.declared.frame.TheConstants.{MAX_FRAME_BYTES}
use Rattle.sp_node_format.specs.Format.{format_of}
use Rattle.sp_node_format.specs.PolledFrames.{most_signature}
use Rattle.sp_rules.specs.Node.{NodeState, call_refusal}
use Rattle.sp_rules.specs.Polls.{frame_to}
use Rattle.sp_node_state.specs.States.{is_other}
use Rattle.sp_rules.specs.Steps.{Frame, Input, NodeStep, NotCalled, Output, Poll, refused_call, replied}
use Rattle.sp_rules.specs.Steps.{SendKrel, SendPrio, SendRel, SetWeight, TakeKrel, TakePrio, TakeRel}
use Rattle.sp_rules.specs.declared.node.NodeRefused.{NodeRefused}
use Rattle.sp_node.proofs.Lengths as lengths
use Rattle.sp_node.proofs.FixedStays.{fixed_stays}
use Rattle.sp_service_station.proofs.Uses.{used_by, uses, uses_none}
use Rattle.sp_service_station.specs.Stations.{indexes_of}
use Rattle.sp_service_turns.specs.Indexes.{UsesAtMost}

-- ---- what a client's datagram leaves

-- what holds of each step of a node that signs one message at most, and where nothing was done, holds of what a client's datagram led to
module _ (R : NodeState → NodeState → Type 0) (same : (n : NodeState) → R n n)
    (by_step : (old : NodeState) (input : Input) (output : Output) (new : NodeState) → used_by input ≤ 1 → NodeStep (format_of old.fixed) old input output new
    → R old new) where
  as_before : (old new : LocalNode) → new ≡ old → R old.node.state new.node.state
  as_before old new is = subst (λ (l : LocalNode). R old.node.state l.node.state) (sym is) (same old.node.state)

  by_take : (other : Bool) (old : LocalNode) (input : Input) (answer : Answer) (new : LocalNode) → used_by input ≤ 1 → TakesFrom other old input answer new
      → R old.node.state new.node.state
  by_take true old input answer new within takes = by_step old.node.state input takes.output new.node.state within takes.step
  by_take false old input answer new within takes = as_before old new takes.1

  by_command : (old : LocalNode) (command : Command) (answer : Answer) (new : LocalNode) → AnswersBy old command answer new → R old.node.state new.node.state
  by_command old (commands.Send dst payload) answer new sends = by_step old.node.state (SendRel dst payload) sends.output new.node.state (omega arith) sends.step
  by_command old (commands.SendPrio dst prio expiry paths payload) answer new sends =
      by_step old.node.state (SendPrio (record { dst = dst; prio = prio; expiry = expiry; paths = paths; payload = payload })) sends.output new.node.state
      (omega arith) sends.step
  by_command old (commands.SendKrel dst paths payload) answer new sends =
      by_step old.node.state (SendKrel (record { dst = dst; paths = paths; payload = payload })) sends.output new.node.state (omega arith) sends.step
  by_command old (commands.Take src) answer new takes = by_take (is_other old.node.state src) old (TakeRel src) answer new (omega arith) takes
  by_command old (commands.TakeKrel src) answer new takes =
      by_take (may_come_on_paths old.node.state src) old (TakeKrel src) answer new (omega arith) takes
  by_command old commands.TakePrio answer new takes = by_step old.node.state TakePrio takes.output new.node.state (omega arith) takes.step
  by_command old (commands.Weight peer weight) answer new sends = by_step old.node.state (SetWeight peer weight) sends.output new.node.state (omega arith)
      sends.step
  by_command old commands.Open answer new never = absurd never
  by_command old commands.Listen answer new never = absurd never
  by_command old commands.Close answer new never = absurd never

  by_answer : (own : Option Answer) (old : LocalNode) (command : Command) (answer : Answer) (new : LocalNode) → Answers AnswersBy own old command answer new
      → R old.node.state new.node.state
  by_answer (Some own) old command answer new answers = as_before old new answers.1
  by_answer None old command answer new answers = by_command old command answer new answers

  by_served : (kept : Option (List ℕ)) (refused : Option Answer) (old : tables.Table) (port : ℕ) (r : Request) (reply : List ℕ) (new : tables.Table)
      (before after : LocalNode) → tables.Served AnswersBy kept refused old port r reply new before after → R before.node.state after.node.state
  by_served (Some kept) refused old port r reply new before after served = as_before before after served.2
  by_served None (Some answer) old port r reply new before after served = as_before before after served.2
  by_served None None old port r reply new before after served =
      by_answer (own_answer old.holder port r.command) before r.command served.answer after served.answered

  pub by_handled : (read : Option Request) (old : tables.Table) (port : ℕ) (reply : List ℕ) (new : tables.Table) (before after : LocalNode)
      → tables.Handles AnswersBy read old port reply new before after → R before.node.state after.node.state
  by_handled None old port reply new before after handled = as_before before after handled.2
  by_handled (Some r) old port reply new before after handled =
      by_served (tables.repeat old port r.number) (tables.refusal old port r) old port r reply new before after handled

pub fixed_by_request : (old : tables.Table) (port : ℕ) (bytes reply : List ℕ) (new : tables.Table) (before after : LocalNode)
    → tables.Datagram AnswersBy old port bytes reply new before after → after.node.state.fixed ≡ before.node.state.fixed
fixed_by_request old port bytes reply new before after done =
    by_handled (λ n m. m.fixed ≡ n.fixed) (λ n. refl) (λ old input output new within step. fixed_stays old input output new step) done.read old port reply new before after done.handled

pub uses_by_request : (old : tables.Table) (port : ℕ) (bytes reply : List ℕ) (new : tables.Table) (before after : LocalNode)
    → tables.Datagram AnswersBy old port bytes reply new before after → UsesAtMost 1 (indexes_of before.node.state) (indexes_of after.node.state)
uses_by_request old port bytes reply new before after done =
    by_handled (λ n m. UsesAtMost 1 (indexes_of n) (indexes_of m)) (uses_none 1) one done.read old port reply new before after done.handled
  where
    one : (n : NodeState) (input : Input) (output : Output) (m : NodeState) → used_by input ≤ 1 → NodeStep (format_of n.fixed) n input output m
        → UsesAtMost 1 (indexes_of n) (indexes_of m)
    one n input output m within step =
        let used = uses n input output m step in
        record { index = omega (arith, within, used.index); bound = used.bound; total = used.total }

-- ---- frames

-- a node that made a frame was called
called : (n : NodeState) (v : NodeId) (bytes : List ℕ) (new : NodeState) → NodeStep (format_of n.fixed) n (Poll v) (replied (Frame bytes)) new
    → call_refusal n v ≡ None
called n v bytes new step = go (call_refusal n v) step.0
  where
    go : (r : Option NodeRefused) → replied (Frame bytes) ≡ refused_call r (replied (Frame (frame_to (format_of n.fixed) n v))) → r ≡ None
    go None is = refl
    go (Some refused) is = let e : Frame bytes ≡ NotCalled refused = ap (λ (o : Output). o.reply) is in absurd (cc)

pub polled_is_short : (n : NodeState) (v : NodeId) (bytes : List ℕ) (new : NodeState) → IsKept (format_of n.fixed) n → n.fixed.signature_len ≤ most_signature
    → NodeStep (format_of n.fixed) n (Poll v) (replied (Frame bytes)) new → length bytes ≤ MAX_FRAME_BYTES
polled_is_short n v bytes new kept short step = lengths.polled_is_short n v bytes new kept short (called n v bytes new step) step
