-- Which step of a node a client's command is, and what the client is told of it.
use Rattle.std.specs.Prelude.{◌≡◌, ◌&&◌, Bool, true, false, List, [], Option, None, Some, Ok, Err}
use Rattle.sp_base.specs.declared.id.NodeId.{NodeId}
use Rattle.sp_client.specs.Locals.{sent, took, took_prio}
use Rattle.sp_client.specs.declared.answer.Answer.{Answer}
use Rattle.sp_client.specs.declared.answer.Answer.TheVariants as answers
use Rattle.sp_client.specs.declared.request.Command.{Command}
use Rattle.sp_client.specs.declared.request.Command.TheVariants as commands
use Rattle.sp_node_format.specs.Format.{format_of}
use Rattle.sp_msg.specs.Caused.{Caused}
use Rattle.sp_msg.specs.declared.effect.Effect.{Effect}
use Rattle.sp_node_state.specs.States.{is_other}
use Rattle.sp_rules.specs.Node.{NodeState}
use Rattle.sp_rules.specs.Parts.{changes}
use Rattle.sp_rules.specs.Steps.{Accepted, Input, Message, NodeStep, Output, Payload, Refused, Reply}
use Rattle.sp_rules.specs.Steps.{SendKrel, SendPrio, SendRel, SetWeight, TakeKrel, TakePrio, TakeRel}
use Rattle.sp_client_node.specs.declared.local.LocalNode.{LocalNode}

-- what a client is told of a node's reply
abbrev pub told_of : Reply → Option Answer
told_of (Accepted number) = Some (answers.Accepted number)
told_of (Refused refused) = sent (Err refused)
told_of (Payload payload) = Some (took (Ok payload))
told_of (Message entry) = Some (took_prio entry)
told_of _ = None

-- the effects of a command, if there are some
abbrev pub caused_in : Option Caused → List Effect
caused_in None = []
caused_in (Some effects) = effects.list

-- a send is one step of the node, and what it caused is kept aside
pub record IsSend (old : LocalNode) (input : Input) (answer : Answer) (new : LocalNode) : Type 0 where
  pub output : Output
  pub step : NodeStep (format_of old.node.state.fixed) old.node.state input output new.node.state
  pub told : told_of output.reply ≡ Some answer
  pub caused : caused_in new.effects ≡ output.effects

-- a take is one step of the node
pub record IsTake (old : LocalNode) (input : Input) (answer : Answer) (new : LocalNode) : Type 0 where
  pub output : Output
  pub step : NodeStep (format_of old.node.state.fixed) old.node.state input output new.node.state
  pub told : told_of output.reply ≡ Some answer
  pub effects : new.effects ≡ old.effects

-- a take from a node is a step where messages may come from there, and else is answered as a bad end
abbrev pub TakesFrom : Bool → LocalNode → Input → Answer → LocalNode → Type 0
TakesFrom true old input answer new = IsTake old input answer new
TakesFrom false old input answer new = (answer ≡ answers.BadEnd) × (new ≡ old)

-- messages on paths may come from another node, but under format 1
abbrev pub may_come_on_paths : NodeState → NodeId → Bool
may_come_on_paths n src = changes n.fixed && is_other n src

-- the commands that sessions hand on to a node
abbrev pub AnswersBy : LocalNode → Command → Answer → LocalNode → Type 0
AnswersBy old (commands.Send dst payload) answer new = IsSend old (SendRel dst payload) answer new
AnswersBy old (commands.SendPrio dst prio expiry paths payload) answer new =
    IsSend old (SendPrio (record { dst = dst; prio = prio; expiry = expiry; paths = paths; payload = payload })) answer new
AnswersBy old (commands.SendKrel dst paths payload) answer new =
    IsSend old (SendKrel (record { dst = dst; paths = paths; payload = payload })) answer new
AnswersBy old (commands.Take src) answer new = TakesFrom (is_other old.node.state src) old (TakeRel src) answer new
AnswersBy old (commands.TakeKrel src) answer new = TakesFrom (may_come_on_paths old.node.state src) old (TakeKrel src) answer new
AnswersBy old commands.TakePrio answer new = IsTake old TakePrio answer new
AnswersBy old (commands.Weight peer weight) answer new = IsSend old (SetWeight peer weight) answer new
AnswersBy old _ answer new = ⊥
