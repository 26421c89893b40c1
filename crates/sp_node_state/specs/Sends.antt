-- What a send does: one step of the rules of the node's format. Where no memory was left, nothing happened.
use Rattle.std.specs.Prelude.{ℕ, ◌≡◌, Option, None, Result, Ok, Err}
use Rattle.sp_node_format.specs.Format.{format_of}
use Rattle.sp_msg.specs.declared.refused.SendRefused.{SendRefused}
use Rattle.sp_msg.specs.declared.refused.SendRefused.TheVariants as sends
use Rattle.sp_rules.specs.Node.{NodeState}
use Rattle.sp_rules.specs.Steps.{Input, NodeStep, Refused, accepted, replied}
use Rattle.sp_rules.specs.declared.node.Step.{Step}

-- a send: the number of what was accepted, and what it caused, or why it is refused. Want of memory comes where these refusals don't
abbrev pub Sends : Input → Option SendRefused → NodeState → Result (Step ℕ) SendRefused → NodeState → Type 0
Sends input refusal old (Ok step) new = NodeStep (format_of old.fixed) old input (accepted step.reply step.effects.list) new
Sends input refusal old (Err sends.Memory) new = (refusal ≡ None) × (new ≡ old)
Sends input refusal old (Err refused) new = NodeStep (format_of old.fixed) old input (replied (Refused refused)) new
