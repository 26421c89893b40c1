-- What is kept aside of a send: what it caused, where it was accepted, and nothing where it was refused. Want of memory leaves all as it was.
use Rattle.std.specs.Prelude.{ℕ, ◌≡◌, Option, None, Some, Result, Ok, Err}
use Rattle.sp_msg.specs.Caused.{Caused}
use Rattle.sp_msg.specs.declared.refused.SendRefused.{SendRefused}
use Rattle.sp_msg.specs.declared.refused.SendRefused.TheVariants as refusals
use Rattle.sp_rules.specs.declared.node.Step.{Step}

abbrev pub Keeps : Option Caused → Result (Step ℕ) SendRefused → Result ℕ SendRefused → Option Caused → Type 0
Keeps old (Ok step) answer new = (answer ≡ Ok step.reply) × (new ≡ Some step.effects)
Keeps old (Err refusals.Memory) answer new = (answer ≡ Err refusals.Memory) × (new ≡ old)
Keeps old (Err refused) answer new = (answer ≡ Err refused) × (new ≡ None)
