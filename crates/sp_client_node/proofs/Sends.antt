-- A send that a node answers is the step of the client's command, or leaves all as it was.
use Rattle.std.proofs.Common.{◌≡◌, ◌∙◌, ℕ, Option, Some, None, Result, Ok, Err, refl, sym, ap, subst}
use Rattle.sp_client.specs.Locals.{StepsBy, sent}
use Rattle.sp_client.specs.declared.answer.Answer.{Answer}
use Rattle.sp_client.specs.declared.answer.Answer.TheVariants as answers
use Rattle.sp_client.specs.declared.request.Command.{Command}
use Rattle.sp_node_format.specs.Format.{format_of}
use Rattle.sp_msg.specs.Caused.{Caused}
use Rattle.sp_msg.specs.declared.refused.SendRefused.{SendRefused}
use Rattle.sp_msg.specs.declared.refused.SendRefused.TheVariants as refusals
use Rattle.sp_node.specs.Life.{IsIdle}
use Rattle.sp_node_state.specs.Sends.{Sends}
use Rattle.sp_rules.specs.Node.{NodeState}
use Rattle.sp_rules.specs.Steps.{Input, NodeStep, Refused, accepted, replied}
use Rattle.sp_rules.specs.declared.node.Step.{Step}
use Rattle.sp_client_node.specs.Kept.{Keeps}
use Rattle.sp_client_node.specs.Steps.{AnswersBy, IsSend, caused_in}
use Rattle.sp_client_node.specs.declared.local.LocalNode.{LocalNode}

same_local : (old new : LocalNode) → new.node.state ≡ old.node.state → IsIdle old.node new.node → new.effects ≡ old.effects → new ≡ old
same_local old new state idle effects =
    ap (λ (n : NodeState). record new { node = record { state = n; checks = new.node.checks; tags = new.node.tags } }) state
    ∙ ap (λ (k : ℕ). record new { node = record { state = old.node.state; checks = k; tags = new.node.tags } }) idle.checks
    ∙ ap (λ (k : ℕ). record new { node = record { state = old.node.state; checks = old.node.checks; tags = k } }) idle.tags
    ∙ ap (λ (e : Option Caused). record old { effects = e }) effects

refused_is : (old new : LocalNode) (input : Input) (command : Command) (answer : Result ℕ SendRefused) (e : SendRefused) (a : Answer)
    → ((a : Answer) → IsSend old input a new → AnswersBy old command a new)
    → NodeStep (format_of old.node.state.fixed) old.node.state input (replied (Refused e)) new.node.state
    → sent (Err e) ≡ Some a → answer ≡ Err e → new.effects ≡ None → StepsBy AnswersBy old command (sent answer) new
refused_is old new input command answer e a hands step is told none =
    subst (λ (o : Option Answer). StepsBy AnswersBy old command o new) (sym (ap sent told ∙ is))
    (hands a (record { output = replied (Refused e); step = step; told = is; caused = ap caused_in none }))

pub send_steps : (old new : LocalNode) (input : Input) (command : Command) (refusal : Option SendRefused) (call : Result (Step ℕ) SendRefused)
    (answer : Result ℕ SendRefused) → ((a : Answer) → IsSend old input a new → AnswersBy old command a new)
    → Sends input refusal old.node.state call new.node.state → IsIdle old.node new.node → Keeps old.effects call answer new.effects
    → StepsBy AnswersBy old command (sent answer) new
send_steps old new input command refusal (Ok step) answer hands is work keeps =
    subst (λ (r : Result ℕ SendRefused). StepsBy AnswersBy old command (sent r) new) (sym keeps.0)
    (hands (answers.Accepted step.reply) (record { output = accepted step.reply step.effects.list; step = is; told = refl; caused = ap caused_in keeps.1 }))
send_steps old new input command refusal (Err refusals.Memory) answer hands is work keeps =
    subst (λ (r : Result ℕ SendRefused). StepsBy AnswersBy old command (sent r) new) (sym keeps.0) (same_local old new is.1 work keeps.1)
send_steps old new input command refusal (Err refusals.BadEnd) answer hands is work keeps =
    refused_is old new input command answer refusals.BadEnd _ hands is refl keeps.0 keeps.1
send_steps old new input command refusal (Err (refusals.Full base have)) answer hands is work keeps =
    refused_is old new input command answer (refusals.Full base have) _ hands is refl keeps.0 keeps.1
send_steps old new input command refusal (Err (refusals.Busy paths)) answer hands is work keeps =
    refused_is old new input command answer (refusals.Busy paths) _ hands is refl keeps.0 keeps.1
send_steps old new input command refusal (Err (refusals.Expired now)) answer hands is work keeps =
    refused_is old new input command answer (refusals.Expired now) _ hands is refl keeps.0 keeps.1
send_steps old new input command refusal (Err (refusals.NoPaths found)) answer hands is work keeps =
    refused_is old new input command answer (refusals.NoPaths found) _ hands is refl keeps.0 keeps.1
send_steps old new input command refusal (Err (refusals.Low min)) answer hands is work keeps =
    refused_is old new input command answer (refusals.Low min) _ hands is refl keeps.0 keeps.1
send_steps old new input command refusal (Err (refusals.Spent index)) answer hands is work keeps =
    refused_is old new input command answer (refusals.Spent index) _ hands is refl keeps.0 keeps.1
send_steps old new input command refusal (Err (refusals.NotReserved bound)) answer hands is work keeps =
    refused_is old new input command answer (refusals.NotReserved bound) _ hands is refl keeps.0 keeps.1
