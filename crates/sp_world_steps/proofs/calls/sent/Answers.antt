use Rattle.std.proofs.Common.{ℕ, Result, Some, sym, ap, ◌∙◌, subst}
use Rattle.sp_msg.specs.declared.refused.SendRefused.{SendRefused}
use Rattle.sp_node_state.specs.Sends.{Sends}
use Rattle.sp_rules.specs.declared.node.Step.{Step}
use Rattle.sp_world_steps.proofs.Stepping.{gave_by_send}
use Rattle.sp_world_steps.proofs.calls.sent.Goals as goal

pub returns-in-Err-clause-gave : goal.returns-in-Err-clause-gave
returns-in-Err-clause-gave c = λ input refusal old new gave.
    gave_by_send input refusal old new c.in-Err.refused c.quiet.result (c.refused_word.ensures ∙ ap Some (sym c.quiet.ensures.reply)) c.quiet.ensures.effects
    (subst (λ (d : Result (Step ℕ) SendRefused). Sends input refusal old d new) c.in-Err.is gave)
