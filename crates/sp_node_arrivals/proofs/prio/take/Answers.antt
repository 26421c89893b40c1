use Rattle.std.proofs.Common.{◌≡◌, ◌∙◌, Bool, false, ap, sym}
use Rattle.std.specs.Prelude.{is_some}
use Rattle.sp_frame.specs.Views.{as_object}
use Rattle.sp_rules.specs.Answers.{prio_answer}
use Rattle.sp_rules.specs.Lives.{is_dated}
use Rattle.sp_rules.specs.Parts.{Parts}
use Rattle.sp_rules.specs.Prio.{judge_prio}
use Rattle.sp_rules.specs.declared.prio.PrioJudged.{PrioJudged}
use Rattle.sp_node_arrivals.proofs.prio.take.Goals as goal

pub returns-then-not-is_dated-clause-answer : goal.returns-then-not-is_dated-clause-answer
returns-then-not-is_dated-clause-answer c =
    let body = (as_object c.args.object.now).body in
    let right = is_some c.args.ready in
    let judged = judge_prio c.args.parts.now.prio body c.args.at.now.time in
    let dated : is_dated c.args.parts.now.lives body ≡ false =
    ap (λ (p : Parts). is_dated p.lives body) (sym c.parts.view_is) ∙ sym c.is_dated.ensures ∙ c.if-not-is_dated.true in
    let says : c.judge_ref-judged.result ≡ judged =
    c.judge_ref-judged.ensures ∙ ap (λ (p : Parts). judge_prio p.prio body c.args.at.now.time) c.parts.view_is in
    c.undated.ensures.answer right ∙ ap (λ (j : PrioJudged). prio_answer right false j) says ∙ ap (λ (d : Bool). prio_answer right d judged) (sym dated)
