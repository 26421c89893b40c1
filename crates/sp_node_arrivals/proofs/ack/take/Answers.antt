use Rattle.std.proofs.Common.{◌≡◌, ◌∙◌, Bool, true, false, ap, refl, sym}
use Rattle.std.specs.Prelude.{is_some}
use Rattle.sp_frame.specs.Views.{as_object}
use Rattle.sp_rules.specs.Answers.{ack_answer}
use Rattle.sp_rules.specs.Lives.{is_dated}
use Rattle.sp_rules.specs.Parts.{Parts, flows_of}
use Rattle.sp_rules.specs.Rel.{judge_ack_of}
use Rattle.sp_rules.specs.declared.rel.AckJudged.{AckJudged}
use Rattle.sp_node_arrivals.proofs.ack.take.Goals as goal

pub returns-then-not-is_dated-clause-answer : goal.returns-then-not-is_dated-clause-answer
returns-then-not-is_dated-clause-answer c =
    let body = (as_object c.args.object.now).body in
    let right = is_some c.args.ready in
    let judged = judge_ack_of (flows_of c.args.row.kind c.args.parts.now) c.args.row.place.flow body in
    let dated : is_dated c.args.parts.now.lives body ≡ false =
    ap (λ (p : Parts). is_dated p.lives body) (sym c.parts.view_is) ∙ sym c.is_dated.ensures ∙ c.if-not-is_dated.true in
    c.undated.ensures.answer right ∙ ap (λ (j : AckJudged). ack_answer right false j) c.judge-judged.ensures
    ∙ ap (λ (d : Bool). ack_answer right d judged) (sym dated)

pub returns-then-not-is_dated-clause-parts : goal.returns-then-not-is_dated-clause-parts
returns-then-not-is_dated-clause-parts c = rw (c.undated.ensures.quiet c.args.row.kind) refl

pub returns-in_default-clause-answer : goal.returns-in_default-clause-answer
returns-in_default-clause-answer c =
    let body = (as_object c.args.object.now).body in
    let right = is_some c.args.ready in
    let judged = judge_ack_of (flows_of c.args.row.kind c.args.parts.now) c.args.row.place.flow body in
    let dated : is_dated c.args.parts.now.lives body ≡ true =
    ap (λ (p : Parts). is_dated p.lives body) (sym c.parts.view_is) ∙ sym c.is_dated.ensures ∙ c.if-not-is_dated.false in
    c.refusal.ensures.answer right ∙ ap (λ (j : AckJudged). ack_answer right true j) c.judge-judged.ensures
    ∙ ap (λ (d : Bool). ack_answer right d judged) (sym dated)

pub returns-in_default-clause-parts : goal.returns-in_default-clause-parts
returns-in_default-clause-parts c = rw (c.refusal.ensures.quiet c.args.row.kind) refl
