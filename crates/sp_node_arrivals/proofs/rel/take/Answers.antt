use Rattle.std.proofs.Common.{◌≡◌, ◌∙◌, Bool, true, false, ap, refl, sym, rules}
use Rattle.std.specs.Prelude.{is_some}
use Rattle.sp_frame.specs.Views.{as_object}
use Rattle.sp_rules.specs.Answers.{rel_answer}
use Rattle.sp_rules.specs.Kflow.{came_over}
use Rattle.sp_rules.specs.Lives.{is_dated}
use Rattle.sp_rules.specs.Parts.{Parts, flows_of}
use Rattle.sp_rules.specs.Rel.{judge_rel_of}
use Rattle.sp_rules.specs.declared.rel.RelJudged.{RelJudged}
use Rattle.sp_node_arrivals.proofs.rel.take.Goals as goal

pub returns-then-not-is_dated-clause-answer : goal.returns-then-not-is_dated-clause-answer
returns-then-not-is_dated-clause-answer c =
    let body = (as_object c.args.object.now).body in
    let right = is_some c.args.ready in
    let over = came_over c.args.parts.now.kflow c.args.from body in
    let judged = judge_rel_of (flows_of c.args.row.kind c.args.parts.now) c.args.row.place.flow body in
    let dated : is_dated c.args.parts.now.lives body ≡ false =
    ap (λ (p : Parts). is_dated p.lives body) (sym c.parts.view_is) ∙ sym c.is_dated.ensures ∙ c.if-not-is_dated.true in
    c.undated.ensures.answer right over ∙ ap (λ (j : RelJudged). rel_answer right false over j) c.judge-judged.ensures
    ∙ ap (λ (d : Bool). rel_answer right d over judged) (sym dated)

pub returns-then-not-is_dated-clause-parts : goal.returns-then-not-is_dated-clause-parts
returns-then-not-is_dated-clause-parts c = rw (c.undated.ensures.quiet c.args.row.kind) refl

pub returns-then-not-is_dated-clause-told : goal.returns-then-not-is_dated-clause-told
returns-then-not-is_dated-clause-told c = rw (c.undated.ensures.quiet c.args.row.kind) (search rules)

pub returns-then-not-came_over-clause-answer : goal.returns-then-not-came_over-clause-answer
returns-then-not-came_over-clause-answer c =
    let body = (as_object c.args.object.now).body in
    let right = is_some c.args.ready in
    let judged = judge_rel_of (flows_of c.args.row.kind c.args.parts.now) c.args.row.place.flow body in
    let dated : is_dated c.args.parts.now.lives body ≡ true =
    ap (λ (p : Parts). is_dated p.lives body) (sym c.parts.view_is) ∙ sym c.is_dated.ensures ∙ c.if-not-is_dated.false in
    let over : came_over c.args.parts.now.kflow c.args.from body ≡ false = sym c.came_over.ensures ∙ c.if-not-came_over.true in
    c.off_mask.ensures.answer right ∙ ap (λ (j : RelJudged). rel_answer right true false j) c.judge-judged.ensures
    ∙ ap (λ (d : Bool). rel_answer right d false judged) (sym dated)
    ∙ ap (λ (b : Bool). rel_answer right (is_dated c.args.parts.now.lives body) b judged) (sym over)

pub returns-then-not-came_over-clause-parts : goal.returns-then-not-came_over-clause-parts
returns-then-not-came_over-clause-parts c = rw (c.off_mask.ensures.quiet c.args.row.kind) refl

pub returns-then-not-came_over-clause-told : goal.returns-then-not-came_over-clause-told
returns-then-not-came_over-clause-told c = rw (c.off_mask.ensures.quiet c.args.row.kind) (search rules)

pub returns-in_default-clause-answer : goal.returns-in_default-clause-answer
returns-in_default-clause-answer c =
    let body = (as_object c.args.object.now).body in
    let right = is_some c.args.ready in
    let judged = judge_rel_of (flows_of c.args.row.kind c.args.parts.now) c.args.row.place.flow body in
    let dated : is_dated c.args.parts.now.lives body ≡ true =
    ap (λ (p : Parts). is_dated p.lives body) (sym c.parts.view_is) ∙ sym c.is_dated.ensures ∙ c.if-not-is_dated.false in
    let over : came_over c.args.parts.now.kflow c.args.from body ≡ true = sym c.came_over.ensures ∙ c.if-not-came_over.false in
    c.refusal.ensures.answer right ∙ ap (λ (j : RelJudged). rel_answer right true true j) c.judge-judged.ensures
    ∙ ap (λ (d : Bool). rel_answer right d true judged) (sym dated)
    ∙ ap (λ (b : Bool). rel_answer right (is_dated c.args.parts.now.lives body) b judged) (sym over)

pub returns-in_default-clause-parts : goal.returns-in_default-clause-parts
returns-in_default-clause-parts c = rw (c.refusal.ensures.quiet c.args.row.kind) refl

pub returns-in_default-clause-told : goal.returns-in_default-clause-told
returns-in_default-clause-told c = rw (c.refusal.ensures.quiet c.args.row.kind) (search rules)
