use Rattle.std.proofs.Common.{◌≡◌, ◌≤◌, ◌<◌, ◌∙◌, Some, None, sym, ap, arith}
use Rattle.std.specs.Prelude.{option_map}
use Rattle.std.proofs.lemmas.Result.{IfOk-weaker}
use Rattle.sp_node_format.specs.Format.{document_in, format_of}
use Rattle.sp_rules.specs.Documents.{answer_to}
use Rattle.sp_rules.specs.declared.answers.DocumentAnswer.TheVariants as answers
use Rattle.sp_node_state.proofs.Published.{adopted_judged, old, one_check, refused_judged}
use Rattle.sp_node_state.specs.Publications.{as_document}
use Rattle.sp_node_state.proofs.state.State.judge_document.Goals as goal

pub returns-in_default-clause-judged : goal.returns-in_default-clause-judged
returns-in_default-clause-judged c =
    let n = c.args.self.now in
    let bytes = c.args.document.now in
    let none : document_in bytes ≡ None = sym c.in_ok-reading.ensures ∙ ap (option_map as_document) c.in_default.is in
    refused_judged n bytes answers.Bad c.refused.result c.refused.ensures.answer c.refused.ensures.version c.refused.ensures.none
    (sym (ap (answer_to (format_of n.fixed) n) none)) (λ version e. cc)

pub returns-then-reading-held-clause-judged : goal.returns-then-reading-held-clause-judged
returns-then-reading-held-clause-judged c =
    let n = c.args.self.now in
    let bytes = c.args.document.now in
    let d = as_document c.in-Some.reading in
    let reads : document_in bytes ≡ Some d = sym c.in_ok-reading.ensures ∙ ap (option_map as_document) c.in-Some.is in
    let below : d.topology.version ≤ n.live.version = omega (arith, c.if-reading-held.true, c.version-held.ensures) in
    refused_judged n bytes (answers.Old c.version-held.result) c.refused-then-reading-held.result c.refused-then-reading-held.ensures.answer
    c.refused-then-reading-held.ensures.version c.refused-then-reading-held.ensures.none
    (ap answers.Old c.version-held.ensures ∙ old n d below ∙ sym (ap (answer_to (format_of n.fixed) n) reads)) (λ version e. cc)

pub answer_to-answer-requires-clause-count : goal.answer_to-answer-requires-clause-count
answer_to-answer-requires-clause-count c = c.requires.kept.live.count

pub answer_to-answer-requires-clause-above : goal.answer_to-answer-requires-clause-above
answer_to-answer-requires-clause-above c = omega (arith, c.if-reading-held.false, c.version-held.ensures)

pub returns-in-Adopted-clause-judged : goal.returns-in-Adopted-clause-judged
returns-in-Adopted-clause-judged c =
    let n = c.args.self.now in
    let bytes = c.args.document.now in
    let d = as_document c.in-Some.reading in
    let reads : document_in bytes ≡ Some d = sym c.in_ok-reading.ensures ∙ ap (option_map as_document) c.in-Some.is in
    adopted_judged n bytes d c.in_ok-withdrawn.withdrawn c.in-Adopted.version c.new_version.result c.requires.kept reads
    (sym c.answer_to-answer.ensures.answer ∙ c.in-Adopted.is) c.in_ok-withdrawn.ensures
    (IfOk-weaker c.new_version.result _ _ (λ p e. e ∙ c.in-Adopted.is) c.new_version.ensures.answer) c.new_version.ensures.version
    c.new_version.ensures.room

pub returns-in-Adopted-clause-work : goal.returns-in-Adopted-clause-work
returns-in-Adopted-clause-work c =
    let n = c.args.self.now in
    let d = as_document c.in-Some.reading in
    let reads : document_in c.args.document.now ≡ Some d = sym c.in_ok-reading.ensures ∙ ap (option_map as_document) c.in-Some.is in
    let above : n.live.version < d.topology.version = omega (arith, c.if-reading-held.false, c.version-held.ensures) in
    omega (arith, one_check n c.args.document.now d reads above, c.answer_to-answer.ensures.work)

pub returns-in_default-answer-clause-judged : goal.returns-in_default-answer-clause-judged
returns-in_default-answer-clause-judged c =
    let n = c.args.self.now in
    let bytes = c.args.document.now in
    let d = as_document c.in-Some.reading in
    let reads : document_in bytes ≡ Some d = sym c.in_ok-reading.ensures ∙ ap (option_map as_document) c.in-Some.is in
    refused_judged n bytes c.answer_to-answer.result c.refused-in_default-answer.result c.refused-in_default-answer.ensures.answer
    c.refused-in_default-answer.ensures.version c.refused-in_default-answer.ensures.none
    (c.answer_to-answer.ensures.answer ∙ sym (ap (answer_to (format_of n.fixed) n) reads)) c.in_default-answer.not-Adopted

pub returns-in_default-answer-clause-work : goal.returns-in_default-answer-clause-work
returns-in_default-answer-clause-work c =
    let n = c.args.self.now in
    let d = as_document c.in-Some.reading in
    let reads : document_in c.args.document.now ≡ Some d = sym c.in_ok-reading.ensures ∙ ap (option_map as_document) c.in-Some.is in
    let above : n.live.version < d.topology.version = omega (arith, c.if-reading-held.false, c.version-held.ensures) in
    omega (arith, one_check n c.args.document.now d reads above, c.answer_to-answer.ensures.work)
