use Rattle.std.proofs.Common.{◌≡◌, List, [], ◌∷◌, sym, subst, ap, ◌∙◌}
use Rattle.std.specs.Prelude.{is_some}
use Rattle.sp_frame.specs.Views.{as_object}
use Rattle.sp_rules.specs.Answers.{rel_answer}
use Rattle.sp_rules.specs.Handle.{Handled, rel_handled}
use Rattle.sp_rules.specs.Kflow.{came_over}
use Rattle.sp_rules.specs.Lives.{is_dated}
use Rattle.sp_rules.specs.Parts.{Parts, flows_of}
use Rattle.sp_rules.specs.Pieces.{RelPiece}
use Rattle.sp_rules.specs.Rel.{RelState, judge_rel_of}
use Rattle.sp_rules.specs.declared.answers.Item.{Item}
use Rattle.sp_rules.specs.declared.answers.RelAnswer.{RelAnswer}
use Rattle.sp_node_arrivals.proofs.DoneLemmas.{one_done}
use Rattle.sp_node_arrivals.proofs.KindLemmas.{ground_stays, rel_beside}
use Rattle.sp_node_arrivals.proofs.RelLemmas.{rel_answered, rel_stays_ready}
use Rattle.sp_node_arrivals.specs.Arrival.{as_arrival}
use Rattle.sp_node_arrivals.specs.Done.{IsDone}
use Rattle.sp_node_arrivals.specs.Rel.{StaysReady, ground_of}
use Rattle.sp_node_arrivals.specs.Signed.{is_right}
use Rattle.sp_node_format.specs.Format.{format_of}
use Rattle.sp_node_arrivals.proofs.rel.admit_one.Goals as goal

pub returns-clause-ground : goal.returns-clause-ground
returns-clause-ground c =
    let at = as_arrival c.args.at.now in
    let o = as_object c.args.object.now in
    let p = c.args.parts.now in
    let kind = c.args.row.kind in
    let result = c.take-answer.result in
    ap (ground_of at) c.take-answer.ensures.parts ∙ ground_stays at kind p (rel_handled kind result o p).parts (rel_beside kind result o p)

pub returns-clause-stays : goal.returns-clause-stays
returns-clause-stays c =
    let o = as_object c.args.object.now in
    let p = c.args.parts.now in
    let kind = c.args.row.kind in
    let flow = c.args.row.place.flow in
    let g = ground_of (as_arrival c.args.at.now) p in
    let dated = is_dated p.lives o.body in
    let over = came_over p.kflow c.args.at.now.from o.body in
    let judged = judge_rel_of (flows_of kind p) flow o.body in
    let is : rel_handled kind (rel_answer (is_some c.args.ready) dated over judged) o p ≡ rel_handled kind c.take-answer.result o p =
    ap (λ (a : RelAnswer). rel_handled kind a o p) (sym c.take-answer.ensures.answer) in
    let left = ap (λ (h : Handled). flows_of kind h.parts) is ∙ ap (λ (q : Parts). flows_of kind q) (sym c.take-answer.ensures.parts) in
    subst (λ (r : RelState). StaysReady (is_some c.args.ready) g flow (flows_of kind p) r) left
    (rel_stays_ready kind (is_some c.args.ready) dated over g flow judged o p)

pub returns-clause-done : goal.returns-clause-done
returns-clause-done c =
    let o = as_object c.args.object.now in
    let p = c.args.parts.now in
    let f = c.args.at.now.fixed.now in
    let kind = c.args.row.kind in
    let flow = c.args.row.place.flow in
    let result = c.take-answer.result in
    let items : List Item = c.rel_item.result ∷ [] in
    let dated = is_dated p.lives o.body in
    let over = came_over p.kflow c.args.at.now.from o.body in
    let judged = judge_rel_of (flows_of kind p) flow o.body in
    let answer : result ≡ rel_answer (is_right f o) dated over judged =
    c.take-answer.ensures.answer ∙ rel_answered (is_some c.args.ready) (is_right f o) dated over judged c.requires.ready.right in
    let taken : IsDone (rel_handled kind result o p) c.take-answer.new.parts items c.args.out.now c.take-answer.new.out =
    record {
      parts = c.take-answer.ensures.parts;
      items = ap (λ (i : Item). let list : List Item = i ∷ [] in list) c.rel_item.ensures;
      effects = c.take-answer.ensures.told;
    } in
    one_done (format_of f) (as_arrival c.args.at.now) p c.take-answer.new.parts (RelPiece kind flow o) items c.args.out.now c.take-answer.new.out
    (subst (λ (a : RelAnswer). IsDone (rel_handled kind a o p) c.take-answer.new.parts items c.args.out.now c.take-answer.new.out) answer taken)
