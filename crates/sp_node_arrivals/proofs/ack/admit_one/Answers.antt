use Rattle.std.proofs.Common.{◌≡◌, List, [], ◌∷◌, is_some, sym, ap, ◌∙◌, subst}
use Rattle.sp_frame.specs.Views.{as_object}
use Rattle.sp_rules.specs.Answers.{ack_answer}
use Rattle.sp_rules.specs.Handle.{Handled, ack_handled}
use Rattle.sp_rules.specs.Lives.{is_dated}
use Rattle.sp_rules.specs.Parts.{Parts, flows_of}
use Rattle.sp_rules.specs.Pieces.{AckPiece}
use Rattle.sp_rules.specs.Rel.{RelState, judge_ack_of}
use Rattle.sp_rules.specs.declared.answers.AckAnswer.{AckAnswer}
use Rattle.sp_rules.specs.declared.answers.Item.{Item}
use Rattle.sp_node_arrivals.proofs.DoneLemmas.{ack_tells_nothing, one_done}
use Rattle.sp_node_arrivals.proofs.KindLemmas.{ack_beside, ground_stays}
use Rattle.sp_node_arrivals.proofs.RelLemmas.{ack_answered, stays_ready}
use Rattle.sp_node_arrivals.specs.Arrival.{as_arrival}
use Rattle.sp_node_arrivals.specs.Done.{IsDone}
use Rattle.sp_node_arrivals.specs.Rel.{StaysReady, ground_of}
use Rattle.sp_node_arrivals.specs.Signed.{is_right}
use Rattle.sp_node_format.specs.Format.{format_of}
use Rattle.sp_node_arrivals.proofs.ack.admit_one.Goals as goal

pub returns-clause-ground : goal.returns-clause-ground
returns-clause-ground c =
    let at = as_arrival c.args.at.now in
    let o = as_object c.args.object.now in
    let p = c.args.parts.now in
    let kind = c.args.row.kind in
    let result = c.take-answer.result in
    ap (ground_of at) c.take-answer.ensures.parts ∙ ground_stays at kind p (ack_handled kind result o p).parts (ack_beside kind result o p)

pub returns-clause-stays : goal.returns-clause-stays
returns-clause-stays c =
    let o = as_object c.args.object.now in
    let p = c.args.parts.now in
    let kind = c.args.row.kind in
    let flow = c.args.row.place.flow in
    let g = ground_of (as_arrival c.args.at.now) p in
    let dated = is_dated p.lives o.body in
    let judged = judge_ack_of (flows_of kind p) flow o.body in
    let is : ack_handled kind (ack_answer (is_some c.args.ready) dated judged) o p ≡ ack_handled kind c.take-answer.result o p =
    ap (λ (a : AckAnswer). ack_handled kind a o p) (sym c.take-answer.ensures.answer) in
    let left = ap (λ (h : Handled). flows_of kind h.parts) is ∙ ap (λ (q : Parts). flows_of kind q) (sym c.take-answer.ensures.parts) in
    subst (λ (r : RelState). StaysReady (is_some c.args.ready) g flow (flows_of kind p) r) left
    (stays_ready kind (is_some c.args.ready) dated g flow judged o p)

pub returns-clause-done : goal.returns-clause-done
returns-clause-done c told =
    let o = as_object c.args.object.now in
    let p = c.args.parts.now in
    let f = c.args.at.now.fixed.now in
    let kind = c.args.row.kind in
    let flow = c.args.row.place.flow in
    let result = c.take-answer.result in
    let items : List Item = c.ack_item.result ∷ [] in
    let dated = is_dated p.lives o.body in
    let judged = judge_ack_of (flows_of kind p) flow o.body in
    let answer : result ≡ ack_answer (is_right f o) dated judged =
    c.take-answer.ensures.answer ∙ ack_answered (is_some c.args.ready) (is_right f o) dated judged c.requires.ready.right in
    let taken : IsDone (ack_handled kind result o p) c.take-answer.new.parts items told told =
    record {
      parts = c.take-answer.ensures.parts;
      items = ap (λ (i : Item). let list : List Item = i ∷ [] in list) c.ack_item.ensures;
      effects = ack_tells_nothing kind result o p told;
    } in
    one_done (format_of f) (as_arrival c.args.at.now) p c.take-answer.new.parts (AckPiece kind flow o) items told told
    (subst (λ (a : AckAnswer). IsDone (ack_handled kind a o p) c.take-answer.new.parts items told told) answer taken)
