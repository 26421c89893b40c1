use Rattle.std.proofs.Common.{◌≡◌, ◌+◌, ◌*◌, [], ◌∷◌, length, refl, ◌∙◌, subst}
use Rattle.std.specs.Prelude.{is_some}
use Rattle.sp_frame.specs.Views.{as_object}
use Rattle.sp_rules.specs.Answers.{prio_answer}
use Rattle.sp_rules.specs.Handle.{prio_handled}
use Rattle.sp_rules.specs.Lives.{is_dated}
use Rattle.sp_rules.specs.Pieces.{PrioPiece}
use Rattle.sp_rules.specs.Prio.{judge_prio}
use Rattle.sp_rules.specs.declared.answers.Item.TheVariants as items
use Rattle.sp_rules.specs.declared.answers.PrioAnswer.{PrioAnswer}
use Rattle.sp_node_arrivals.proofs.DoneLemmas.{one_done}
use Rattle.sp_node_arrivals.proofs.PrioLemmas.{prio_answered}
use Rattle.sp_node_arrivals.proofs.RoomLemmas.{prio_room, room_left}
use Rattle.sp_node_arrivals.specs.Arrival.{as_arrival}
use Rattle.sp_node_arrivals.specs.Done.{IsDone}
use Rattle.sp_node_arrivals.specs.Signed.{is_right}
use Rattle.sp_node_format.specs.Format.{format_of}
use Rattle.sp_node_arrivals.proofs.prio.admit_one.Goals as goal

pub returns-clause-room : goal.returns-clause-room
returns-clause-room c =
    let o = as_object c.args.object.now in
    let p = c.args.parts.now in
    room_left c.args.out.now c.take.new.out (prio_handled c.args.at.now.from c.take.result c.args.number o p).effects
    (2 * length p.prio.peers + 3) c.take.ensures.told (prio_room c.args.at.now.from c.take.result c.args.number o p)

pub returns-clause-done : goal.returns-clause-done
returns-clause-done c =
    let o = as_object c.args.object.now in
    let p = c.args.parts.now in
    let f = c.args.at.now.fixed.now in
    let result = c.take.result in
    let dated = is_dated p.lives o.body in
    let judged = judge_prio p.prio o.body c.args.at.now.time in
    let answer : result ≡ prio_answer (is_right f o) dated judged =
    c.take.ensures.answer ∙ prio_answered (is_some c.args.ready) (is_right f o) dated judged c.requires.ready.right in
    let taken : IsDone (prio_handled c.args.at.now.from result c.args.number o p) c.take.new.parts (items.Prio result ∷ []) c.args.out.now c.take.new.out =
    record { parts = c.take.ensures.parts; items = refl; effects = c.take.ensures.told } in
    one_done (format_of f) (as_arrival c.args.at.now) p c.take.new.parts (PrioPiece c.args.number o) (items.Prio result ∷ []) c.args.out.now c.take.new.out
    (subst (λ (a : PrioAnswer). IsDone (prio_handled c.args.at.now.from a c.args.number o p) c.take.new.parts (items.Prio result ∷ [])
    c.args.out.now c.take.new.out) answer taken)
