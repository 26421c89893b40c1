use Rattle.std.proofs.Common.{◌≡◌, ◌+◌, ℕ, Bool, List, ◌∷◌, Option, drop, length, length-drop, map, ap, subst, sym, ◌∙◌, arith}
use Rattle.std.specs.Prelude.{◌||◌, is_some}
use Rattle.std.specs.Option.{option_copied}
use Rattle.sp_base.proofs.FewLemmas.{at_place, drop_first, drop_past}
use Rattle.sp_frame.specs.OfFormat.{IsOf}
use Rattle.sp_frame.specs.Views.{as_object}
use Rattle.sp_frame.specs.declared.object.ObjectRef.{ObjectRef}
use Rattle.sp_msg.specs.declared.kept.Kept.{Kept}
use Rattle.sp_rel.specs.Seats.{SeatState}
use Rattle.sp_rules.specs.Parts.{flows_of}
use Rattle.sp_node_arrivals.specs.Arrival.{as_arrival}
use Rattle.sp_node_arrivals.specs.Rel.{AreRelsReady, ground_of}
use Rattle.sp_node_arrivals.proofs.WorkLemmas.{moved_here, moved_on, rels_from, rels_then}
use Rattle.sp_node_arrivals.proofs.rel.+ready_from.Goals as goal
use Rattle.sp_node_arrivals.proofs.rel.+ready_from.Goals.{then-moved, else-moved}

pub returns-in_default-clause-ready : goal.returns-in_default-clause-ready
returns-in_default-clause-ready t c =
    let none = sym c.get.ensures.value ∙ ap option_copied c.in_default.is in
    rw (drop_past c.args.rels.now c.args.place none) c.new.ensures

pub returns-in_default-clause-many : goal.returns-in_default-clause-many
returns-in_default-clause-many t c =
    let none = sym c.get.ensures.value ∙ ap option_copied c.in_default.is in
    ap length c.new.ensures ∙ sym (ap length (drop_past c.args.rels.now c.args.place none)) ∙ length-drop c.args.place c.args.rels.now

-- the first is ready, and the others behind it
pub returns-clause-ready : goal.returns-clause-ready
returns-clause-ready t c =
    let at = sym c.get.ensures.value ∙ ap option_copied c.in-Some.is in
    let g = ground_of (as_arrival c.args.at.now) c.args.parts.now in
    let r = flows_of c.args.row.kind c.args.parts.now in
    let flow = c.args.row.place.flow in
    let x = c.in-Some.object.now in
    let ready = c.in_ok-first.first in
    let others = c.in_ok-others.others in
    let rest = map as_object (drop (c.args.place + 1) c.args.rels.now) in
    let moved : c.if-moved.moved ≡ (c.args.moved || is_some ready) = elim c.if-moved.branch [
      | then-moved w ↦ moved_on c.args.moved (is_some ready) c.if-moved.moved w.if-moved.true w.moved-is
      | else-moved w ↦ moved_here c.args.moved (is_some ready) c.if-moved.moved w.if-moved.false (w.moved-is ∙ w.is_some-moved.ensures)
    ] in
    let later : AreRelsReady (c.args.moved || is_some ready) g r flow rest others =
    subst (λ (b : Bool). AreRelsReady b g r flow rest others) moved c.in_ok-others.ensures.ready in
    let both : AreRelsReady c.args.moved g r flow (as_object x ∷ rest) (ready ∷ others) = (c.in_ok-first.ensures.ready, later) in
    subst (λ (rs : List (Option (Kept × List ℕ × SeatState))). AreRelsReady c.args.moved g r flow (map as_object (drop c.args.place c.args.rels.now)) rs)
    (sym c.led_by.ensures)
    (subst (λ (xs : List ObjectRef). AreRelsReady c.args.moved g r flow (map as_object xs) (ready ∷ others))
    (sym (drop_first c.args.rels.now c.args.place x at)) both)

pub ready_one-requires-clause-format : goal.ready_one-requires-clause-format
ready_one-requires-clause-format t c =
    at_place (IsOf c.args.at.now.fixed.now.topology.format) c.args.rels.now c.args.place c.in-Some.object.now c.requires.formats
    (sym c.get.ensures.value ∙ ap option_copied c.in-Some.is)

pub returns-in_err-first-clause-work : goal.returns-in_err-first-clause-work
returns-in_err-first-clause-work t c =
    let at = sym c.get.ensures.value ∙ ap option_copied c.in-Some.is in
    let g = ground_of (as_arrival c.args.at.now) c.args.parts.now in
    let r = flows_of c.args.row.kind c.args.parts.now in
    omega (
      arith,
      rels_from c.args.moved g r c.args.row.place.flow c.args.rels.now c.args.place c.in-Some.object.now at,
      c.ready_one.ensures.work,
    )

pub returns-in_err-others-clause-work : goal.returns-in_err-others-clause-work
returns-in_err-others-clause-work t c =
    let at = sym c.get.ensures.value ∙ ap option_copied c.in-Some.is in
    let g = ground_of (as_arrival c.args.at.now) c.args.parts.now in
    let r = flows_of c.args.row.kind c.args.parts.now in
    let ready = is_some c.in_ok-first.first in
    let moved : c.if-moved.moved ≡ (c.args.moved || ready) = elim c.if-moved.branch [
      | then-moved w ↦ moved_on c.args.moved ready c.if-moved.moved w.if-moved.true w.moved-is
      | else-moved w ↦ moved_here c.args.moved ready c.if-moved.moved w.if-moved.false (w.moved-is ∙ w.is_some-moved.ensures)
    ] in
    rels_then c.args.moved ready c.if-moved.moved g r c.args.row.place.flow c.args.rels.now c.args.place c.in-Some.object.now c.args.checker.now.checks
    c.ready_one.new.checker.checks c.ready_from.new.checker.checks at moved c.in_ok-first.ensures.new c.ready_one.ensures.work c.ready_from.ensures.work

pub returns-clause-work : goal.returns-clause-work
returns-clause-work t c =
    let at = sym c.get.ensures.value ∙ ap option_copied c.in-Some.is in
    let g = ground_of (as_arrival c.args.at.now) c.args.parts.now in
    let r = flows_of c.args.row.kind c.args.parts.now in
    let ready = is_some c.in_ok-first.first in
    let moved : c.if-moved.moved ≡ (c.args.moved || ready) = elim c.if-moved.branch [
      | then-moved w ↦ moved_on c.args.moved ready c.if-moved.moved w.if-moved.true w.moved-is
      | else-moved w ↦ moved_here c.args.moved ready c.if-moved.moved w.if-moved.false (w.moved-is ∙ w.is_some-moved.ensures)
    ] in
    rels_then c.args.moved ready c.if-moved.moved g r c.args.row.place.flow c.args.rels.now c.args.place c.in-Some.object.now c.args.checker.now.checks
    c.ready_one.new.checker.checks c.ready_from.new.checker.checks at moved c.in_ok-first.ensures.new c.ready_one.ensures.work c.ready_from.ensures.work
