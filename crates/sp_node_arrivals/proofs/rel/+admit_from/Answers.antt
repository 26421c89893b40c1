use Rattle.std.proofs.Common.{rules, ◌+◌, [], ◌∷◌, false, drop, length, map, sym, ap, ◌∙◌, subst, arith}
use Rattle.std.specs.Option.{option_copied}
use Rattle.std.specs.Prelude.{is_some}
use Rattle.std.proofs.lemmas.List.{length-drop, length-map}
use Rattle.sp_base.proofs.FewLemmas.{drop_first}
use Rattle.sp_frame.specs.Views.{as_object}
use Rattle.sp_rules.specs.Parts.{flows_of}
use Rattle.sp_rules.specs.Pieces.{RelPiece}
use Rattle.sp_node_arrivals.proofs.DoneLemmas.{done_then, none_done}
use Rattle.sp_node_arrivals.proofs.RelLemmas.{first_stays, never_past_rel, no_rel_ready, rel_in_turn}
use Rattle.sp_node_arrivals.specs.Arrival.{as_arrival}
use Rattle.sp_node_arrivals.specs.Rel.{AreRelsReady, Ground, ground_of}
use Rattle.sp_node_format.specs.Format.{format_of}
use Rattle.sp_node_arrivals.proofs.rel.+admit_from.Goals as goal

pub returns-in_default-clause-done : goal.returns-in_default-clause-done
returns-in_default-clause-done t c =
    let g = ground_of (as_arrival c.args.at.now) c.args.parts.now in
    let r = flows_of c.args.row.kind c.args.parts.now in
    let none = no_rel_ready false g r c.args.row.place.flow (map as_object (drop c.args.place c.args.rels.now)) c.args.ready
    (sym c.split.ensures ∙ c.in_default.is) c.requires.ready in
    rw (none, c.new.ensures) (none_done (format_of c.args.at.now.fixed.now) (as_arrival c.args.at.now) c.args.parts.now c.args.out.now)

pub returns-in_default-clause-many : goal.returns-in_default-clause-many
returns-in_default-clause-many t c =
    let g = ground_of (as_arrival c.args.at.now) c.args.parts.now in
    let r = flows_of c.args.row.kind c.args.parts.now in
    let none = no_rel_ready false g r c.args.row.place.flow (map as_object (drop c.args.place c.args.rels.now)) c.args.ready
    (sym c.split.ensures ∙ c.in_default.is) c.requires.ready in
    let long = ap length none in
    rw c.new.ensures (omega (
      arith,
      long,
      length-map (drop c.args.place c.args.rels.now) as_object,
      length-drop c.args.place c.args.rels.now,
    ))

pub unreachable-requires : goal.unreachable-requires
unreachable-requires t c =
    let g = ground_of (as_arrival c.args.at.now) c.args.parts.now in
    let r = flows_of c.args.row.kind c.args.parts.now in
    never_past_rel false g r c.args.row.place.flow c.args.rels.now c.args.place c.args.ready c.in-Some.others c.in-Some.first
    (sym c.get.ensures.value ∙ ap option_copied c.in_default-get.is) (sym c.split.ensures ∙ c.in-Some.is) c.requires.ready

pub admit_one-item-requires-clause-ready : goal.admit_one-item-requires-clause-ready
admit_one-item-requires-clause-ready t c =
    let g = ground_of (as_arrival c.args.at.now) c.args.parts.now in
    let r = flows_of c.args.row.kind c.args.parts.now in
    (rel_in_turn false g r c.args.row.place.flow c.args.rels.now c.args.place c.in-Some-get.object.now c.args.ready c.in-Some.others c.in-Some.first
    (sym c.get.ensures.value ∙ ap option_copied c.in-Some-get.is) (sym c.split.ensures ∙ c.in-Some.is) c.requires.ready).0

pub admit_from-items-requires : goal.admit_from-items-requires
admit_from-items-requires t c =
    let g = ground_of (as_arrival c.args.at.now) c.args.parts.now in
    let r = flows_of c.args.row.kind c.args.parts.now in
    let flow = c.args.row.place.flow in
    let new = c.admit_one-item.new.parts in
    let rest = map as_object (drop (c.args.place + 1) c.args.rels.now) in
    let both = rel_in_turn false g r flow c.args.rels.now c.args.place c.in-Some-get.object.now c.args.ready c.in-Some.others c.in-Some.first
    (sym c.get.ensures.value ∙ ap option_copied c.in-Some-get.is) (sym c.split.ensures ∙ c.in-Some.is) c.requires.ready in (
      search rules,
      (
        c.admit_one-item.ensures.place,
        (
          subst (λ (h : Ground). AreRelsReady false h (flows_of c.args.row.kind new) flow rest c.in-Some.others) (sym c.admit_one-item.ensures.ground)
              (first_stays (is_some c.in-Some.first) g flow r (flows_of c.args.row.kind new) rest c.in-Some.others c.admit_one-item.ensures.stays both.1),
          omega (arith, c.requires.room, c.admit_one-item.ensures.room, c.in-Some-get.ensures.within, c.in-Some-get.ensures.few),
        ),
      ),
    )

pub returns-clause-done : goal.returns-clause-done
returns-clause-done t c =
    let o = as_object c.in-Some-get.object.now in
    let mid = c.admit_one-item.new in
    let last = c.admit_from-items.new in
    let one = RelPiece c.args.row.kind c.args.row.place.flow in
    let rest = map one (map as_object (drop (c.args.place + 1) c.args.rels.now)) in
    let first = drop_first c.args.rels.now c.args.place c.in-Some-get.object.now (sym c.get.ensures.value ∙ ap option_copied c.in-Some-get.is) in
    rw (first, c.led_by.ensures)
    (done_then (format_of c.args.at.now.fixed.now) (as_arrival c.args.at.now) c.args.parts.now mid.parts last.parts (one o ∷ []) rest
    (c.admit_one-item.result ∷ [])
    c.admit_from-items.result c.args.out.now mid.out last.out c.admit_one-item.ensures.done c.admit_from-items.ensures.done)
