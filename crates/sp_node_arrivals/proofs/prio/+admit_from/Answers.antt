use Rattle.std.proofs.Common.{rules, ◌≡◌, ◌≤◌, ◌+◌, ◌-◌, ◌*◌, ℕ, suc, List, [], ◌∷◌, drop, length, map, sym, ap, ◌∙◌, subst, arith}
use Rattle.std.specs.Option.{option_copied}
use Rattle.std.proofs.lemmas.List.{length-drop, length-map}
use Rattle.sp_base.proofs.FewLemmas.{drop_first}
use Rattle.sp_base.specs.declared.limits.TheConstants.{MAX_MESSAGES}
use Rattle.sp_frame.specs.Views.{as_numbered, as_object}
use Rattle.sp_rules.specs.Parts.{Parts}
use Rattle.sp_rules.specs.Pieces.{PrioPiece, prio_piece}
use Rattle.sp_rules.specs.Prio.{PrioState}
use Rattle.sp_rules.specs.declared.lives.Life.{Life}
use Rattle.sp_node_arrivals.proofs.DoneLemmas.{done_then, none_done}
use Rattle.sp_node_arrivals.proofs.PrioLemmas.{Follows, both_rooms, never_past, none_ready, piece_follows, piece_ids, prios_follow, ready_in_turn, room_after}
use Rattle.sp_node_arrivals.specs.Arrival.{as_arrival}
use Rattle.sp_node_arrivals.specs.Prio.{ArePriosReady, HasIds, HasRoom, prio_room}
use Rattle.sp_node_format.specs.Format.{format_of}
use Rattle.sp_node_arrivals.proofs.prio.+admit_from.Goals as goal

pub returns-in_default-clause-done : goal.returns-in_default-clause-done
returns-in_default-clause-done t c =
    let at = as_arrival c.args.at.now in
    let none = none_ready at c.args.parts.now.lives c.args.parts.now.prio (map as_numbered (drop c.args.place c.args.prios.now)) c.args.ready
    (sym c.split.ensures ∙ c.in_default.is)
    c.requires.ready in
    rw (none, c.new.ensures) (none_done (format_of c.args.at.now.fixed.now) at c.args.parts.now c.args.out.now)

pub returns-in_default-clause-many : goal.returns-in_default-clause-many
returns-in_default-clause-many t c =
    let at = as_arrival c.args.at.now in
    let none = none_ready at c.args.parts.now.lives c.args.parts.now.prio (map as_numbered (drop c.args.place c.args.prios.now)) c.args.ready
    (sym c.split.ensures ∙ c.in_default.is)
    c.requires.ready in
    let long = ap length none in
    rw c.new.ensures (omega (
      arith,
      long,
      length-map (drop c.args.place c.args.prios.now) as_numbered,
      length-drop c.args.place c.args.prios.now,
    ))

pub unreachable-requires : goal.unreachable-requires
unreachable-requires t c =
    never_past (as_arrival c.args.at.now) c.args.parts.now.lives c.args.parts.now.prio c.args.prios.now c.args.place c.args.ready c.in-Some.others
    c.in-Some.first
    (sym c.get.ensures.value ∙ ap option_copied c.in_default-get.is) (sym c.split.ensures ∙ c.in-Some.is) c.requires.ready

pub admit_one-item-requires-clause-ready : goal.admit_one-item-requires-clause-ready
admit_one-item-requires-clause-ready t c =
    (ready_in_turn (as_arrival c.args.at.now) c.args.parts.now.lives c.args.parts.now.prio c.args.prios.now c.args.place c.in-Some-get.field-0.now
    c.args.ready c.in-Some.others
    c.in-Some.first (sym c.get.ensures.value ∙ ap option_copied c.in-Some-get.is) (sym c.split.ensures ∙ c.in-Some.is) c.requires.ready).0

pub admit_from-items-requires : goal.admit_from-items-requires
admit_from-items-requires t c =
    let arts = format_of c.args.at.now.fixed.now in
    let at = as_arrival c.args.at.now in
    let p = c.args.parts.now in
    let x = c.in-Some-get.field-0.now in
    let new = c.admit_one-item.new in
    let both = ready_in_turn at p.lives p.prio c.args.prios.now c.args.place x c.args.ready c.in-Some.others c.in-Some.first
    (sym c.get.ensures.value ∙ ap option_copied c.in-Some-get.is) (sym c.split.ensures ∙ c.in-Some.is) c.requires.ready in
    let left = ap (λ (q : Parts). q.prio) c.admit_one-item.ensures.done.parts in
    let count = MAX_MESSAGES - (c.args.place + 1) in
    let more : MAX_MESSAGES - c.args.place ≡ suc count = omega (arith, c.in-Some-get.ensures.within, c.in-Some-get.ensures.few) in
    let room = subst (λ (n : ℕ). HasRoom n p.prio c.args.out.now.room) more c.requires.room in
    let follows = subst (λ (s : PrioState). Follows p.prio s) (sym left) (piece_follows arts at p x.0 (as_object x.1)) in
    let ids = subst (HasIds count) (sym left) (piece_ids arts at p x.0 (as_object x.1) count room.ids) in (
      search rules,
      (
        subst (λ (lives : List Life). ArePriosReady at lives new.parts.prio (map as_numbered (drop (c.args.place + 1) c.args.prios.now)) c.in-Some.others)
            (sym c.admit_one-item.ensures.lives)
            (prios_follow at p.lives p.prio new.parts.prio (map as_numbered (drop (c.args.place + 1) c.args.prios.now)) c.in-Some.others follows both.1),
        room_after count p.prio new.parts.prio c.args.out.now.room new.out.room follows ids room c.admit_one-item.ensures.room,
      ),
    )

pub returns-clause-done : goal.returns-clause-done
returns-clause-done t c =
    let arts = format_of c.args.at.now.fixed.now in
    let at = as_arrival c.args.at.now in
    let p = c.args.parts.now in
    let x = c.in-Some-get.field-0.now in
    let mid = c.admit_one-item.new in
    let last = c.admit_from-items.new in
    let rest = map prio_piece (map as_numbered (drop (c.args.place + 1) c.args.prios.now)) in
    let first = drop_first c.args.prios.now c.args.place x (sym c.get.ensures.value ∙ ap option_copied c.in-Some-get.is) in
    rw (first, c.led_by.ensures)
    (done_then arts at p mid.parts last.parts (PrioPiece x.0 (as_object x.1) ∷ []) rest (c.admit_one-item.result ∷ []) c.admit_from-items.result
    c.args.out.now mid.out last.out c.admit_one-item.ensures.done c.admit_from-items.ensures.done)

pub returns-clause-room : goal.returns-clause-room
returns-clause-room t c =
    let arts = format_of c.args.at.now.fixed.now in
    let at = as_arrival c.args.at.now in
    let p = c.args.parts.now in
    let x = c.in-Some-get.field-0.now in
    let left = ap (λ (q : Parts). q.prio) c.admit_one-item.ensures.done.parts in
    let count = MAX_MESSAGES - (c.args.place + 1) in
    let more : MAX_MESSAGES - c.args.place ≡ suc count = omega (arith, c.in-Some-get.ensures.within, c.in-Some-get.ensures.few) in
    let same : prio_room c.admit_one-item.new.parts.prio ≡ prio_room p.prio =
    ap prio_room left ∙ ap (λ (n : ℕ). 2 * n + 3) (piece_follows arts at p x.0 (as_object x.1)).peers in
    rw more
    (both_rooms count (prio_room p.prio) c.args.out.now.room c.admit_one-item.new.out.room c.admit_from-items.new.out.room c.admit_one-item.ensures.room
    (subst (λ (k : ℕ). c.admit_one-item.new.out.room ≤ c.admit_from-items.new.out.room + count * k) same c.admit_from-items.ensures.room))
