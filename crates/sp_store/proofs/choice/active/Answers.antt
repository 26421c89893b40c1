use Rattle.std.proofs.Common.{ℕ, List, Option, ap, arith, sym, take, ◌∙◌, map}
use Rattle.std.proofs.lemmas.List.{take_all}
use Rattle.sp_rules.specs.Store.{free, has_entries, ids}
use Rattle.sp_rules.specs.declared.store.Entry.{Entry}
use Rattle.sp_store.proofs.CountLemmas.{IsFlagged, all_flagged, none_flagged, one_flagged, still_flagged}
use Rattle.sp_store.proofs.FreeLemmas.{either_more, flying_more, free_more}
use Rattle.sp_store.proofs.PlaceLemmas.{live_more, live_same}
use Rattle.sp_store.specs.Places.{live}
use Rattle.sp_store.proofs.choice.active.Goals as goal
use Rattle.sp_store.proofs.choice.active.Goals.{in-Some+then-not-active-src+then-not-is_flying, in-Some+else-not-active-src}
use Rattle.sp_store.proofs.choice.active.Goals.{else-not-active-src-via-then-not-active-src+else-not-is_flying, else-not-active-src-via-else-not-active-src}
use Rattle.sp_store.proofs.choice.active.Goals.{in_default}

pub slots-init : goal.slots-init
slots-init c = none_flagged

pub slots-preserved : goal.slots-preserved
slots-preserved c =
    let slots : List (Option Entry) = c.args.slots.now in
    let i : ℕ = c.slots.slot-index in
    let so_far : List Entry = live (take i slots) in
    elim c.match-slot.branch [
      | in-Some+then-not-active-src+then-not-is_flying w ↦
          let e : Entry = w.in-Some.entry in
          let more = live_more slots i c.slot-item.result e (omega arith) c.slot-item.is w.in-Some.is in
          let stays = free_more c.args.flight.now so_far e (sym w.is_flying.ensures ∙ w.if-not-is_flying.true) in
          rw (w.active-is, more, stays) (one_flagged (free c.args.flight.now so_far) c.slots.active e w.source-src.result c.slots.invariant
          w.source-src.ensures w.source-src.type_inv)
      | in-Some+else-not-active-src w ↦
          let e : Entry = w.in-Some.entry in
          let more = live_more slots i c.slot-item.result e (omega arith) c.slot-item.is w.in-Some.is in
          elim w.else-not-active-src.branch [
            | else-not-active-src-via-then-not-active-src+else-not-is_flying v ↦
                let flies = flying_more c.args.flight.now so_far e (sym v.is_flying.ensures ∙ v.if-not-is_flying.false) in
                rw (w.active-is, more, flies) c.slots.invariant
            | else-not-active-src-via-else-not-active-src v ↦
                rw (w.active-is, more) (either_more (λ (es : List Entry). IsFlagged es c.slots.active) c.args.flight.now so_far e c.slots.invariant
                (still_flagged (free c.args.flight.now so_far) c.slots.active e w.source-src.result c.slots.invariant w.source-src.ensures
                w.source-src.type_inv v.if-not-active-src.false))
          ]
      | in_default w ↦ rw (w.active-is, live_same slots i c.slot-item.result (omega arith) c.slot-item.is w.in_default.is) c.slots.invariant
    ]

pub returns : goal.returns
returns c =
    all_flagged (free c.args.flight.now (live (take c.slots.slot-index c.args.slots.now))) c.slots.active c.slots.invariant
    ∙ ap (λ (slots : List (Option Entry)). map (has_entries (free c.args.flight.now (live slots))) ids)
    (take_all c.slots.slot-index c.args.slots.now (omega arith))
