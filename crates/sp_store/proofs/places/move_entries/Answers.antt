use Rattle.std.proofs.Common.{◌≡◌, ◌+◌, ◌++◌, ◌∷◌, ℕ, List, Option, ap, sym, ◌∙◌, arith, filter, is_some, length, length-append}
use Rattle.indexmap.specs.IndexMap.{index_map_len}
use Rattle.indexmap.specs.Drain.{drain_rest}
use Rattle.sp_rules.specs.declared.store.Entry.{Entry}
use Rattle.sp_store.specs.Places.{live_of}
use Rattle.sp_store.proofs.PlaceLemmas.{empty_first, full_first, moved_length, next_left, next_new}
use Rattle.sp_store.proofs.places.move_entries.Goals as goal

pub add-requires-clause-room : goal.add-requires-clause-room
add-requires-clause-room c =
    let to_come : List (ℕ × Option Entry) = filter (λ p. is_some p.1) (drain_rest c.next.new.self) in
    let first = ap (filter (λ (p : ℕ × Option Entry). is_some p.1)) c.in-Some.ensures.steps.0
    ∙ full_first c.in-Some.id c.in-Some.slot (drain_rest c.next.new.self) (sym c.is_some.ensures ∙ c.if-is_some.true) in
    let moved = ap (λ (ps : List (ℕ × Option Entry)). c.places.into.entries ++ ps) (sym first) ∙ c.places.invariant.moved in
    let whole : index_map_len c.places.into + (length to_come + 1) ≡ length (live_of c.args.from.now.entries) =
    (let n = length-append c.places.into.entries ((c.in-Some.id, c.in-Some.slot) ∷ to_come) in
    omega (arith, n, ap length moved, moved_length c.args.from.now.entries)) in
    omega (arith, whole, c.places.invariant.room, c.requires.room)

pub add-requires-clause-fresh : goal.add-requires-clause-fresh
add-requires-clause-fresh c =
    next_new 0 c.in-Some.id c.in-Some.slot c.places.into.entries (drain_rest c.next.new.self) (rw c.in-Some.ensures.steps.0 at c.places.invariant.stand)

pub places-preserved : goal.places-preserved
places-preserved c =
    let first = ap (filter (λ (p : ℕ × Option Entry). is_some p.1)) c.in-Some.ensures.steps.0
    ∙ empty_first c.in-Some.id c.in-Some.slot (drain_rest c.next.new.self) (sym c.is_some.ensures ∙ c.if-is_some.false) in
    record {
      can = tt;
      finite = tt;
      stand = next_left 0 c.in-Some.id c.in-Some.slot c.places.into.entries (drain_rest c.next.new.self)
          (rw c.in-Some.ensures.steps.0 at c.places.invariant.stand);
      moved = ap (λ (ps : List (ℕ × Option Entry)). c.places.into.entries ++ ps) (sym first) ∙ c.places.invariant.moved;
      room = c.places.invariant.room;
    }
