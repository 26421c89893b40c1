use Rattle.std.proofs.Common.{◌≡◌, ◌+◌, ◌∙◌, ◌++◌, ◌∷◌, [], ℕ, List, Some, ap, arith, length, refl}
use Rattle.std.proofs.lemmas.List.{length_push}
use Rattle.sp_rules.specs.Store.{Store}
use Rattle.sp_rules.specs.declared.store.Entry.{Entry}
use Rattle.sp_store.specs.Places.{live_of}
use Rattle.sp_store.proofs.PlaceLemmas.{below_push, live_push, new_id, stands_push}
use Rattle.sp_store.proofs.places.Places.push.Goals as goal

pub add-requires-clause-fresh : goal.add-requires-clause-fresh
add-requires-clause-fresh c =
    new_id (c.self.inside.last + 1) c.self.inside.last c.make_room.new.map.entries (c.make_room.ensures.below c.self.inside.last c.self.invariant.below)
    (omega arith)

pub invariant_of-self : goal.invariant_of-self
invariant_of-self c =
    let key : ℕ = c.self.inside.last + 1 in
    let new : Entry = record { id = key; kept = c.args.kept } in
    let below = c.make_room.ensures.below c.self.inside.last c.self.invariant.below in
    let entries : live_of c.add.new.map.entries ≡ live_of c.self.inside.map.entries ++ new ∷ [] =
    ap live_of c.add.ensures.places ∙ live_push c.make_room.new.map.entries key new ∙ ap (λ (es : List Entry). es ++ new ∷ []) c.make_room.ensures.entries in
    let longer = ap length entries ∙ length_push (live_of c.self.inside.map.entries) new in
    let few = rw (← c.self.view_is) at c.requires.few in
    record {
      enough = c.self.invariant.enough;
      counted = omega (arith, longer, c.self.invariant.counted);
      few = omega (arith, few, c.self.invariant.counted);
      stand = rw c.add.ensures.places
          (stands_push 0 c.self.inside.last key c.make_room.new.map.entries new c.make_room.ensures.stand below (omega arith) (omega arith) refl);
      below = rw c.add.ensures.places (below_push c.self.inside.last key c.make_room.new.map.entries (Some new) below (omega arith));
      roomy = omega (arith, c.add.ensures.room, c.make_room.ensures.room);
      empty = c.make_room.ensures.empty;
      twin_roomy = c.make_room.ensures.twin_room;
    }

pub returns-clause-store : goal.returns-clause-store
returns-clause-store c =
    let key : ℕ = c.self.inside.last + 1 in
    let new : Entry = record { id = key; kept = c.args.kept } in
    let entries : live_of c.add.new.map.entries ≡ live_of c.self.inside.map.entries ++ new ∷ [] =
    ap live_of c.add.ensures.places ∙ live_push c.make_room.new.map.entries key new ∙ ap (λ (es : List Entry). es ++ new ∷ []) c.make_room.ensures.entries in
    rw (← c.self.view_is) (ap (λ (es : List Entry). let s : Store = record { capacity = c.self.inside.capacity; last = key; entries = es } in s) entries)
