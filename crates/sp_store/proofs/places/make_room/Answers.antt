use Rattle.std.proofs.Common.{◌<◌, ap, arith, length}
use Rattle.indexmap.specs.IndexMap.{spare}
use Rattle.sp_store.proofs.PlaceLemmas.{moved_below, moved_length, moved_live, moved_stands}
use Rattle.sp_store.proofs.places.make_room.Goals as goal

pub returns-clause-entries : goal.returns-clause-entries
returns-clause-entries c = rw (c.swap.ensures.x_after, c.move_entries.ensures.entries) (moved_live c.args.map.now.entries)

pub returns-clause-stand : goal.returns-clause-stand
returns-clause-stand c = rw (c.swap.ensures.x_after, c.move_entries.ensures.entries) (moved_stands 0 c.args.map.now.entries c.requires.stand)

pub returns-clause-below : goal.returns-clause-below
returns-clause-below c = λ last all.
    rw (c.swap.ensures.x_after, c.move_entries.ensures.entries) (moved_below last c.args.map.now.entries all)

pub returns-clause-one : goal.returns-clause-one
returns-clause-one c =
    let few : 0 < spare c.move_entries.new.into = omega (
      arith,
      ap length c.move_entries.ensures.entries,
      moved_length c.args.map.now.entries,
      c.move_entries.ensures.into_room,
      c.requires.few,
      c.requires.twin_room,
    ) in
    rw c.swap.ensures.x_after few
