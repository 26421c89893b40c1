use Rattle.std.proofs.Common.{◌≡◌, ◌≤◌, ◌+◌, ◌++◌, filter, is_some}
use Rattle.indexmap.specs.IndexMap.{index_map_len, spare}
use Rattle.indexmap.specs.Drain.{drain_rest}
use Rattle.sp_store.specs.Places.{Stands}
use Rattle.sp_store.proofs.places.move_entries.Given as goal

abbrev pub invariant-places : goal.invariant-places
invariant-places l = record {
  can : (goal.iterator-places).can_next l.id-iterator;
  finite : (goal.iterator-places).is_finite l.id-iterator;
  stand : Stands 0 (l.into.entries ++ drain_rest l.id-iterator);
  moved : l.into.entries ++ filter (λ p. is_some p.1) (drain_rest l.id-iterator) ≡ filter (λ p. is_some p.1) l.fn.from.entries;
  room : spare l.fn.into ≤ index_map_len l.into + spare l.into;
}
