-- Which entry a store gave up.
use Rattle.std.specs.Prelude.{Option, Some, None}
use Rattle.sp_rules.specs.declared.store.Entry.{Entry}
use Rattle.sp_rules.specs.declared.store.Put.{Put}
use Rattle.sp_rules.specs.declared.store.Put.TheVariants.{Stored, StoredAfter}

abbrev pub evicted_in : Put → Option Entry
evicted_in (Stored id) = None
evicted_in (StoredAfter id evicted) = Some evicted
