-- A neighbour's row by what is in flight to it.
use Rattle.std.specs.Prelude.{◌+◌, [], ◌∷◌, ◌++◌, Some}
use Rattle.sp_prio.specs.declared.flight.Flight.{Flight}
use Rattle.sp_rules.specs.PrioPeer.{PrioPeer}
use Rattle.sp_rules.specs.Store.{source}
use Rattle.sp_rules.specs.declared.store.Entry.{Entry}

-- the row with another flight
abbrev pub with_flight : PrioPeer → Flight → PrioPeer
with_flight q f = record q { number = f.number; last = f.cursor; flight = f.pairs }

-- this entry goes in flight under the next link number, and its source was served
abbrev pub launched_with : Flight → Entry → Flight
launched_with f e = record { number = f.number + 1; cursor = Some (source e); pairs = f.pairs ++ (f.number + 1, e.id) ∷ [] }
