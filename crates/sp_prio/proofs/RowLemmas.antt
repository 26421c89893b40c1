-- For a neighbour that isn't there nothing waits, and it acknowledges nothing.
use Rattle.std.proofs.Common.{◌≡◌, ℕ, [], Option, Some, None, map, refl, ap}
use Rattle.std.specs.Option.{option_and_then}
use Rattle.sp_prio.proofs.FlightLemmas.{filled_none}
use Rattle.sp_rules.specs.Polls.{as_message}
use Rattle.sp_rules.specs.Prio.{no_peer}
use Rattle.sp_rules.specs.PrioPeer as rows
use Rattle.sp_rules.specs.PrioPeer.{PrioPeer}
use Rattle.sp_rules.specs.Store.{empty_store, highest, next_besides, next_source}

none_next : (capacity : ℕ) (last : Option ℕ) → next_besides (empty_store capacity) [] last ≡ None
none_next capacity last = go (next_source [] last)
  where
    go : (src : Option ℕ) → option_and_then (highest []) src ≡ None
    go None = refl
    go (Some id) = refl

pub nothing_waits : map as_message (rows.next_prios no_peer) ≡ []
nothing_waits = ap (λ (q : PrioPeer). map as_message (rows.in_flight q)) (filled_none 4 no_peer (none_next 0 None))

pub nothing_acked : (number : ℕ) → rows.acked_effects no_peer number ≡ []
nothing_acked number = refl
