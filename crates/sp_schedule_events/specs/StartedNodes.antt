-- Which nodes are started, as a flag for each id; and all that a timeline keeps beside its events.
use Rattle.std.specs.Prelude.{ℕ, ◌≡◌, ◌<◌, Bool, true, false, List, length}
use Rattle.std.specs.List.{slice_index_or, slice_set}
use Rattle.sp_schedule_events.specs.Counts.{AreCounted, Count}
use Rattle.sp_schedule_events.specs.Documents.{published}
use Rattle.sp_schedule_events.specs.Lives.{is_started}
use Rattle.sp_schedule_events.specs.declared.event.Event.{Event}
use Rattle.sp_schedule_events.specs.declared.event.Event.TheVariants as events
use Rattle.sp_schedule_events.specs.declared.published.Published.{Published}

-- after one more event
abbrev pub with_life : List Bool → Event → List Bool
with_life flags (events.Start u) = slice_set flags u.0 true
with_life flags (events.Stop u) = slice_set flags u.0 false
with_life flags _ = flags

-- the flags say which nodes the events leave started
pub record AreFlagged (es : List Event) (flags : List Bool) : Type 0 where
  pub places : length flags ≡ 256
  pub each : (u : ℕ) → u < 256 → slice_index_or flags u false ≡ is_started es u

-- what a timeline keeps agrees with its events
pub record AreKept (es : List Event) (rows : List Count) (flags : List Bool) (last : Published) : Type 0 where
  pub counted : AreCounted es rows
  pub flagged : AreFlagged es flags
  pub published : last ≡ published es
