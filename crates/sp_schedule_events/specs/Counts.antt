-- How many frames each direction has made so far, as a table with a row for each direction that made one.
use Rattle.std.specs.Prelude.{ℕ, ◌≡◌, ◌+◌, ◌==◌, ◌&&◌, Bool, List}
use Rattle.sp_base.specs.Rows.{first_where, put_where}
use Rattle.sp_schedule_events.specs.declared.event.Event.{Event}
use Rattle.sp_schedule_events.specs.declared.event.Event.TheVariants as events
use Rattle.sp_schedule_events.specs.Events.{polls}

-- the frames that one node made for another
pub record Count : Type 0 where
  pub from : ℕ
  pub to : ℕ
  pub polls : ℕ

-- whether a row is that of a direction
abbrev pub is_from_to : ℕ → ℕ → Count → Bool
is_from_to u v row = (row.from == u) && (row.to == v)

-- a direction in which no frame was made
abbrev pub no_polls : ℕ → ℕ → Count
no_polls u v = record { from = u; to = v; polls = 0 }

-- the frames that u made for v
abbrev pub polls_in : List Count → ℕ → ℕ → ℕ
polls_in rows u v = (first_where (is_from_to u v) (no_polls u v) rows).polls

-- u made one more frame for v
abbrev pub with_poll : List Count → ℕ → ℕ → List Count
with_poll rows u v = put_where (is_from_to u v) (record { from = u; to = v; polls = polls_in rows u v + 1 }) rows

-- after one more event
abbrev pub with_event : List Count → Event → List Count
with_event rows (events.Poll u v) = with_poll rows u.0 v.0
with_event rows _ = rows

-- the rows have the polls of each direction
abbrev pub AreCounted : List Event → List Count → Type 0
AreCounted es rows = (u v : ℕ) → polls_in rows u v ≡ polls es u v
