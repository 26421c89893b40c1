-- What the schedule of a number is.
use Rattle.std.specs.Prelude.{ℕ, ◌≡◌, length}
use Rattle.sp_schedule.specs.Scenarios.{IsSchedule}
use Rattle.sp_generate.specs.Generated.{generated_events, generated_scenario}

-- it is a good one
abbrev pub GeneratedAreSchedules : Type 0
GeneratedAreSchedules = (number : ℕ) → IsSchedule (generated_scenario number) (generated_events number)

-- of so many events
abbrev pub GeneratedHaveTheirLength : Type 0
GeneratedHaveTheirLength = (number : ℕ) → length (generated_events number) ≡ 3975
