-- Counted delivery of both kinds of flows over this format, in every setting that a schedule's header makes: nothing is asked of what the format writes, and of the
-- header its ranges and room for a message.
use Rattle.std.specs.Prelude.{◌≡◌, ◌≤◌, false, true}
use Rattle.sp_runs.specs.Scenarios.{IsHeader, setting_of}
use Rattle.sp_schedule_events.specs.declared.scenario.Scenario.{Scenario}
use Rattle.laws_progress.specs.Delivery.{DeliversInRounds, ReturnsInRounds}
use Rattle.laws_progress.specs.LifeDelivery.{DeliversInLives, ReturnsInLives, StartsAreTold}
use Rattle.laws_runs_format.specs.Arts.{arts_of}

-- what was accepted is delivered after hops + b + 1 complete rounds
abbrev pub SchedulesDeliver : Type 0
SchedulesDeliver = (s : Scenario) → IsHeader s → s.epochs ≡ false → 1 ≤ s.limits.buffer → DeliversInRounds (arts_of (setting_of s)) (setting_of s)

-- and what was acknowledged has returned after hops + 1
abbrev pub SchedulesReturn : Type 0
SchedulesReturn = (s : Scenario) → IsHeader s → s.epochs ≡ false → 1 ≤ s.limits.buffer → ReturnsInRounds (arts_of (setting_of s)) (setting_of s)

-- ---- where nodes start and stop

-- while the nodes of a path stay up, each holds the boot of each other's life after hops + 1 rounds that tell starts
abbrev pub SchedulesTellStarts : Type 0
SchedulesTellStarts = (s : Scenario) → IsHeader s → s.epochs ≡ true → StartsAreTold (arts_of (setting_of s)) (setting_of s)

-- and then what is accepted in their present lives is delivered, and what is acknowledged has returned, after as many rounds as above
abbrev pub SchedulesDeliverInLives : Type 0
SchedulesDeliverInLives = (s : Scenario) → IsHeader s → 1 ≤ s.limits.buffer → DeliversInLives (arts_of (setting_of s)) (setting_of s)

-- the law of counted acknowledgement where nodes start and stop, in the setting of each header
abbrev pub SchedulesReturnInLives : Type 0
SchedulesReturnInLives = (s : Scenario) → IsHeader s → 1 ≤ s.limits.buffer → ReturnsInLives (arts_of (setting_of s)) (setting_of s)
