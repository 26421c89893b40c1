-- What the laws of runs ask of settings, of a schedule's header.
use Rattle.std.specs.Prelude.{◌≡◌, false}
use Rattle.sp_rules.specs.Topologies.{IsRunnable}
use Rattle.sp_runs.specs.Scenarios.{IsHeader, setting_of, topology_of}
use Rattle.sp_runs.specs.Settings.{SettingFits, StaysUp}
use Rattle.sp_schedule_events.specs.declared.scenario.Scenario.{Scenario}
use Rattle.laws_runs.specs.Crafts.{AreLong}
use Rattle.laws_runs_format.specs.Arts.{arts_of}

-- of a header in its ranges
abbrev pub TopologiesFit : Type 0
TopologiesFit = (s : Scenario) → IsHeader s → IsRunnable (topology_of s)

-- and so each node signs with the key that its topology has for it
abbrev pub HeadersFit : Type 0
HeadersFit = (s : Scenario) → IsHeader s → SettingFits (arts_of (setting_of s)) (setting_of s)

-- and where it says no epochs, no node starts or stops by an event
abbrev pub PlainHeadersFit : Type 0
PlainHeadersFit = (s : Scenario) → IsHeader s → s.epochs ≡ false → StaysUp (arts_of (setting_of s)) (setting_of s)

-- and signatures of every node's key, compromised or not, have one length
abbrev pub SignaturesAreLong : Type 0
SignaturesAreLong = (s : Scenario) → AreLong (arts_of (setting_of s)) (setting_of s)
