-- How long the frames of a run are.
use Rattle.std.specs.Prelude.{ℕ, ◌≡◌, ◌≤◌, List, Some, length, slice_get}
use Rattle.sp_base.specs.declared.id.NodeId.{NodeId}
use Rattle.sp_frame.specs.declared.frame.TheConstants.{MAX_FRAME_BYTES}
use Rattle.sp_runs.specs.Runs.{Clean}
use Rattle.sp_runs.specs.Scenarios.{IsHeader, setting_of}
use Rattle.sp_runs.specs.Worlds.{World, frames_in}
use Rattle.sp_journal.specs.declared.entry.Entry.{Entry}
use Rattle.sp_schedule_events.specs.declared.event.Event.{Event}
use Rattle.sp_schedule_events.specs.declared.scenario.Scenario.{Scenario}
use Rattle.laws_runs_format.specs.Arts.{arts_of}

-- a head, sections of which all are empty, and a tag
abbrev pub least_frame : ℕ
least_frame = 76

-- a frame isn't shorter than the shortest one, nor longer than a datagram
pub record HasLength (bytes : List ℕ) : Type 0 where
  pub least : least_frame ≤ length bytes
  pub most : length bytes ≤ MAX_FRAME_BYTES

-- each frame that a correct node made
abbrev pub FramesHaveTheirLength : Type 0
FramesHaveTheirLength = (s : Scenario) (es : List Event) (js : List Entry) (w : World) → IsHeader s
    → Clean (arts_of (setting_of s)) (setting_of s) es js w
    → (u v : NodeId) (place : ℕ) (bytes : List ℕ) → slice_get (frames_in w.directions u v) place ≡ Some (Some bytes) → HasLength bytes
