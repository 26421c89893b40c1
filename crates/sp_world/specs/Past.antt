-- What a world keeps, and what an event makes of it.
use Rattle.std.specs.Prelude.{ℕ, ◌≡◌, ◌⊎◌, ◌+◌, List, [], ◌∷◌, ◌++◌, length, Option, None, Some}
use Rattle.sp_base.specs.declared.id.NodeId.{NodeId}
use Rattle.laws_runs_format.specs.Arts.{arts_of}
use Rattle.sp_journal.specs.declared.entry.Entry.{Entry}
use Rattle.sp_runs.specs.Inputs.{acting}
use Rattle.sp_runs.specs.Lives.{ready}
use Rattle.sp_runs.specs.Runs.{Clean, IsForgedAt, Turn, forged_in}
use Rattle.sp_runs.specs.Scenarios.{IsHeader, setting_of}
use Rattle.sp_runs.specs.Settings.{Setting}
use Rattle.sp_runs.specs.Worlds.{World, at_start, without_node}
use Rattle.sp_runs.specs.declared.what.What.{What}
use Rattle.sp_schedule_events.specs.declared.event.Event.{Event}
use Rattle.sp_schedule_events.specs.declared.scenario.Scenario.{Scenario}
use Rattle.sp_world.specs.declared.refused.WorldRefused.{WorldRefused}
use Rattle.sp_world.specs.declared.refused.WorldRefused.TheVariants as refusals

-- the scenario, the events done with their entries, the nodes and frames to which they led, and why no more are done, if none are
pub record Past : Type 0 where
  pub scenario : Scenario
  pub events : List Event
  pub journal : List Entry
  pub world : World
  pub stopped : Option WorldRefused

-- before the first event
abbrev pub at_first : Scenario → Past
at_first s = record { scenario = s; events = []; journal = []; world = at_start (setting_of s); stopped = None }

-- the nodes and frames of the world without a node
pub record IsWithout (w : World) (u : NodeId) (now : World) : Type 0 where
  pub nodes : now.nodes ≡ without_node w.nodes u
  pub frames : now.directions ≡ w.directions

-- its nodes and frames, where memory was wanted before this event was done: its node may have reserved the indexes that it reserves before it acts
pub record IsUndone (x : Setting) (w : World) (event : Event) (now : World) : Type 0 where
  pub nodes : (now.nodes ≡ w.nodes) ⊎ (now.nodes ≡ (ready x w event).nodes)
  pub frames : now.directions ≡ w.directions

-- what is left of the nodes and frames at the end of a run: all of them, but for one node where something of the next event is forged
abbrev pub IsLeft : Setting → Option WorldRefused → World → World → Type 0
IsLeft x None last now = now ≡ last
IsLeft x (Some refusals.Memory) last now = (event : Event) × IsUndone x last event now
IsLeft x (Some (refusals.Forged number what)) last now = (u : NodeId) × IsWithout last u now

-- The events are a run in which nothing is forged, and the entries are its journal. The nodes and frames are those at the end of the run, also
-- where the world has stopped for want of memory, but that the node of the event that wasn't done may have reserved indexes. Where something of the next event
-- is forged, the node that acted in it is gone.
pub record IsPast (p : Past) : Type 0 where
  pub header : IsHeader p.scenario
  pub last : World
  pub clean : Clean (arts_of (setting_of p.scenario)) (setting_of p.scenario) p.events p.journal last
  pub left : IsLeft (setting_of p.scenario) p.stopped last p.world

-- ---- one event

-- It is done: its acting node makes its step, its crafting signer is spent, or a node starts or stops or the event comes to nobody; and nothing of it is
-- forged.
pub record GoesOn (old : Past) (event : Event) (new : Past) : Type 0 where
  pub was_going : old.stopped ≡ None
  pub entry : Entry
  pub scenario : new.scenario ≡ old.scenario
  pub events : new.events ≡ old.events ++ event ∷ []
  pub journal : new.journal ≡ old.journal ++ entry ∷ []
  pub going : new.stopped ≡ None
  pub turn : Turn (arts_of (setting_of old.scenario)) (setting_of old.scenario) old.world event entry new.world
  pub unforged :
      forged_in (arts_of (setting_of old.scenario)) (setting_of old.scenario) old.events old.journal old.world event entry new.world turn ≡ None

-- This of it is forged, and it has the number after those that were done. The node that acts is gone; the other nodes and all frames stay.
pub record IsForged (old : Past) (event : Event) (number : ℕ) (what : What) (new : Past) : Type 0 where
  pub counted : number ≡ length old.events + 1
  pub forged : IsForgedAt (arts_of (setting_of old.scenario)) (setting_of old.scenario) old.events old.journal old.world event what
  pub stopped : new.stopped ≡ Some (refusals.Forged number what)
  pub world : IsWithout old.world (acting event) new.world

-- why a world stops. For want of memory the event doesn't happen
abbrev pub Stops : Past → Event → WorldRefused → Past → Type 0
Stops old event (refusals.Forged number what) new = IsForged old event number what new
Stops old event refusals.Memory new = (new.stopped ≡ Some refusals.Memory) × IsUndone (setting_of old.scenario) old.world event new.world

-- It isn't done. The first time the world stops; later it answers the same again, and nothing changes.
pub record IsRefused (old : Past) (event : Event) (refused : WorldRefused) (new : Past) : Type 0 where
  pub scenario : new.scenario ≡ old.scenario
  pub events : new.events ≡ old.events
  pub journal : new.journal ≡ old.journal
  pub frames : new.world.directions ≡ old.world.directions
  pub first : old.stopped ≡ None → Stops old event refused new
  pub later : (before : WorldRefused) → old.stopped ≡ Some before → ((refused ≡ before) ⊎ (refused ≡ refusals.Memory)) × (new ≡ old)
