-- What an auditor asks of events and their journal, whoever made them: by the definitions alone, without a world. Each run without forgery has it.
use Rattle.std.specs.Prelude.{ℕ, ◌≤◌, IsTrue, List, [], length, map, take}
use Rattle.sp_base.specs.Lists.{IsPrefix}
use Rattle.sp_base.specs.declared.id.NodeId.{NodeId}
use Rattle.sp_journal.specs.declared.entry.Entry.{Entry}
use Rattle.sp_rules.specs.Arts.{Arts}
use Rattle.sp_rules.specs.declared.kflow.FlowKind.{FlowKind}
use Rattle.sp_runs.specs.Held.{AreShares, held}
use Rattle.sp_runs.specs.Runs.{Clean}
use Rattle.sp_runs.specs.Settings.{Setting, StaysUp, is_correct}
use Rattle.sp_runs.specs.Told.{delivered, effects_at, prio_delivered, sent}
use Rattle.sp_runs.specs.Worlds.{World}
use Rattle.sp_schedule_events.specs.declared.event.Event.{Event}
use Rattle.laws_runs.specs.Places.{SharePart}
use Rattle.laws_runs.specs.Premises.{Carries}
use Rattle.laws_runs.specs.Priority.{AreOnce}

-- these events and their entries break no promise
pub record IsGood (x : Setting) (es : List Event) (js : List Entry) : Type 0 where
  -- what flows of either kind delivered between correct nodes is a prefix of what was sent
  pub prefix : (kind : FlowKind) (s d : NodeId) → IsTrue (is_correct x s) → IsTrue (is_correct x d)
      → IsPrefix (delivered kind es js s d) (sent kind es js s d)
  -- of no source a priority message is delivered twice
  pub once : (s d : NodeId) → IsTrue (is_correct x d) → AreOnce (map (λ m. m.0) (prio_delivered es js s d))
  -- no place holds more entries than its capacity
  pub bounded : (u : NodeId) (place : ℕ) → length (held es js u place) ≤ x.store
  -- each eviction leaves its share
  pub shares : (u : NodeId) (place : ℕ) → AreShares x.store place [] (effects_at es js u)

-- none of the events breaks a promise: of each so many of them none is broken
abbrev pub AreGood : Setting → List Event → List Entry → Type 0
AreGood x es js = (n : ℕ) → IsGood x (take n es) (take n js)

-- ---- the laws

-- of each run without forgery
abbrev pub RunsAreGood : Type 0
RunsAreGood = (arts : Arts) (x : Setting) (es : List Event) (js : List Entry) (w : World) → StaysUp arts x → Carries x.topology.format arts
    → Clean arts x es js w
    → AreGood x es js

-- and so what its effects say that a place holds is what the node has there
abbrev pub PlacesAreTold : Type 0
PlacesAreTold = (arts : Arts) (x : Setting) (es : List Event) (js : List Entry) (w : World) → StaysUp arts x → Carries x.topology.format arts
    → Clean arts x es js w
    → SharePart x es js w
