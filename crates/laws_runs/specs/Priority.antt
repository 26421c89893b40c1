-- Priority messages over a run without epochs: each is told at most once, and those of a correct source were sent.
use Rattle.std.specs.Prelude.{ℕ, ◌≢◌, IsTrue, List, map}
use Rattle.std.specs.List.{All, AllPairs, Contains}
use Rattle.sp_base.specs.declared.id.NodeId.{NodeId}
use Rattle.sp_rules.specs.Arts.{Arts}
use Rattle.sp_runs.specs.Runs.{Clean}
use Rattle.sp_runs.specs.Settings.{Setting, StaysUp, is_correct}
use Rattle.sp_runs.specs.Told.{prio_delivered, prio_sent}
use Rattle.sp_runs.specs.Worlds.{World}
use Rattle.sp_journal.specs.declared.entry.Entry.{Entry}
use Rattle.sp_schedule_events.specs.declared.event.Event.{Event}
use Rattle.laws_runs.specs.Premises.{Carries}

-- no number stands twice
abbrev pub AreOnce : List ℕ → Type 0
AreOnce numbers = AllPairs (λ p q. p ≢ q) numbers

-- at a correct d, of messages from any source s
pub record PrioClaims (x : Setting) (s d : NodeId) (es : List Event) (js : List Entry) : Type 0 where
  pub once : AreOnce (map (λ m. m.0) (prio_delivered es js s d))
  pub authentic : IsTrue (is_correct x s) → All (Contains (prio_sent es js s d)) (prio_delivered es js s d)

-- of each run without forgery
abbrev pub PriorityIsKept : Type 0
PriorityIsKept = (arts : Arts) (x : Setting) (es : List Event) (js : List Entry) (w : World) → StaysUp arts x → Carries x.topology.format arts
    → Clean arts x es js w
    → (s d : NodeId) → IsTrue (is_correct x d) → PrioClaims x s d es js
