-- The first event after which something isn't kept, and what is kept at each pair of numbers.
use Rattle.std.specs.Prelude.{ℕ, ◌<◌, ◌≤◌, ◌+◌, IsTrue, List, [], length, take}
use Rattle.std.specs.List.{flat_map}
use Rattle.laws_runs.specs.Priority.{AreOnce}
use Rattle.sp_base.specs.Lists.{IsPrefix}
use Rattle.sp_base.specs.declared.id.NodeId.{NodeId}
use Rattle.sp_journal.specs.declared.entry.Entry.{Entry}
use Rattle.sp_msg.specs.declared.effect.Effect.{Effect}
use Rattle.sp_rules.specs.declared.kflow.FlowKind.{FlowKind}
use Rattle.sp_runs.specs.Held.{AreShares, held_in}
use Rattle.sp_runs.specs.Settings.{Setting, is_correct}
use Rattle.sp_runs.specs.Told.{delivered_by, effects_at, sent}
use Rattle.sp_schedule_events.specs.declared.event.Event.{Event}
use Rattle.sp_audit.specs.Lists.{numbers}

-- the fact holds below this number and not at it; where it holds of all up to the last, the number is one more
pub record IsFirst (P : ℕ → Type 0) (last n : ℕ) : Type 0 where
  pub within : n ≤ last + 1
  pub before : (m : ℕ) → m < n → P m
  pub fails : n ≤ last → P n → ⊥

-- the effects of u at the first so many events
abbrev pub effects_to : List Event → List Entry → NodeId → ℕ → List Effect
effects_to es js u m = effects_at (take m es) (take m js) u

-- after so many events what came from s to u in flows of a kind is a prefix of what was sent in them
abbrev pub KeepsOrder : FlowKind → List Event → List Entry → (s u : NodeId) → ℕ → Type 0
KeepsOrder kind es js s u m = IsPrefix (flat_map (delivered_by kind s) (effects_to es js u m)) (sent kind (take m es) (take m js) s u)

-- so it is in flows of either kind
abbrev pub KeepsOrders : List Event → List Entry → (s u : NodeId) → ℕ → Type 0
KeepsOrders es js s u m = (kind : FlowKind) → KeepsOrder kind es js s u m

-- no priority message from s came twice to u
abbrev pub ComesOnce : List Event → List Entry → (s u : NodeId) → ℕ → Type 0
ComesOnce es js s u m = AreOnce (numbers s (effects_to es js u m))

-- place p of u holds no more than its capacity, and each eviction from it left its share
abbrev pub KeepsPlace : (capacity : ℕ) → List Event → List Entry → NodeId → (p : ℕ) → ℕ → Type 0
KeepsPlace capacity es js u p m = (length (held_in p (effects_to es js u m)) ≤ capacity) × AreShares capacity p [] (effects_to es js u m)

-- the node of a number
abbrev pub id : ℕ → NodeId
id n = record { 0 = n }

-- what is kept from the first node to the second, and at the place of the second number of the first node
pub record KeepsAt (x : Setting) (es : List Event) (js : List Entry) (a b m : ℕ) : Type 0 where
  pub order : IsTrue (is_correct x (id a)) → IsTrue (is_correct x (id b)) → KeepsOrders es js (id a) (id b) m
  pub once : IsTrue (is_correct x (id b)) → ComesOnce es js (id a) (id b) m
  pub place : KeepsPlace x.store es js (id a) b m
