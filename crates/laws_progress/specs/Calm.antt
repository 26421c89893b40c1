-- What an interval of a run asks of the nodes of a path where nodes may start and stop: each runs all the time.
use Rattle.std.specs.Prelude.{ℕ, ◌≡◌, ◌==◌, Bool, false, true, List, Some}
use Rattle.std.specs.List.{All, list_any}
use Rattle.sp_base.specs.declared.id.NodeId.{NodeId}
use Rattle.sp_rules.specs.Lives.{held_boot}
use Rattle.sp_rules.specs.Node.{NodeState}
use Rattle.sp_runs.specs.Worlds.{World, node_in}
use Rattle.sp_schedule_events.specs.declared.event.Event.{Event}
use Rattle.sp_schedule_events.specs.declared.event.Event.TheVariants as events
use Rattle.laws_runs.specs.Past.{holds}

-- the event starts or stops this node
abbrev pub is_life_of : NodeId → Event → Bool
is_life_of u (events.Start v) = v.0 == u.0
is_life_of u (events.Stop v) = v.0 == u.0
is_life_of u _ = false

-- it runs at the beginning of the interval, and is in the same life at its end
pub record StaysUpIn (w : World) (during : List Event) (u : NodeId) : Type 0 where
  pub node : NodeState
  pub runs : node_in w.nodes u ≡ Some node
  pub stays : list_any (is_life_of u) during ≡ false

-- and it holds these boots of s and of d at the beginning
pub record IsCalmAt (w : World) (during : List Event) (s : NodeId) (a : ℕ) (d : NodeId) (b : ℕ) (u : NodeId) : Type 0 where
  pub up : StaysUpIn w during u
  pub held : holds up.node s a d b ≡ true

-- The interval after w is calm for the flow from s to d under these boots: each node of the path is in one life throughout, and holds both at the beginning.
-- Where s and d are on the path, these are the boots of their lives.
abbrev pub IsCalm : World → (during : List Event) → NodeId → ℕ → NodeId → ℕ → (path : List NodeId) → Type 0
IsCalm w during s a d b path = All (IsCalmAt w during s a d b) path

-- each two of these nodes that run hold the boot of each other's life
abbrev pub KnowEachOther : World → List NodeId → Type 0
KnowEachOther w path =
    All (λ u. All (λ v. (n m : NodeState) → node_in w.nodes u ≡ Some n → node_in w.nodes v ≡ Some m → held_boot n.parts.lives v ≡ m.fixed.boot) path) path
