-- What the law on told starts needs of a run: the facts of single steps, of single states, and of a frame that is passed before the next is made.
use Rattle.std.specs.Prelude.{ℕ, ◌≡◌, ◌+◌, ◌<◌, ◌≤◌, Bool, true, false, List, Option, Some}
use Rattle.sp_base.specs.Cursor.{next_after}
use Rattle.sp_base.specs.declared.id.NodeId.{NodeId}
use Rattle.sp_runs.specs.Rounds.{is_pass}
use Rattle.sp_runs.specs.Runs.{is_poll}
use Rattle.sp_schedule_events.specs.declared.event.Event.{Event}
use Rattle.laws_progress.proofs.Facts.{AreNoPolls, Goes}
use Rattle.laws_progress.proofs.Service.{IsWithin, is_on}

-- what is seen of the nodes in a state of a run
pub record Sees (State : Type 0) : Type 0 where
  -- the boot that the first holds of the second
  pub held : State → NodeId → NodeId → ℕ
  -- whether a node knows the boot of a neighbour, and how many frames it made for it
  pub knows : State → NodeId → NodeId → Bool
  pub polled : State → NodeId → NodeId → ℕ
  -- which rows of a node hold what a node said of its start, and the one that went last to a neighbour
  pub rows : State → NodeId → List Bool
  pub last : State → NodeId → NodeId → Option ℕ

-- a frame of u for v that is made in this state carries what the row in this place holds
abbrev pub IsCarried : (State : Type 0) → Sees State → (place : ℕ) → State → (u v : NodeId) → Type 0
IsCarried State at place w u v = next_after (at.last w u v) (at.rows w u) ≡ Some place

-- what a frame of u, made in state w, left at v in state z, by which it came
pub record IsTold (State : Type 0) (at : Sees State) (place : NodeId → ℕ) (w z : State) (u v : NodeId) : Type 0 where
  pub learned : at.knows z v u ≡ true
  pub told : (o : NodeId) → at.knows w u v ≡ true → IsCarried State at (place o) w u v → at.held w u o ≤ at.held z v o

-- A run in which some nodes stay up, with hops between them. Each node has a row in its place among all rows.
pub record Spreading : Type 1 where
  pub State : Type 0
  pub Next : State → Event → State → Type 0
  pub Up : NodeId → Type 0
  pub Hop : NodeId → NodeId → Type 0
  pub at : Sees State
  pub place : NodeId → ℕ
  pub all : List Bool
  pub is_up : (u v : NodeId) → Hop u v → Up u
  -- ---- of one step
  pub held_rises : (w x : State) (e : Event) (u o : NodeId) → Up u → Next w e x → at.held w u o ≤ at.held x u o
  pub known : (w x : State) (e : Event) (u v : NodeId) → Hop u v → Next w e x → at.knows w u v ≡ true → at.knows x u v ≡ true
  pub one_polled : (w x : State) (e : Event) (u v : NodeId) → Hop u v → Next w e x → is_poll u v e ≡ true → at.polled x u v ≡ at.polled w u v + 1
  pub none_polled : (w x : State) (e : Event) (u v : NodeId) → Hop u v → Next w e x → is_poll u v e ≡ false → at.polled x u v ≡ at.polled w u v
  pub carries : (w x : State) (e : Event) (u v : NodeId) (p : ℕ) → Hop u v → Next w e x → is_poll u v e ≡ true → at.knows w u v ≡ true
      → IsCarried State at p w u v → at.last x u v ≡ Some p
  pub carries_none : (w x : State) (e : Event) (u v : NodeId) → Hop u v → Next w e x → is_poll u v e ≡ false → at.last x u v ≡ at.last w u v
  -- ---- of one state
  pub row_there : (w : State) (u o : NodeId) → Up u → 0 < at.held w u o → is_on (at.rows w u) (place o) ≡ true
  pub within : (w : State) (u : NodeId) → Up u → IsWithin (at.rows w u) all
  -- ---- of a frame that is passed before the next is made
  pub told : (w x y z : State) (e p : Event) (es : List Event) (u v : NodeId) → Hop u v → Next w e x → is_poll u v e ≡ true
      → Goes State Next x es y → AreNoPolls u v es → Next y p z → is_pass u v (at.polled x u v) p ≡ true → IsTold State at place w z u v
