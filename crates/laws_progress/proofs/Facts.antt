-- What the law on progress needs of a run: the facts of single steps, of single states, and of a frame that is passed.
use Rattle.std.specs.Prelude.{ℕ, suc, slice_get, get_or, ◌≡◌, ◌+◌, ◌<◌, ◌≤◌, Bool, true, false, List, [], ◌∷◌, Option, Some, min, max}
use Rattle.sp_base.specs.declared.id.NodeId.{NodeId}
use Rattle.sp_schedule_events.specs.declared.event.Event.{Event}
use Rattle.sp_runs.specs.Runs.{is_poll}
use Rattle.sp_base.specs.Cursor.{next_after}
use Rattle.laws_progress.proofs.Places.{nobody}
use Rattle.laws_progress.proofs.Service.{is_on, number_on, IsWithin}
use Rattle.sp_runs.specs.Rounds.{is_pass, is_take}
use Rattle.sp_rules.specs.declared.kflow.FlowKind.{FlowKind}

-- the events lead from the first state to the second
pub data Goes (W : Type 0) (Next : W → Event → W → Type 0) : W → List Event → W → Type 0 where
  Stays : {w : W} → Goes W Next w [] w
  Steps : {w x y : W} {e : Event} {es : List Event} → Next w e x → Goes W Next x es y → Goes W Next w (e ∷ es) y

-- no event is a poll of v by u
abbrev pub AreNoPolls : NodeId → NodeId → List Event → Type 0
AreNoPolls u v [] = Unit {0}
AreNoPolls u v (e ∷ es) = (is_poll u v e ≡ false) × AreNoPolls u v es

-- what is seen of one flow in a state of a run
pub record Sight (W : Type 0) : Type 0 where
  -- its kind, and a window of its numbers: the messages above low, up to high, go over all hops
  pub kind : FlowKind
  pub low : ℕ
  pub high : ℕ
  -- its numbers at a node, and how many of its messages a client of d took
  pub base : W → NodeId → ℕ
  pub have : W → NodeId → ℕ
  pub taken : W → ℕ
  -- what a node was told by a neighbour
  pub view_base : W → NodeId → NodeId → ℕ
  pub view_have : W → NodeId → NodeId → ℕ
  -- whether a node knows the boot of a neighbour, and how many frames it made for it
  pub knows : W → NodeId → NodeId → Bool
  pub polled : W → NodeId → NodeId → ℕ
  -- which flows are active at a node, and the one that it served last to a neighbour
  pub actives : W → NodeId → List Bool
  pub last : W → NodeId → NodeId → Option ℕ

-- it is the turn of the flow in the next frame of u for v
abbrev pub IsTurn : (W : Type 0) → Sight W → ℕ → W → NodeId → NodeId → Type 0
IsTurn W at place w u v = next_after (at.last w u v) (at.actives w u) ≡ Some place

-- what a frame of u, made in state w, left at v in state z, to which it came at once
pub record IsHeard (W : Type 0) (at : Sight W) (place bound : ℕ) (d : NodeId) (w z : W) (u v : NodeId) : Type 0 where
  pub learned : at.knows z v u ≡ true
  pub base : at.knows w u v ≡ true → IsTurn W at place w u v → at.base w u ≤ at.base z v
  pub view_base : at.knows w u v ≡ true → IsTurn W at place w u v → is_on (at.actives w v) place ≡ true → at.base w u ≤ at.view_base z v u
  pub view_have : at.knows w u v ≡ true → IsTurn W at place w u v → is_on (at.actives w v) place ≡ true → at.have w u ≤ at.view_have z v u
  pub have : at.knows w u v ≡ true → IsTurn W at place w u v → (u ≡ d → ⊥) → (v ≡ d → ⊥) → at.low ≤ at.base w u
      → min (min at.high (at.have w u)) (max (at.view_have w u v) (at.base w u) + 1) ≤ at.have z v
  pub have_at_end : at.knows w u v ≡ true → IsTurn W at place w u v → (u ≡ d → ⊥) → v ≡ d → at.low ≤ at.base w u
      → min (min (min at.high (at.have w u)) (max (at.view_have w u v) (at.base w u) + 1)) (at.taken w + bound) ≤ at.have z v

-- The facts on which progress rests, for hops between correct nodes.
pub record Facts (W : Type 0) (Next : W → Event → W → Type 0) (Hop : NodeId → NodeId → Type 0) (at : Sight W) (place bound least : ℕ) (s d : NodeId) : Type 0
  where
    -- ---- of one step
    pub base_rises : (w x : W) (e : Event) (u : NodeId) → Next w e x → at.base w u ≤ at.base x u
    pub have_rises : (w x : W) (e : Event) (u : NodeId) → Next w e x → at.have w u ≤ at.have x u
    pub taken_rises : (w x : W) (e : Event) → Next w e x → at.taken w ≤ at.taken x
    pub view_base_rises : (w x : W) (e : Event) (u v : NodeId) → Hop u v → Next w e x → at.view_base w u v ≤ at.view_base x u v
    pub view_have_rises : (w x : W) (e : Event) (u v : NodeId) → Hop u v → Next w e x → at.view_have w u v ≤ at.view_have x u v
    pub known : (w x : W) (e : Event) (u v : NodeId) → Hop u v → Next w e x → at.knows w u v ≡ true → at.knows x u v ≡ true
    pub stays_active : (w x : W) (e : Event) (u : NodeId) → Next w e x → is_on (at.actives w u) place ≡ true → is_on (at.actives x u) place ≡ true
    pub one_polled : (w x : W) (e : Event) (u v : NodeId) → Hop u v → Next w e x → is_poll u v e ≡ true → at.polled x u v ≡ at.polled w u v + 1
    pub none_polled : (w x : W) (e : Event) (u v : NodeId) → Hop u v → Next w e x → is_poll u v e ≡ false → at.polled x u v ≡ at.polled w u v
    pub serves : (w x : W) (e : Event) (u v : NodeId) (p : ℕ) → Hop u v → Next w e x → is_poll u v e ≡ true → at.knows w u v ≡ true
        → next_after (at.last w u v) (at.actives w u) ≡ Some p → at.last x u v ≡ Some p
    pub serves_none : (w x : W) (e : Event) (u v : NodeId) → Hop u v → Next w e x → is_poll u v e ≡ false → at.last x u v ≡ at.last w u v
    -- a client's take makes room at d
    pub makes_room : (w x : W) (e : Event) → Next w e x → is_take at.kind d s e ≡ true → at.have w d < at.taken x + bound
    -- ---- of one state
    pub sound : (w : W) (u : NodeId) → at.base w u ≤ at.have w u
    pub is_active : (w : W) (u : NodeId) → 0 < at.have w u → is_on (at.actives w u) place ≡ true
    -- all flows that are ever active at a node are among so few
    pub among : List Bool
    pub within : (w : W) (u : NodeId) → IsWithin (at.actives w u) among
    pub few : number_on among ≤ least
    -- ---- of a frame that is passed before the next is made
    pub heard : (w x y z : W) (e p : Event) (es : List Event) (u v : NodeId) → Hop u v → Next w e x → is_poll u v e ≡ true
        → Goes W Next x es y → AreNoPolls u v es → Next y p z → is_pass u v (at.polled x u v) p ≡ true → IsHeard W at place bound d w z u v

-- each two neighbours in the path are a hop both ways
abbrev pub AreHops : (NodeId → NodeId → Type 0) → List NodeId → Type 0
AreHops Hop path = (i : ℕ) (u v : NodeId) → slice_get path i ≡ Some u → slice_get path (suc i) ≡ Some v → Hop u v × Hop v u

-- d stands at the end alone
abbrev pub AreInner : NodeId → List NodeId → ℕ → Type 0
AreInner d path h = (i : ℕ) → i < h → get_or path i nobody ≡ d → ⊥
