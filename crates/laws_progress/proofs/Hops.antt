-- What a run has to keep so that progress follows: facts of one step each, with the frames between two nodes as what they say of the flow.
use Rattle.std.specs.Prelude.{ℕ, ◌≡◌, ◌⊎◌, ◌+◌, ◌<◌, ◌≤◌, Bool, true, false, List, Some, min, max}
use Rattle.sp_base.specs.declared.id.NodeId.{NodeId}
use Rattle.sp_schedule_events.specs.declared.event.Event.{Event}
use Rattle.sp_runs.specs.Runs.{is_poll}
use Rattle.sp_base.specs.Cursor.{next_after}
use Rattle.laws_progress.proofs.Service.{is_on, number_on, IsWithin}
use Rattle.sp_runs.specs.Rounds.{is_pass, is_take}
use Rattle.laws_progress.proofs.Facts.{Goes, Sight, IsTurn}

-- what a frame says of the flow: whether it is there, whether it may bring the flow's slot, whether it echoes the right boot, the numbers of its report,
-- whether
-- it has an acknowledgement, and the number of its first message or 0
pub record Told : Type 0 where
  pub here : Bool
  pub mine : Bool
  pub echo : Bool
  pub base : ℕ
  pub have : ℕ
  pub ack : Bool
  pub next : ℕ

-- the frames of a direction by their numbers from 1, and the number of the last of u's that v took as fresh
pub record Wires (W : Type 0) : Type 0 where
  pub told : W → NodeId → NodeId → ℕ → Told
  pub seen : W → NodeId → NodeId → ℕ

-- the frame that u makes for v in this state, where it has the slot of the flow
pub record IsMade (W : Type 0) (at : Sight W) (w : W) (u v : NodeId) (f : Told) : Type 0 where
  pub base : f.mine ≡ true → f.base ≡ at.base w u
  pub have : f.mine ≡ true → f.have ≡ at.have w u
  -- without its acknowledgement where v has reported it
  pub no_ack : f.mine ≡ true → f.ack ≡ false → at.base w u ≤ at.view_base w u v
  pub next_there : f.mine ≡ true → f.next ≤ at.have w u
  pub next_near : f.mine ≡ true → f.next ≤ max (at.view_have w u v) (at.base w u) + 1

-- it has it at the flow's turn, where v's boot is known, and has the next message where that is in the window
pub record IsServed (W : Type 0) (at : Sight W) (place : ℕ) (d : NodeId) (w : W) (u v : NodeId) (f : Told) : Type 0 where
  pub here : f.here ≡ true
  pub mine : at.knows w u v ≡ true → IsTurn W at place w u v → f.mine ≡ true
  pub echo : at.knows w u v ≡ true → f.echo ≡ true
  pub next_is : f.mine ≡ true → (u ≡ d → ⊥) → at.low ≤ at.base w u
      → (min at.high (at.have w u) ≤ max (at.view_have w u v) (at.base w u)) ⊎ (f.next ≡ max (at.view_have w u v) (at.base w u) + 1)

-- what holds of a frame when it comes to v
pub record IsFit (W : Type 0) (at : Sight W) (bound : ℕ) (s d : NodeId) (w : W) (v : NodeId) (f : Told) : Type 0 where
  pub base : f.base ≤ at.base w d
  pub have : f.have ≤ at.have w s
  pub window : f.have ≤ f.base + bound
  pub no_ack : f.ack ≡ false → f.base ≤ at.base w v
  pub next_there : f.next ≤ f.have
  pub next_near : f.next ≤ max (at.have w v) f.base + 1

-- what v has when it heard the frame
pub record IsHeeded (W : Type 0) (at : Sight W) (place bound : ℕ) (d : NodeId) (w x : W) (u v : NodeId) (f : Told) : Type 0 where
  pub base : f.base ≤ at.base x v
  pub have : (v ≡ d → ⊥) → f.next ≤ at.have x v
  pub have_at_end : v ≡ d → min f.next (at.taken w + bound) ≤ at.have x v
  pub view : is_on (at.actives w v) place ≡ true → (at.view_base x v u ≡ f.base) × (at.view_have x v u ≡ f.have)

-- the views of u at v stay
pub record SameView (W : Type 0) (at : Sight W) (w x : W) (u v : NodeId) : Type 0 where
  pub base : at.view_base x v u ≡ at.view_base w v u
  pub have : at.view_have x v u ≡ at.view_have w v u

-- v takes frame k of u as fresh
pub record IsHearing (W : Type 0) (at : Sight W) (on : Wires W) (w x : W) (u v : NodeId) (k : ℕ) : Type 0 where
  pub after : on.seen w v u < k
  pub made : k ≤ at.polled w u v
  pub seen : on.seen x v u ≡ k
  pub views : SameView W at w x u v
      ⊎ (((on.told w u v k).mine ≡ true) × (at.view_base x v u ≡ (on.told w u v k).base) × (at.view_have x v u ≡ (on.told w u v k).have))

-- v hears nothing of u
pub record IsDeaf (W : Type 0) (at : Sight W) (on : Wires W) (w x : W) (u v : NodeId) : Type 0 where
  pub seen : on.seen x v u ≡ on.seen w v u
  pub views : SameView W at w x u v

-- no frame was made, and none heard
pub record IsFresh (W : Type 0) (at : Sight W) (on : Wires W) (w : W) (u v : NodeId) : Type 0 where
  pub polled : at.polled w u v ≡ 0
  pub seen : on.seen w v u ≡ 0
  pub view_base : at.view_base w v u ≡ 0
  pub view_have : at.view_have w v u ≡ 0

-- ---- what holds in each state of the frames and views between two nodes

-- a frame, against where its ends stand
pub record IsBehind (W : Type 0) (at : Sight W) (bound : ℕ) (w : W) (u v : NodeId) (f : Told) : Type 0 where
  pub base : f.base ≤ at.base w u
  pub have : f.have ≤ at.have w u
  pub window : f.have ≤ f.base + bound
  pub no_ack : f.ack ≡ false → f.base ≤ at.base w v
  pub next_there : f.next ≤ f.have
  pub next_near : f.next ≤ max (at.have w v) f.base + 1

-- what holds of the direction from u to v
pub record HopHolds (W : Type 0) (at : Sight W) (on : Wires W) (bound : ℕ) (w : W) (u v : NodeId) : Type 0 where
  pub seen : on.seen w v u ≤ at.polled w u v
  pub frames : (k : ℕ) → 0 < k → k ≤ at.polled w u v → (on.told w u v k).mine ≡ true → IsBehind W at bound w u v (on.told w u v k)
  pub order : (j k : ℕ) → 0 < j → j ≤ k → k ≤ at.polled w u v → (on.told w u v j).mine ≡ true → (on.told w u v k).mine ≡ true
      → ((on.told w u v j).base ≤ (on.told w u v k).base) × ((on.told w u v j).have ≤ (on.told w u v k).have)
  pub view_base : at.view_base w v u ≤ at.base w u
  pub view_have : at.view_have w v u ≤ at.have w u
  -- a frame that is still to be heard reports no less than is known
  pub ahead : (k : ℕ) → on.seen w v u < k → k ≤ at.polled w u v → (on.told w u v k).mine ≡ true
      → (at.view_base w v u ≤ (on.told w u v k).base) × (at.view_have w v u ≤ (on.told w u v k).have)

-- ---- the facts from which that follows in every state: one step, and one state, of a run without forgery, whichever nodes start and stop
pub record Lasting (W : Type 0) (Next : W → Event → W → Type 0) (Hop : NodeId → NodeId → Type 0) (at : Sight W) (on : Wires W) (bound : ℕ) : Type 0 where
  pub both_ways : (u v : NodeId) → Hop u v → Hop v u
  -- ---- of one step
  pub base_rises : (w x : W) (e : Event) (u : NodeId) → Next w e x → at.base w u ≤ at.base x u
  pub have_rises : (w x : W) (e : Event) (u : NodeId) → Next w e x → at.have w u ≤ at.have x u
  pub one_polled : (w x : W) (e : Event) (u v : NodeId) → Hop u v → Next w e x → is_poll u v e ≡ true → at.polled x u v ≡ at.polled w u v + 1
  pub none_polled : (w x : W) (e : Event) (u v : NodeId) → Hop u v → Next w e x → is_poll u v e ≡ false → at.polled x u v ≡ at.polled w u v
  -- frames stay, and a poll makes one
  pub frames_stay : (w x : W) (e : Event) (u v : NodeId) (k : ℕ) → Hop u v → Next w e x → k ≤ at.polled w u v → on.told x u v k ≡ on.told w u v k
  pub makes : (w x : W) (e : Event) (u v : NodeId) → Hop u v → Next w e x → is_poll u v e ≡ true → IsMade W at w u v (on.told x u v (at.polled x u v))
  -- a node hears a neighbour by fresh frames alone
  pub hears : (w x : W) (e : Event) (u v : NodeId) → Hop u v → Next w e x → IsDeaf W at on w x u v ⊎ ((k : ℕ) × IsHearing W at on w x u v k)
  -- ---- of one state
  pub window : (w : W) (u : NodeId) → at.have w u ≤ at.base w u + bound
  -- ---- of the start
  pub begins : (w : W) → (first : W) × (es : List Event) × Goes W Next first es w × ((u v : NodeId) → Hop u v → IsFresh W at on first u v)

-- ---- the facts from which progress follows: one step, and one state, of an interval in which the nodes of the hops neither start nor stop
pub record Steady (W : Type 0) (Next : W → Event → W → Type 0) (Hop : NodeId → NodeId → Type 0) (at : Sight W) (on : Wires W) (place bound least : ℕ)
    (s d : NodeId) : Type 0 where
  pub both_ways : (u v : NodeId) → Hop u v → Hop v u
  -- what holds in every state
  pub holds : (w : W) (u v : NodeId) → Hop u v → HopHolds W at on bound w u v
  -- ---- of one step
  pub base_rises : (w x : W) (e : Event) (u : NodeId) → Next w e x → at.base w u ≤ at.base x u
  pub have_rises : (w x : W) (e : Event) (u : NodeId) → Next w e x → at.have w u ≤ at.have x u
  pub taken_rises : (w x : W) (e : Event) → Next w e x → at.taken w ≤ at.taken x
  pub known : (w x : W) (e : Event) (u v : NodeId) → Hop u v → Next w e x → at.knows w u v ≡ true → at.knows x u v ≡ true
  pub stays_active : (w x : W) (e : Event) (u : NodeId) → Next w e x → is_on (at.actives w u) place ≡ true → is_on (at.actives x u) place ≡ true
  pub one_polled : (w x : W) (e : Event) (u v : NodeId) → Hop u v → Next w e x → is_poll u v e ≡ true → at.polled x u v ≡ at.polled w u v + 1
  pub none_polled : (w x : W) (e : Event) (u v : NodeId) → Hop u v → Next w e x → is_poll u v e ≡ false → at.polled x u v ≡ at.polled w u v
  pub serves : (w x : W) (e : Event) (u v : NodeId) (p : ℕ) → Hop u v → Next w e x → is_poll u v e ≡ true → at.knows w u v ≡ true
      → next_after (at.last w u v) (at.actives w u) ≡ Some p → at.last x u v ≡ Some p
  pub serves_none : (w x : W) (e : Event) (u v : NodeId) → Hop u v → Next w e x → is_poll u v e ≡ false → at.last x u v ≡ at.last w u v
  pub makes_room : (w x : W) (e : Event) → Next w e x → is_take at.kind d s e ≡ true → at.have w d < at.taken x + bound
  -- frames stay, and a poll makes one
  pub frames_stay : (w x : W) (e : Event) (u v : NodeId) (k : ℕ) → Hop u v → Next w e x → k ≤ at.polled w u v → on.told x u v k ≡ on.told w u v k
  pub makes : (w x : W) (e : Event) (u v : NodeId) → Hop u v → Next w e x → is_poll u v e ≡ true → IsMade W at w u v (on.told x u v (at.polled x u v))
  pub made_now : (w x : W) (e : Event) (u v : NodeId) → Hop u v → Next w e x → is_poll u v e ≡ true
      → IsServed W at place d w u v (on.told x u v (at.polled x u v))
  -- a node hears a neighbour by fresh frames alone and heeds them, and a frame that is passed is fresh, or one as late was
  pub hears : (w x : W) (e : Event) (u v : NodeId) → Hop u v → Next w e x → IsDeaf W at on w x u v ⊎ ((k : ℕ) × IsHearing W at on w x u v k
      × ((on.told w u v k).here ≡ true → (on.told w u v k).mine ≡ true → IsFit W at bound s d w v (on.told w u v k)
      → IsHeeded W at place bound d w x u v (on.told w u v k)))
  pub learns : (w x : W) (e : Event) (u v : NodeId) (k : ℕ) → Hop u v → Next w e x → is_pass u v k e ≡ true → (on.told w u v k).here ≡ true
      → at.knows x v u ≡ true
  pub comes : (w x : W) (e : Event) (u v : NodeId) (k : ℕ) → Hop u v → Next w e x → is_pass u v k e ≡ true → 0 < k → (on.told w u v k).echo ≡ true
      → k ≤ on.seen x v u
  -- no base is above the destination's, and no have above the source's
  pub acknowledged : (w x : W) (e : Event) (u : NodeId) → Next w e x → at.base w u ≤ at.base w d
  pub sent : (w x : W) (e : Event) (u : NodeId) → Next w e x → at.have w u ≤ at.have w s
  -- ---- of one state
  pub sound : (w : W) (u : NodeId) → at.base w u ≤ at.have w u
  pub is_active : (w : W) (u : NodeId) → 0 < at.have w u → is_on (at.actives w u) place ≡ true
  -- all flows that are ever active at a node are among so few
  pub among : List Bool
  pub within : (w : W) (u : NodeId) → IsWithin (at.actives w u) among
  pub few : number_on among ≤ least
