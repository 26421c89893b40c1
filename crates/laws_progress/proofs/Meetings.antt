-- What it is that a node takes a frame of a neighbour: it handles what the neighbour had in turn, or passes it over.
use Rattle.std.proofs.Common.{◌≡◌, ◌≤◌, ◌<◌, ◌⊎◌, ℕ, Bool, true, false, cond, List}
use Rattle.std.proofs.Common.{refl, ap, inl, inr, arith, ◌==◌, ltb-false}
use Rattle.std.specs.Prelude.{nat_lt}
use Rattle.std.proofs.lemmas.Bool.{cases_eq, ltb-true, cases_Bool}
use Rattle.sp_base.specs.declared.id.Flow.{Flow}
use Rattle.sp_base.specs.declared.id.NodeId.{NodeId}
use Rattle.sp_rules.specs.Arts.{Arts}
use Rattle.sp_rules.specs.Arrivals.{arrival_at, heeded, link_after, parts_met}
use Rattle.sp_rules.specs.Handle.{handle_all}
use Rattle.sp_rules.specs.Link.{is_above, pair_of}
use Rattle.sp_rules.specs.Node.{NodeState, link_in, is_shut_to}
use Rattle.sp_rules.specs.Pieces.{pieces_of}
use Rattle.sp_rules.specs.Polls.{contents_to, is_served}
use Rattle.sp_rules.specs.Steps.{Input, Poll, Datagram, Tick, SendRel, SendPrio, SetWeight, TakeRel, TakePrio, SendKrel, TakeKrel, Publish}
use Rattle.laws_runs.proofs.Tables.{same_node}
use Rattle.sp_runs.specs.Settings.{Setting}
use Rattle.sp_schedule_events.specs.declared.event.Event.{Event}
use Rattle.laws_progress.proofs.States.{Era, Watched, heard_of, view_at}
use Rattle.laws_progress.proofs.Arrives.{Arrived}
use Rattle.laws_progress.proofs.Deaf.{NoHear}

-- ---- what a node hears

-- an input is a datagram of u, or none
pub hears_or : (u : NodeId) (i : Input) → NoHear u i ⊎ ((bytes : List ℕ) × (i ≡ Datagram u bytes))
hears_or u (Datagram from bytes) = elim (cases_eq from.0 u.0) [
  | inl z ↦ inr (bytes, ap (λ f. Datagram f bytes) (same_node from u z))
  | inr z ↦ inl (λ e. z (ap (λ (n : NodeId). n.0) e))
]
hears_or u (Poll v) = inl tt
hears_or u (Tick now) = inl tt
hears_or u (SendRel dst payload) = inl tt
hears_or u (SendPrio m) = inl tt
hears_or u (SetWeight v weight) = inl tt
hears_or u (TakeRel src) = inl tt
hears_or u TakePrio = inl tt
hears_or u (SendKrel m) = inl tt
hears_or u (TakeKrel src) = inl tt
hears_or u (Publish document) = inl tt

-- what is seen of u at v is the same
pub record SameHere (x : Setting) (era : Era) (flow : Flow) (u v : NodeId) (n m : NodeState) : Type 0 where
  pub seen : heard_of era v u m ≡ heard_of era v u n
  pub view : view_at x era flow v u m ≡ view_at x era flow v u n

pub either_zero : (t : Bool) → (let z : ℕ = cond t 0 0 in z) ≡ 0
either_zero true = refl
either_zero false = refl

pub lt_on : (a b : ℕ) → a < b → nat_lt a b ≡ true
lt_on a b lt = elim (cases_Bool (nat_lt a b)) [ inl t ↦ t | inr t ↦ absurd (let ge = ltb-false a b t in omega (arith, ge, lt)) ]

pub lt_off : (a b : ℕ) → b ≤ a → nat_lt a b ≡ false
lt_off a b le = elim (cases_Bool (nat_lt a b)) [ inl t ↦ absurd (let lt = ltb-true a b t in omega (arith, le, lt)) | inr t ↦ t ]

-- v took a frame that u made in its life
pub record TakenAt (arts : Arts) (x : Setting) (all : List Event) (era : Era) (w : Watched arts x all era) (u v : NodeId) (n m : NodeState) (k : ℕ) : Type 0
  where
    pub bytes : List ℕ
    pub arrived : Arrived arts x w.at.events w.at.world u v n bytes k
    pub life : (arts.head bytes).boot ≡ era.life u
    pub echo : ((arts.head bytes).echo == n.fixed.boot) ≡ true
    pub above : is_above (pair_of (arts.head bytes)) (link_in n u).seen ≡ true
    pub boot : (link_in m u).peer_boot ≡ (arts.head bytes).boot
    pub seen : (link_in m u).seen ≡ pair_of (arts.head bytes)
    pub rise : (link_in n u).peer_boot ≤ (link_after arts n u bytes).peer_boot
    pub top : (link_after arts n u bytes).peer_boot ≤ era.life u
    pub link : link_in m u ≡ link_after arts n u bytes

-- and handled what u had in turn
pub record HandledAt (arts : Arts) (u v : NodeId) (n m maker : NodeState) (bytes : List ℕ) : Type 0 where
  pub served : is_served maker v ≡ true
  pub parts : m.parts
      ≡ (handle_all arts (arrival_at n u) (parts_met arts n u bytes) (pieces_of (heeded n.fixed (contents_to maker.fixed maker.parts v)))).parts

-- or handled none of it: it is none that has what u had in turn, it is of another version, or its edge is withdrawn
pub record PassedOver (arts : Arts) (x : Setting) (era : Era) (flow : Flow) (u v : NodeId) (n m maker : NodeState) (bytes : List ℕ) : Type 0 where
  pub view : view_at x era flow v u m ≡ view_at x era flow v u n
  pub why : is_served maker v ≡ true → (arts.head bytes).topology ≡ n.live.version → is_shut_to n u ≡ false → ⊥

-- one of both
pub record Met (arts : Arts) (x : Setting) (all : List Event) (era : Era) (flow : Flow) (w : Watched arts x all era) (u v : NodeId) (n m : NodeState)
    (k : ℕ) : Type 0 where
  pub it : TakenAt arts x all era w u v n m k
  pub left : HandledAt arts u v n m it.arrived.from.node it.bytes ⊎ PassedOver arts x era flow u v n m it.arrived.from.node it.bytes
