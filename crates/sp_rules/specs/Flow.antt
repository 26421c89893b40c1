-- One reliable flow at one node: where it stands there, and what each event makes of it. Each rule speaks of one flow alone.
--
--     1 .. base            base + 1 .. have     have + 1 ..
--     all acknowledged     kept in the list     still to come
use Rattle.std.specs.Prelude.{ℕ, ◌≡◌, ◌+◌, ◌-◌, ◌==◌, ◌&&◌, ◌≤◌, Bool, true, false, List, [], ◌∷◌, ◌++◌, length, drop, Option, Some, None}
use Rattle.sp_base.specs.Position.{Position, IsPosition, start, kept, delivered, acknowledged}
use Rattle.sp_base.specs.declared.id.Flow.{Flow}
use Rattle.sp_base.specs.declared.id.NodeId.{NodeId}
use Rattle.sp_base.specs.declared.limits.TheConstants.{MAX_SEQ}
use Rattle.sp_msg.specs.declared.body.Body.{Body}
use Rattle.sp_msg.specs.declared.body.Body.TheVariants as bodies
use Rattle.sp_msg.specs.declared.kept.Kept.{Kept}

-- A flow is active from the first message or acknowledgement on that the node took, until another life of one of its ends begins, or one is removed. The kept
-- acknowledgement is the last one that raised base. At the destination the position has no list, and the inbox holds what was delivered and not yet taken by a
-- client.
pub record FlowState : Type 0 where
  pub src : NodeId
  pub dst : NodeId
  pub active : Bool
  pub at : Position Kept
  pub ack : Option Kept
  pub inbox : List (List ℕ)

-- the flow before its first message
abbrev pub no_flow : Flow → FlowState
no_flow flow = record { src = flow.src; dst = flow.dst; active = false; at = start; ack = None; inbox = [] }

-- its two ends
abbrev pub ends : FlowState → Flow
ends f = record { src = f.src; dst = f.dst }

-- the row is that of this flow
abbrev pub is_flow : Flow → FlowState → Bool
is_flow flow f = (f.src.0 == flow.src.0) && (f.dst.0 == flow.dst.0)

-- so many messages wait for their acknowledgement as may
abbrev pub is_full : ℕ → FlowState → Bool
is_full bound f = f.at.have - f.at.base == bound

-- ---- messages of a flow

-- the flow of a message or an acknowledgement, or of their like of K-path flows. No other message has one
abbrev pub flow_said : Body → Flow
flow_said (bodies.Rel r) = record { src = r.src; dst = r.dst }
flow_said (bodies.Ack a) = record { src = a.src; dst = a.dst }
flow_said (bodies.Krel k) = record { src = k.src; dst = k.dst }
flow_said (bodies.Kack a) = record { src = a.src; dst = a.dst }
flow_said _ = record { src = record { 0 = 0 }; dst = record { 0 = 0 } }

-- its number
abbrev pub number_said : Body → ℕ
number_said (bodies.Rel r) = r.seq
number_said (bodies.Ack a) = a.seq
number_said (bodies.Krel k) = k.seq
number_said (bodies.Kack a) = a.seq
number_said _ = 0

-- the boots of its two ends that it names
abbrev pub boots_said : Body → ℕ × ℕ
boots_said (bodies.Rel r) = (r.sboot, r.dboot)
boots_said (bodies.Ack a) = (a.sboot, a.dboot)
boots_said (bodies.Krel k) = (k.sboot, k.dboot)
boots_said (bodies.Kack a) = (a.sboot, a.dboot)
boots_said _ = (0, 0)

-- it is a message of a flow, plain or on K paths
abbrev pub IsReliable : Body → Type 0
IsReliable (bodies.Rel r) = Unit {0}
IsReliable (bodies.Krel k) = Unit {0}
IsReliable _ = ⊥

-- ---- what events make of a flow

-- message have + 1 goes to the end of the list: a client sent it here, or a neighbour did and this isn't the destination
abbrev pub pushed : FlowState → Kept → FlowState
pushed f message = record f { active = true; at = kept f.at message }

-- message have + 1 goes to the end of the inbox, which is its delivery
abbrev pub received : FlowState → List ℕ → FlowState
received f payload = record f { active = true; at = delivered f.at; inbox = f.inbox ++ payload ∷ [] }

-- an acknowledgement came: base becomes its number, have becomes at least that, and the list drops what is acknowledged
abbrev pub acknowledged_by : FlowState → Kept → FlowState
acknowledged_by f ack = record f { active = true; at = acknowledged f.at (number_said ack.body); ack = Some ack }

-- the destination signed its own acknowledgement: base becomes have
abbrev pub concluded : FlowState → Kept → FlowState
concluded f ack = record f { at = acknowledged f.at f.at.have; ack = Some ack }

-- a client took the oldest of the inbox
abbrev pub after_take : FlowState → FlowState
after_take f = record f { inbox = drop 1 f.inbox }

-- an end of the flow is removed: all of it is let go but what waits for a client
abbrev pub ended : FlowState → FlowState
ended f = record f { active = false; at = start; ack = None }

-- ---- what always holds of a flow at a node

-- the message of this number in the flow
abbrev pub IsMessage : Flow → ℕ → Body → Type 0
IsMessage flow number (bodies.Rel r) = (r.src ≡ flow.src) × (r.dst ≡ flow.dst) × (r.seq ≡ number)
IsMessage flow number (bodies.Krel k) = (k.src ≡ flow.src) × (k.dst ≡ flow.dst) × (k.seq ≡ number)
IsMessage flow number _ = ⊥

-- the messages that follow this number, in order
abbrev pub AreMessages : Flow → ℕ → List Kept → Type 0
AreMessages flow after [] = Unit {0}
AreMessages flow after (message ∷ others) = IsMessage flow (after + 1) message.body × AreMessages flow (after + 1) others

-- at this node, with this bound of its messages
pub record IsStanding (me : NodeId) (bound : ℕ) (f : FlowState) : Type 0 where
  pub sound : f.at.base ≤ f.at.have
  pub bounded : f.at.have ≤ f.at.base + bound
  pub numbers : f.at.have ≤ MAX_SEQ
  -- each number from base + 1 to have has its message, but at the destination
  pub position : (f.dst.0 == me.0) ≡ false → IsPosition f.at
  pub messages : AreMessages (ends f) f.at.base f.at.list
  pub no_list : (f.dst.0 == me.0) ≡ true → f.at.list ≡ []
  pub inbox : length f.inbox ≤ bound
  -- nothing came yet, or it ended, and then something may wait for a client
  pub idle : f.active ≡ false → f ≡ record (no_flow (ends f)) { inbox = f.inbox }
