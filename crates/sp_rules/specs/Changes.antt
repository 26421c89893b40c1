-- When a flow may change at a node: what each change asks of the flow as it stands.
use Rattle.std.specs.Prelude.{ℕ, ◌≡◌, ◌+◌, ◌==◌, ◌<◌, ◌≤◌, true, false, length}
use Rattle.sp_base.specs.declared.id.NodeId.{NodeId}
use Rattle.sp_base.specs.declared.limits.TheConstants.{MAX_SEQ}
use Rattle.sp_msg.specs.Bodies.{HasGoodFieldsIn}
use Rattle.sp_msg.specs.declared.body.Body.{Body}
use Rattle.sp_msg.specs.declared.kept.Kept.{Kept}
use Rattle.sp_rules.specs.Flow.{FlowState, IsMessage, ends, is_full, number_said}

-- some format has the message
abbrev pub FitsAFormat : Body → Type 0
FitsAFormat body = (format : ℕ) × HasGoodFieldsIn format body

-- the message is the next of the flow, there is room for it, and this isn't the destination
pub record CanPush (me : NodeId) (bound : ℕ) (f : FlowState) (message : Kept) : Type 0 where
  pub relay : (f.dst.0 == me.0) ≡ false
  pub room : is_full bound f ≡ false
  pub small : f.at.have < MAX_SEQ
  pub next : IsMessage (ends f) (f.at.have + 1) message.body

-- there is room for a message at the destination
pub record CanReceive (me : NodeId) (bound : ℕ) (f : FlowState) : Type 0 where
  pub end : (f.dst.0 == me.0) ≡ true
  pub room : is_full bound f ≡ false
  pub waiting : (length f.inbox == bound) ≡ false
  pub small : f.at.have < MAX_SEQ

-- this isn't the destination
pub record CanAcknowledge (me : NodeId) (f : FlowState) (ack : Kept) : Type 0 where
  pub relay : (f.dst.0 == me.0) ≡ false
  pub small : number_said ack.body ≤ MAX_SEQ

-- messages came to the destination
pub record CanConclude (me : NodeId) (f : FlowState) : Type 0 where
  pub end : (f.dst.0 == me.0) ≡ true
  pub active : f.active ≡ true
  pub sound : f.at.base ≤ f.at.have
