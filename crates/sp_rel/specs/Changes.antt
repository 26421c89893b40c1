-- What may happen to a flow at a node, and what it makes of the flow.
use Rattle.std.specs.Prelude.{ℕ}
use Rattle.sp_base.specs.declared.id.NodeId.{NodeId}
use Rattle.sp_rules.specs.Changes.{CanAcknowledge, CanConclude, CanPush, CanReceive}
use Rattle.sp_rules.specs.Flow.{FlowState, acknowledged_by, concluded, pushed, received}
use Rattle.sp_rel.specs.declared.change.Change.{Change}
use Rattle.sp_rel.specs.declared.change.Change.TheVariants as changes

abbrev pub changed : Change → FlowState → FlowState
changed (changes.Push message) f = pushed f message
changed (changes.Receive payload) f = received f payload
changed (changes.Acknowledge ack) f = acknowledged_by f ack
changed (changes.Conclude ack) f = concluded f ack

-- when a change may happen to a flow
abbrev pub CanChange : NodeId → ℕ → FlowState → Change → Type 0
CanChange me bound f (changes.Push message) = CanPush me bound f message
CanChange me bound f (changes.Receive payload) = CanReceive me bound f
CanChange me bound f (changes.Acknowledge ack) = CanAcknowledge me f ack
CanChange me bound f (changes.Conclude ack) = CanConclude me f
