-- What always holds of a flow at a node, after each change of its row.
use Rattle.std.specs.Prelude.{ℕ}
use Rattle.sp_base.specs.declared.id.NodeId.{NodeId}
use Rattle.sp_rel.specs.Changes.{CanChange, changed}
use Rattle.sp_rel.specs.declared.change.Change.{Change}
use Rattle.sp_rel.specs.declared.change.Change.TheVariants as changes
use Rattle.sp_rules.proofs.Standing.{standing_acknowledged, standing_concluded, standing_pushed, standing_received}
use Rattle.sp_rules.specs.Flow.{FlowState, IsStanding}

pub standing_changed : (me : NodeId) (bound : ℕ) (f : FlowState) (change : Change) → IsStanding me bound f → CanChange me bound f change
    → IsStanding me bound (changed change f)
standing_changed me bound f (changes.Push message) s can = standing_pushed me bound f message s can.relay can.room can.small can.next
standing_changed me bound f (changes.Receive payload) s can = standing_received me bound f payload s can.end can.room can.waiting can.small
standing_changed me bound f (changes.Acknowledge ack) s can = standing_acknowledged me bound f ack s can.relay can.small
standing_changed me bound f (changes.Conclude ack) s can = standing_concluded me bound f ack s can.end can.active
