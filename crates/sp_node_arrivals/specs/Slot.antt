-- A slot of a frame: a message may be new once what comes before it is, so only where that is ready.
use Rattle.std.specs.Prelude.{ℕ, ◌+◌, List, ◌++◌, length, map, Option, None, Some, IfSome, is_some, option_map}
use Rattle.sp_frame.specs.Views.{as_list, as_object}
use Rattle.sp_frame.specs.declared.sections.Slot.{Slot}
use Rattle.sp_rules.specs.Rel.{RelState}
use Rattle.sp_rules.specs.declared.answers.Item.{Item}
use Rattle.sp_node_arrivals.specs.Ack.{IsAckReady, ack_checks, acked_by}
use Rattle.sp_node_arrivals.specs.Rel.{AreRelsReady, Ground, rels_checks}
use Rattle.sp_node_arrivals.specs.Signed.{of_some}
use Rattle.sp_node_arrivals.specs.declared.slot.SlotAnswers.{SlotAnswers}
use Rattle.sp_node_arrivals.specs.declared.slot.SlotReady.{SlotReady}

pub record IsSlotReady (g : Ground) (r : RelState) (slot : Slot) (ready : SlotReady) : Type 0 where
  pub acknowledgement : IfSome (option_map as_object slot.ack) (λ o. IsAckReady g.fixed g.lives r slot.flow o ready.ack)
  pub messages : AreRelsReady (is_some ready.ack) g r slot.flow (map as_object slot.rels) ready.rels

-- how many signatures of a slot may be checked
abbrev pub slot_checks : Ground → RelState → Slot → ℕ
slot_checks g r slot =
    of_some (ack_checks g.lives r slot.flow) (option_map as_object slot.ack)
    + rels_checks (acked_by g.fixed g.lives r slot.flow (option_map as_object slot.ack)) g r slot.flow (map as_object slot.rels)

-- how many objects a slot has, where there is one: an acknowledgement at most, and its messages
abbrev pub slot_most : Option Slot → ℕ
slot_most None = 0
slot_most (Some s) = 1 + length s.rels

-- the answers in their order
abbrev pub slot_items : SlotAnswers → List Item
slot_items a = as_list a.ack ++ a.rels
