-- What a call did of the pieces of a frame, among the calls before and after it.
use Rattle.std.specs.Prelude.{◌≡◌, List, ◌++◌, map}
use Rattle.sp_frame.specs.Views.{as_list}
use Rattle.sp_msg.specs.Caused.{Caused}
use Rattle.sp_rules.specs.Handle.{Handled}
use Rattle.sp_rules.specs.Parts.{Parts}
use Rattle.sp_rules.specs.Told.{told}
use Rattle.sp_rules.specs.declared.answers.Item.{Item}
use Rattle.sp_node_arrivals.specs.Slot.{slot_items}
use Rattle.sp_node_arrivals.specs.declared.arriving.Answers.{Answers}

-- it left these parts and gave these answers, and told what was caused after what was told before
pub record IsDone (done : Handled) (left : Parts) (answers : List Item) (before after : Caused) : Type 0 where
  pub parts : left ≡ done.parts
  pub items : answers ≡ map (λ a. a.1) done.answered
  pub effects : after ≡ told before done.effects

-- the answers in their order
abbrev pub items_of : Answers → List Item
items_of a = as_list a.weight ++ (a.prios ++ (slot_items a.slot ++ (slot_items a.paths ++ as_list a.epoch)))
