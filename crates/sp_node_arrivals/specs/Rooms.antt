-- The room that a frame needs for what it may tell, before its objects are taken.
use Rattle.std.specs.Prelude.{ℕ, ◌+◌, ◌*◌, option_map}
use Rattle.sp_base.specs.declared.limits.TheConstants.{MAX_MESSAGES}
use Rattle.sp_frame.specs.Views.{as_object}
use Rattle.sp_frame.specs.declared.sections.Sections.{Sections}
use Rattle.sp_rules.specs.Handle as rules
use Rattle.sp_rules.specs.Parts.{Parts}
use Rattle.sp_rules.specs.Prio.{PrioState}
use Rattle.sp_node_arrivals.specs.Epoch.{ends_room}
use Rattle.sp_node_arrivals.specs.Prio.{prio_room}
use Rattle.sp_node_arrivals.specs.Signed.{of_some}

-- what the messages of a frame tell at most: one thing of a weight, one of each entry that an acknowledged link number covers, what its priority messages tell,
-- and one thing of each reliable message of either slot
abbrev pub messages_room : PrioState → ℕ
messages_room s = 1 + MAX_MESSAGES + MAX_MESSAGES * prio_room s + 2 * MAX_MESSAGES

-- and what a whole frame tells: one end of each flow that ends with its Epoch object
abbrev pub frame_room : rules.Arrival → Parts → Sections → ℕ
frame_room at p sections = messages_room p.prio + of_some (ends_room at.fixed.me p) (option_map as_object sections.epoch)
