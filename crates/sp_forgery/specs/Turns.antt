-- A walk over objects and their answers in turn, for the first that is forged.
use Rattle.std.specs.Prelude.{ℕ, Bool, true, false, List, [], ◌∷◌, ◌++◌, map, option_map, Option, None, Some, if◌then◌else◌}
use Rattle.sp_frame.specs.Sections.{Contents}
use Rattle.sp_frame.specs.Views.{as_list, as_object}
use Rattle.sp_frame.specs.declared.object.ObjectRef.{ObjectRef}
use Rattle.sp_frame.specs.declared.sections.Slot.{Slot}
use Rattle.sp_journal.specs.declared.entry.Entry.{Entry}
use Rattle.sp_msg.specs.Bodies.{encoded_in}
use Rattle.sp_msg.specs.declared.kept.Kept.{Kept}
use Rattle.sp_node_format.specs.Format.{format_in}
use Rattle.sp_rules.specs.declared.answers.Item.{Item}
use Rattle.sp_runs.specs.Forgery.{is_forged}
use Rattle.sp_runs.specs.Settings.{Setting}
use Rattle.sp_schedule_events.specs.declared.event.Event.{Event}

abbrev pub or_later : {X : Type 0} → Option X → Option X → Option X
or_later (Some x) later = Some x
or_later None later = later

-- the body of the first object that is forged, with the answers in turn
abbrev pub forged_in_turn : Setting → List Event → List Entry → List Kept → List Item → Option (List ℕ)
forged_in_turn x es js os [] = None
forged_in_turn x es js [] (item ∷ items) = None
forged_in_turn x es js (o ∷ os) (item ∷ items) =
    if is_forged (format_in x.topology.format) x es js (o, item) then Some (encoded_in x.topology.format o.body) else forged_in_turn x es js os items

-- what a node handles of contents: all where nodes run with epochs, and else all but the Epoch object
abbrev pub handled_of : (epochs : Bool) → Contents → Contents
handled_of epochs contents = if epochs then contents else record contents { epoch = None }

-- the objects of a slot, and then these
abbrev pub slot_objects : Option Slot → List Kept → List Kept
slot_objects None os = os
slot_objects (Some s) os = as_list (option_map as_object s.ack) ++ (map as_object s.rels ++ os)

-- the Epoch object, where nodes run with epochs
abbrev pub epoch_objects : (epochs : Bool) → Option ObjectRef → List Kept
epoch_objects true object = as_list (option_map as_object object) ++ []
epoch_objects false object = []
