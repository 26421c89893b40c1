-- A frame's objects with their answers: the first one that is forged is found by a walk over both.
use Rattle.std.proofs.Common.{◌≡◌, ◌∙◌, ℕ, Bool, true, false, List, [], ◌∷◌, ◌++◌, map, Option, None, Some, refl, ap}
use Rattle.laws_node.specs.Objects.{objects_in}
use Rattle.sp_base.specs.declared.id.Flow.{Flow}
use Rattle.sp_msg.specs.declared.kept.Kept.{Kept}
use Rattle.sp_node_format.specs.Format.{format_in}
use Rattle.sp_rules.specs.Pieces.{AckPiece, EpochPiece, Piece, PrioAckPiece, RelPiece, WeightPiece, pieces_of, prio_piece, slot_pieces}
use Rattle.sp_rules.specs.declared.answers.Item.{Item}
use Rattle.sp_rules.specs.declared.kflow.FlowKind.{FlowKind}
use Rattle.sp_rules.specs.declared.kflow.FlowKind.TheVariants as kinds
use Rattle.std.specs.Prelude.{option_map}
use Rattle.sp_frame.specs.Views.{as_contents, as_list, as_numbered, as_object, as_report}
use Rattle.sp_frame.specs.declared.object.ObjectRef.{ObjectRef}
use Rattle.sp_frame.specs.declared.sections.Sections.{Sections}
use Rattle.sp_frame.specs.declared.sections.Slot.{Slot}
use Rattle.sp_runs.specs.Forgery.{forged_object}
use Rattle.sp_runs.specs.Settings.{Setting}
use Rattle.sp_forgery.specs.Turns.{epoch_objects, forged_in_turn, handled_of, slot_objects}
use Rattle.sp_journal.specs.declared.entry.Entry.{Entry}
use Rattle.sp_schedule_events.specs.declared.event.Event.{Event}

-- where no object is left, none is forged
pub none_left : (x : Setting) (es : List Event) (js : List Entry) (items : List Item) → forged_in_turn x es js [] items ≡ None
none_left x es js [] = refl
none_left x es js (item ∷ items) = refl

-- whatever else is answered after the objects
pub in_turn : (x : Setting) (es : List Event) (js : List Entry) (xs : List (Kept × Item)) (more : List Item)
    → forged_in_turn x es js (map (λ a. a.0) xs) (map (λ a. a.1) xs ++ more) ≡ forged_object (format_in x.topology.format) x es js xs
in_turn x es js [] more = none_left x es js more
in_turn x es js (a ∷ xs) more = rw (in_turn x es js xs more) refl

-- the objects of a slot of either kind, up to these last pieces
module _ (kind : FlowKind) (last : List Piece) where
  rels_then : (flow : Flow) (xs : List ObjectRef)
      → objects_in (map (RelPiece kind flow) (map as_object xs) ++ last) ≡ map as_object xs ++ objects_in last
  rels_then flow [] = refl
  rels_then flow (x ∷ xs) = ap (λ (os : List Kept). as_object x ∷ os) (rels_then flow xs)

  acks_then : (flow : Flow) (x : Option ObjectRef) (xs : List ObjectRef)
      → objects_in ((map (AckPiece kind flow) (as_list (option_map as_object x)) ++ map (RelPiece kind flow) (map as_object xs)) ++ last)
      ≡ as_list (option_map as_object x) ++ (map as_object xs ++ objects_in last)
  acks_then flow None xs = rels_then flow xs
  acks_then flow (Some x) xs = ap (λ (os : List Kept). as_object x ∷ os) (rels_then flow xs)

  slot_then : (o : Option Slot) → objects_in (slot_pieces kind (option_map as_report o) ++ last) ≡ slot_objects o (objects_in last)
  slot_then None = refl
  slot_then (Some s) = acks_then s.flow s.ack s.rels

-- the objects of sections, part by part, up to these last pieces
module _ (last : List Piece) where
  slots_then : (slot paths : Option Slot)
      → objects_in (slot_pieces kinds.Plain (option_map as_report slot) ++ (slot_pieces kinds.Paths (option_map as_report paths) ++ last))
      ≡ slot_objects slot (slot_objects paths (objects_in last))
  slots_then slot paths =
      slot_then kinds.Plain (slot_pieces kinds.Paths (option_map as_report paths) ++ last) slot ∙ ap (slot_objects slot) (slot_then kinds.Paths last paths)

  prios_then : (slot paths : Option Slot) (ms : List (ℕ × ObjectRef))
      → objects_in (map prio_piece (map as_numbered ms)
      ++ (slot_pieces kinds.Plain (option_map as_report slot) ++ (slot_pieces kinds.Paths (option_map as_report paths) ++ last)))
      ≡ map (λ m. as_object m.1) ms ++ slot_objects slot (slot_objects paths (objects_in last))
  prios_then slot paths [] = slots_then slot paths
  prios_then slot paths (m ∷ ms) = ap (λ (os : List Kept). as_object m.1 ∷ os) (prios_then slot paths ms)

  all_then : (s : Sections) (w : Option ObjectRef) → objects_in (map WeightPiece (as_list (option_map as_object w))
      ++ (PrioAckPiece s.prio_ack ∷ (map prio_piece (map as_numbered s.prios)
      ++ (slot_pieces kinds.Plain (option_map as_report s.slot) ++ (slot_pieces kinds.Paths (option_map as_report s.paths) ++ last)))))
      ≡ as_list (option_map as_object w) ++ (map (λ m. as_object m.1) s.prios ++ slot_objects s.slot (slot_objects s.paths (objects_in last)))
  all_then s None = prios_then s.slot s.paths s.prios
  all_then s (Some w) = ap (λ (os : List Kept). as_object w ∷ os) (prios_then s.slot s.paths s.prios)

-- the last one
epoch_is : (e : Option ObjectRef) → objects_in (map EpochPiece (as_list (option_map as_object e))) ≡ epoch_objects true e
epoch_is None = refl
epoch_is (Some e) = refl

-- the objects of a frame in the order of handling: those of the update, of priority messages, of both slots, and the Epoch object
pub objects_in_sections : (epochs : Bool) (s : Sections) → objects_in (pieces_of (handled_of epochs (as_contents s)))
    ≡ as_list (option_map as_object s.weight)
    ++ (map (λ m. as_object m.1) s.prios ++ slot_objects s.slot (slot_objects s.paths (epoch_objects epochs s.epoch)))
objects_in_sections true s =
    all_then (map EpochPiece (as_list (option_map as_object s.epoch))) s s.weight
    ∙ ap (λ (os : List Kept). as_list (option_map as_object s.weight)
    ++ (map (λ m. as_object m.1) s.prios ++ slot_objects s.slot (slot_objects s.paths os))) (epoch_is s.epoch)
objects_in_sections false s = all_then [] s s.weight
