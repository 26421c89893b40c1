-- Each object of a frame that is in its ranges has its fields in their ranges, so it is good.
use Rattle.std.proofs.Common.{ℕ, List, [], ◌++◌, Option, Some, None, sym, subst}
use Rattle.std.specs.List.{All}
use Rattle.std.specs.Prelude.{IfSome, IsTrue}
use Rattle.std.proofs.lemmas.List.Elements.{All-append, All-cons, All-nil}
use Rattle.sp_frame.specs.Objects.{IsObject}
use Rattle.sp_frame.specs.Ranges.{IsContentsIn, IsNumbered, IsReport, Later}
use Rattle.sp_frame.specs.Reliable.{Report}
use Rattle.sp_frame.specs.Sections.{Contents}
use Rattle.sp_frame.specs.Views.{as_list}
use Rattle.sp_frame.specs.declared.kind.Kind.{Kind}
use Rattle.sp_frame.specs.declared.kind.Kind.TheVariants as kinds
use Rattle.sp_msg.specs.declared.kept.Kept.{Kept}
use Rattle.sp_node_format.proofs.GoodFields.{fields_pass}
use Rattle.sp_node_format.specs.Format.{format_in}
use Rattle.sp_rules.specs.Pieces.{pieces_of}
use Rattle.laws_node.proofs.Priority.{all_map}
use Rattle.laws_node.proofs.Tables.{all_weaker}
use Rattle.laws_node.specs.Objects.{objects_in}
use Rattle.laws_runs_format.proofs.FrameBytes.{end_objects, objects_are, prio_objects, slot_objects}

module _ (format len : ℕ) where
  abbrev IsGood : Kept → Type 0
  IsGood o = IsTrue ((format_in format).is_good o.body)

  one : (kind : Kind) (o : Kept) → IsObject format kind len o → IsGood o
  one kind o is = fields_pass format o.body is.fields

  each : (kind : Kind) (os : List Kept) → All (IsObject format kind len) os → All IsGood os
  each kind os all = all_weaker (IsObject format kind len) IsGood os (one kind) all

  at_most_one : (kind : Kind) (o : Option Kept) → IfSome o (IsObject format kind len) → All IsGood (as_list o)
  at_most_one kind None is = All-nil IsGood
  at_most_one kind (Some o) is = All-cons IsGood o [] (one kind o is) (All-nil IsGood)

  in_report : (ack messages : Kind) (r : Report) → IsReport format ack messages len r → All IsGood (slot_objects (Some r))
  in_report ack messages r is = All-append IsGood (as_list r.ack) r.rels (at_most_one ack r.ack is.ack) (each messages r.rels is.rels)

  in_slot : (s : Option Report) → IfSome s (IsReport format kinds.Ack kinds.Rel len) → All IsGood (slot_objects s)
  in_slot None is = All-nil IsGood
  in_slot (Some r) is = in_report kinds.Ack kinds.Rel r is

  on_paths : (s : Option Report) → IfSome s (Later format (IsReport format kinds.Kack kinds.Krel len)) → All IsGood (slot_objects s)
  on_paths None is = All-nil IsGood
  on_paths (Some r) is = in_report kinds.Kack kinds.Krel r is.1

  of_start : (o : Option Kept) → IfSome o (Later format (IsObject format kinds.Epoch len)) → All IsGood (as_list o)
  of_start None is = All-nil IsGood
  of_start (Some o) is = All-cons IsGood o [] (one kinds.Epoch o is.1) (All-nil IsGood)

  pub objects_are_good : (s : Contents) → IsContentsIn format len s → All (λ o. IsTrue ((format_in format).is_good o.body)) (objects_in (pieces_of s))
  objects_are_good s is =
      subst (All IsGood) (sym (objects_are s))
      (All-append IsGood s.weights (prio_objects s.prios ++ end_objects s) (each kinds.Weight s.weights is.weights)
      (All-append IsGood (prio_objects s.prios) (end_objects s)
      (all_map (IsNumbered format len) IsGood (λ m. m.1) (λ m numbered. one kinds.Prio m.1 numbered.object) s.prios is.prios)
      (All-append IsGood (slot_objects s.slot) (slot_objects s.paths ++ as_list s.epoch) (in_slot s.slot is.slot)
      (All-append IsGood (slot_objects s.paths) (as_list s.epoch) (on_paths s.paths is.paths) (of_start s.epoch is.epoch)))))
