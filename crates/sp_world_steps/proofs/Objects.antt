-- The objects of a datagram that a node takes: they are few, and each is a message with its fields in their ranges.
use Rattle.std.proofs.Common.{◌≡◌, ◌+◌, ◌≤◌, ◌<◌, ◌-◌, ◌∙◌, ℕ, List, [], ◌∷◌, ◌++◌, cond, length, map, length-append, append_assoc}
use Rattle.std.proofs.Common.{Option, Some, None, Result, Ok, Err, refl, sym, ap, ap₂, subst, arith}
use Rattle.std.specs.Prelude.{◌==◌, All, Bool, IfSome, false, true, if◌then◌else◌}
use Rattle.std.proofs.lemmas.List.{length-map}
use Rattle.std.proofs.lemmas.List.Elements.{All-append, All-drop, All-map, All-nil, All-cons, All-take, All-weaker}
use Rattle.laws_node.proofs.Objects.{objects_are_answered}
use Rattle.laws_node.specs.Objects.{objects_in, objects_of}
use Rattle.sp_base.specs.Spelling.{AreBytes}
use Rattle.sp_base.specs.declared.format.TheConstants.{FORMAT_1}
use Rattle.sp_base.specs.declared.id.NodeId.{NodeId}
use Rattle.sp_base.specs.declared.limits.TheConstants.{MAX_MESSAGES}
use Rattle.sp_frame.proofs.SectionLemmas.{read_is_spelled}
use Rattle.sp_frame.specs.Frames.{sections_part, tagged_part}
use Rattle.sp_frame.specs.Objects.{IsObject, most}
use Rattle.sp_frame.specs.Ranges.{IsContentsIn, IsNumbered, IsReport, Later}
use Rattle.sp_frame.specs.Reliable.{Report}
use Rattle.sp_frame.specs.Sections.{Contents, sections_of_in}
use Rattle.sp_frame.specs.Views.{as_list}
use Rattle.sp_frame.specs.declared.kind.Kind.{Kind}
use Rattle.sp_frame.specs.declared.kind.Kind.TheVariants as kinds
use Rattle.sp_frame.specs.declared.refused.SectionRefused.{SectionRefused}
use Rattle.sp_msg.specs.Bodies.{HasGoodFieldsIn}
use Rattle.sp_msg.specs.declared.kept.Kept.{Kept}
use Rattle.sp_node.proofs.Arrived.{none_beside}
use Rattle.sp_node_format.specs.Format.{format_in, format_of}
use Rattle.sp_rules.specs.Arrivals.{arrival_at, before_document, document_at, handled, heeded, parts_met, pieces_beside, pieces_in, pieces_where, reply_at}
use Rattle.sp_rules.specs.Arrivals.{sections_in}
use Rattle.sp_rules.specs.Arts.{Arts}
use Rattle.sp_rules.specs.Handle.{handle_all}
use Rattle.sp_rules.specs.Node.{NodeState, call_refusal}
use Rattle.sp_rules.specs.Parts.{Fixed}
use Rattle.sp_rules.specs.Pieces.{AckPiece, EpochPiece, Piece, PrioAckPiece, RelPiece, WeightPiece, pieces_of, prio_piece, slot_pieces}
use Rattle.sp_rules.specs.Steps.{Arrived, Output, Reply, arrived, document_items, refused_call}
use Rattle.sp_rules.specs.declared.answers.Item.{Item}
use Rattle.sp_rules.specs.declared.kflow.FlowKind.{FlowKind}
use Rattle.sp_rules.specs.declared.kflow.FlowKind.TheVariants as flow_kinds
use Rattle.sp_rules.specs.declared.node.LinkReply.{LinkReply}
use Rattle.sp_rules.specs.declared.node.LinkReply.TheVariants as replies
use Rattle.sp_rules.specs.declared.node.Step.{Step}
use Rattle.sp_rules.specs.declared.node.Taken.{Taken}
use Rattle.sp_world_steps.specs.Gave.{GaveTaken}
use Rattle.sp_frame.specs.declared.sections.TheConstants.{MOST_OBJECTS}

-- ---- the objects of contents, part by part

objects_both : (xs ys : List Piece) → objects_in (xs ++ ys) ≡ objects_in xs ++ objects_in ys
objects_both [] ys = refl
objects_both (p ∷ xs) ys =
    ap (λ (os : List Kept). objects_of p ++ os) (objects_both xs ys) ∙ sym (append_assoc (objects_of p) (objects_in xs) (objects_in ys))

of_each : (one : Kept → Piece) → ((o : Kept) → objects_of (one o) ≡ o ∷ []) → (os : List Kept) → objects_in (map one os) ≡ os
of_each one each [] = refl
of_each one each (o ∷ os) = rw (each o) (ap (λ (others : List Kept). o ∷ others) (of_each one each os))

of_numbered : (ms : List (ℕ × Kept)) → objects_in (map prio_piece ms) ≡ map (λ m. m.1) ms
of_numbered [] = refl
of_numbered (m ∷ ms) = ap (λ (os : List Kept). m.1 ∷ os) (of_numbered ms)

abbrev slot_objects : Option Report → List Kept
slot_objects None = []
slot_objects (Some r) = as_list r.ack ++ r.rels

of_slot : (kind : FlowKind) (slot : Option Report) → objects_in (slot_pieces kind slot) ≡ slot_objects slot
of_slot kind None = refl
of_slot kind (Some r) =
    objects_both (map (AckPiece kind r.flow) (as_list r.ack)) (map (RelPiece kind r.flow) r.rels)
    ∙ ap₂ (λ (xs ys : List Kept). xs ++ ys) (of_each (AckPiece kind r.flow) (λ o. refl) (as_list r.ack))
    (of_each (RelPiece kind r.flow) (λ o. refl) r.rels)

of_contents : (s : Contents) → objects_in (pieces_of s)
    ≡ s.weights ++ (map (λ m. m.1) s.prios ++ (slot_objects s.slot ++ (slot_objects s.paths ++ as_list s.epoch)))
of_contents s =
    let epoch = map EpochPiece (as_list s.epoch) in
    let paths = slot_pieces flow_kinds.Paths s.paths in
    let plain = slot_pieces flow_kinds.Plain s.slot in
    objects_both (map WeightPiece s.weights) (PrioAckPiece s.prio_ack ∷ (map prio_piece s.prios ++ (plain ++ (paths ++ epoch))))
    ∙ ap₂ (λ (xs ys : List Kept). xs ++ ys) (of_each WeightPiece (λ o. refl) s.weights)
    (objects_both (map prio_piece s.prios) (plain ++ (paths ++ epoch))
    ∙ ap₂ (λ (xs ys : List Kept). xs ++ ys) (of_numbered s.prios)
    (objects_both plain (paths ++ epoch)
    ∙ ap₂ (λ (xs ys : List Kept). xs ++ ys) (of_slot flow_kinds.Plain s.slot)
    (objects_both paths epoch
    ∙ ap₂ (λ (xs ys : List Kept). xs ++ ys) (of_slot flow_kinds.Paths s.paths) (of_each EpochPiece (λ o. refl) (as_list s.epoch)))))

-- ---- they are few, and good

-- a message of the format
abbrev pub IsGood : (format : ℕ) → Kept → Type 0
IsGood format o = HasGoodFieldsIn format o.body

pub record AreObjects (format : ℕ) (os : List Kept) : Type 0 where
  pub few : length os ≤ MOST_OBJECTS
  pub good : All (IsGood format) os

none_are : (format : ℕ) → AreObjects format []
none_are format = record { few = omega arith; good = All-nil (IsGood format) }

-- no format has more messages in a slot than the first
few_rels : (format : ℕ) → most format kinds.Rel ≤ MAX_MESSAGES
few_rels format = go (format == FORMAT_1)
  where
    go : (b : Bool) → (if b then MAX_MESSAGES else 2) ≤ MAX_MESSAGES
    go true = omega arith
    go false = omega arith

ack_is : (format : ℕ) (kind : Kind) (len : ℕ) (o : Option Kept) → IfSome o (IsObject format kind len)
    → (length (as_list o) ≤ 1) × All (IsGood format) (as_list o)
ack_is format kind len None is = (omega arith, All-nil (IsGood format))
ack_is format kind len (Some o) is = (omega arith, All-cons (IsGood format) o [] is.fields (All-nil (IsGood format)))

-- a slot with at most so many messages
report_is : (format : ℕ) (acks messages : Kind) (len few : ℕ) (r : Report) → most format messages ≤ few → IsReport format acks messages len r
    → (length (slot_objects (Some r)) ≤ 1 + few) × All (IsGood format) (slot_objects (Some r))
report_is format acks messages len few r at_most is =
    let ack = ack_is format acks len r.ack is.ack in
    let rels = All-weaker (IsObject format messages len) (IsGood format) (λ o h. h.fields) r.rels is.rels in (
      omega (arith, ack.0, is.few, at_most, length-append (as_list r.ack) r.rels),
      All-append (IsGood format) (as_list r.ack) r.rels ack.1 rels,
    )

slot_is : (format len : ℕ) (slot : Option Report) → IfSome slot (IsReport format kinds.Ack kinds.Rel len)
    → (length (slot_objects slot) ≤ 1 + MAX_MESSAGES) × All (IsGood format) (slot_objects slot)
slot_is format len None is = (omega arith, All-nil (IsGood format))
slot_is format len (Some r) is = report_is format kinds.Ack kinds.Rel len MAX_MESSAGES r (few_rels format) is

paths_is : (format len : ℕ) (slot : Option Report) → IfSome slot (Later format (IsReport format kinds.Kack kinds.Krel len))
    → (length (slot_objects slot) ≤ 2) × All (IsGood format) (slot_objects slot)
paths_is format len None is = (omega arith, All-nil (IsGood format))
paths_is format len (Some r) is = report_is format kinds.Kack kinds.Krel len 1 r (omega arith) is.1

epoch_is : (format len : ℕ) (o : Option Kept) → IfSome o (Later format (IsObject format kinds.Epoch len))
    → (length (as_list o) ≤ 1) × All (IsGood format) (as_list o)
epoch_is format len None is = (omega arith, All-nil (IsGood format))
epoch_is format len (Some o) is = (omega arith, All-cons (IsGood format) o [] is.1.fields (All-nil (IsGood format)))

-- also where they have another Epoch object, or none
contents_are : (format len : ℕ) (s : Contents) (o : Option Kept) → IsContentsIn format len s → IfSome o (Later format (IsObject format kinds.Epoch len))
    → AreObjects format (objects_in (pieces_of (record s { epoch = o })))
contents_are format len s o is last =
    let P = IsGood format in
    let slot = slot_is format len s.slot is.slot in
    let epoch = epoch_is format len o last in
    let paths = paths_is format len s.paths is.paths in
    let last_ones = slot_objects s.paths ++ as_list o in
    let ends = slot_objects s.slot ++ last_ones in
    let weights = All-weaker (IsObject format kinds.Weight len) P (λ o h. h.fields) s.weights is.weights in
    let prios = All-map P (λ m. m.1) s.prios (All-weaker (IsNumbered format len) (λ (m : ℕ × Kept). P m.1) (λ m h. h.object.fields) s.prios is.prios) in
    let rest = map (λ (m : ℕ × Kept). m.1) s.prios ++ ends in
    subst (AreObjects format) (sym (of_contents (record s { epoch = o }))) (record {
      few = omega (
        arith,
        slot.0,
        paths.0,
        epoch.0,
        is.few_weights,
        is.few_prios,
        length-append s.weights rest,
        length-append (map (λ (m : ℕ × Kept). m.1) s.prios) ends,
        length-append (slot_objects s.slot) last_ones,
        length-append (slot_objects s.paths) (as_list o),
        length-map s.prios (λ (m : ℕ × Kept). m.1),
      );
      good =
          All-append P s.weights rest weights
          (All-append P (map (λ (m : ℕ × Kept). m.1) s.prios) ends prios
          (All-append P (slot_objects s.slot) last_ones slot.1 (All-append P (slot_objects s.paths) (as_list o) paths.1 epoch.1)));
    })

-- what is heeded of them
heeded_are : (format len : ℕ) (epochs : Bool) (s : Contents) → IsContentsIn format len s
    → AreObjects format (objects_in (pieces_of (cond epochs s (record s { epoch = None }))))
heeded_are format len true s is = contents_are format len s s.epoch is is.epoch
heeded_are format len false s is = contents_are format len s None is tt

-- ---- of whatever bytes come

part_are : (bytes : List ℕ) → AreBytes bytes → AreBytes (sections_part bytes)
part_are bytes are = All-drop (λ (b : ℕ). b < 256) 33 (tagged_part bytes) (All-take (λ (b : ℕ). b < 256) (length bytes - 32) bytes are)

-- also where none of them is handled beside a document
beside_are : (format : ℕ) (document : Option (List ℕ)) (pieces : List Piece) → AreObjects format (objects_in pieces)
    → AreObjects format (objects_in (pieces_beside document pieces))
beside_are format None pieces h = h
beside_are format (Some document) pieces h = none_are format

sections_are : (format len : ℕ) (f : Fixed) (bytes : List ℕ) (r : Result Contents SectionRefused) → AreBytes bytes
    → sections_of_in format len (sections_part bytes) ≡ r → AreObjects format (objects_in (pieces_in f r))
sections_are format len f bytes (Ok s) are is =
    beside_are format s.document (pieces_of (heeded f s))
    (heeded_are format len f.epochs s (read_is_spelled format len (sections_part bytes) s (part_are bytes are) is).1)
sections_are format len f bytes (Err refused) are is = none_are format

where_are : (format : ℕ) (pieces : List Piece) (reply : LinkReply) → AreObjects format (objects_in pieces)
    → AreObjects format (objects_in (pieces_where reply pieces))
where_are format pieces replies.Fresh h = h
where_are format pieces replies.TooLong h = none_are format
where_are format pieces (replies.Short short) h = none_are format
where_are format pieces replies.Magic h = none_are format
where_are format pieces replies.Version h = none_are format
where_are format pieces replies.NotForMe h = none_are format
where_are format pieces replies.BadTag h = none_are format
where_are format pieces (replies.Learned boot) h = none_are format
where_are format pieces (replies.Stale boot counter) h = none_are format
where_are format pieces (replies.OtherTopology theirs) h = none_are format
where_are format pieces (replies.Section refused) h = none_are format
where_are format pieces replies.Withdrawn h = none_are format

-- the objects that a datagram brings are in the ranges of their format
pub handled_are : (format : ℕ) (n : NodeState) (u : NodeId) (bytes : List ℕ) → AreBytes bytes
    → AreObjects format (map (λ a. a.0) (handled (format_in format) n u bytes).answered)
handled_are format n u bytes are =
    let arts = format_in format in
    let sections = sections_in arts n.fixed bytes in
    let pieces = pieces_where (reply_at arts n u bytes) (pieces_in n.fixed sections) in
    subst (AreObjects format) (sym (objects_are_answered arts (arrival_at n u) (parts_met arts n u bytes) pieces))
    (where_are format (pieces_in n.fixed sections) (reply_at arts n u bytes) (sections_are format n.fixed.signature_len n.fixed bytes sections are refl))

-- ---- as many answers

abbrev items_in : Reply → List Item
items_in (Arrived link items) = items
items_in _ = []

items_are : (n new : NodeState) (u : NodeId) (bytes : List ℕ) (step : Step Taken) → call_refusal n u ≡ None → GaveTaken n u bytes step new
    → step.reply.items ≡ map (λ a. a.1) (handled (format_of n.fixed) n u bytes).answered
    ++ document_items (format_of n.fixed) (before_document (format_of n.fixed) n u bytes) (document_at (format_of n.fixed) n u bytes)
items_are n new u bytes step called gave =
    ap (λ (o : Output). items_in o.reply) (gave.0 ∙ ap (λ r. refused_call r (arrived (format_of n.fixed) n u bytes)) called)

pub few_items : (n new : NodeState) (u : NodeId) (bytes : List ℕ) (step : Step Taken) → AreBytes bytes → call_refusal n u ≡ None → GaveTaken n u bytes step new
    → length step.reply.items ≤ MOST_OBJECTS
few_items n new u bytes step are called gave = go (document_at arts n u bytes) refl
  where
    arts : Arts
    arts = format_of n.fixed

    answered : List (Kept × Item)
    answered = (handled arts n u bytes).answered

    go : (o : Option (List ℕ)) → document_at arts n u bytes ≡ o → length step.reply.items ≤ MOST_OBJECTS
    go None is =
        let few = (handled_are n.fixed.topology.format n u bytes are).few in
        omega (
          arith,
          ap (λ (is : List Item). length is) (items_are n new u bytes step called gave),
          ap (λ (d : Option (List ℕ)). length (map (λ (a : Kept × Item). a.1) answered ++ document_items arts (before_document arts n u bytes) d)) is,
          length-append (map (λ (a : Kept × Item). a.1) answered) [],
          few,
          length-map answered (λ (a : Kept × Item). a.1),
          length-map answered (λ (a : Kept × Item). a.0),
        )
    go (Some d) is =
        let none = none_beside n.fixed (reply_at arts n u bytes) (sections_in arts n.fixed bytes) d is in
        omega (
          arith,
          ap (λ (is : List Item). length is) (items_are n new u bytes step called gave),
          ap (λ (o : Option (List ℕ)). length (map (λ (a : Kept × Item). a.1) answered ++ document_items arts (before_document arts n u bytes) o)) is,
          length-append (map (λ (a : Kept × Item). a.1) answered) (document_items arts (before_document arts n u bytes) (Some d)),
          length-map answered (λ (a : Kept × Item). a.1),
          ap (λ (ps : List Piece). length (handle_all arts (arrival_at n u) (parts_met arts n u bytes) ps).answered) none,
        )
