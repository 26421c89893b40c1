-- What of a datagram is handled: pieces in their ranges, and few of them messages.
use Rattle.std.proofs.Common.{◌≡◌, ◌≤◌, ℕ, ◌+◌, Bool, false, cond, List, [], ◌∷◌, ◌++◌, length, map, Option, Some, None, Result, Ok, Err, refl, ap, subst, true}
use Rattle.std.proofs.Common.{◌∙◌, arith}
use Rattle.std.specs.Prelude.{IfSome}
use Rattle.std.specs.List.{All}
use Rattle.std.proofs.lemmas.List.Elements.{All-head, All-tail}
use Rattle.sp_base.specs.Spelling.{AreBytes}
use Rattle.sp_base.specs.declared.id.NodeId.{NodeId}
use Rattle.sp_base.specs.declared.limits.TheConstants.{MAX_MESSAGES}
use Rattle.sp_frame.specs.Objects.{IsObject, is_of}
use Rattle.sp_frame.specs.Ranges.{IsContentsIn, IsDocument, IsNumbered, IsReport, Later}
use Rattle.sp_frame.specs.Reliable.{Report}
use Rattle.sp_frame.specs.Sections.{Contents}
use Rattle.sp_frame.specs.Views.{as_list}
use Rattle.sp_frame.specs.declared.kind.Kind.{Kind}
use Rattle.sp_frame.specs.declared.kind.Kind.TheVariants as kinds
use Rattle.sp_frame.specs.declared.refused.SectionRefused.{SectionRefused}
use Rattle.sp_msg.specs.declared.kept.Kept.{Kept}
use Rattle.sp_msg.specs.Bodies.{HasGoodFieldsIn}
use Rattle.sp_rules.specs.Arrivals.{heeded, pieces_beside, pieces_in, pieces_where, reply_at, sections_in}
use Rattle.sp_rules.specs.Arts.{Arts}
use Rattle.sp_rules.specs.Node.{NodeState, Signer}
use Rattle.sp_rules.specs.Parts.{Fixed}
use Rattle.sp_rules.specs.Pieces.{Piece, PrioAckPiece, PrioPiece, ReportPiece, WeightPiece, AckPiece, RelPiece, EpochPiece, pieces_of, prio_piece, slot_pieces}
use Rattle.sp_rules.specs.declared.kflow.FlowKind.{FlowKind}
use Rattle.sp_rules.specs.declared.kflow.FlowKind.TheVariants.{Plain, Paths}
use Rattle.sp_rules.specs.declared.node.LinkReply.{LinkReply}
use Rattle.sp_rules.specs.declared.node.LinkReply.TheVariants as replies
use Rattle.laws_node.specs.Inputs.{ArtsFit}
use Rattle.laws_node.specs.Nodes.{NodeHolds}
use Rattle.laws_node.specs.Sizes.{Sizes}
use Rattle.laws_node.proofs.Carried.{AllKeep, PieceKeeps}
use Rattle.laws_node.proofs.FlowKinds.{ack_kind, rel_kind}
use Rattle.laws_node.proofs.Handles.{AllFit, InRange, PieceFits, messages, messages_in}
use Rattle.laws_node.proofs.Tables.{all_weaker}

-- ---- what was read is in its ranges

all_pieces : (k : Sizes) (one : Kept → Piece) → ((o : Kept) → InRange k o → PieceFits k (one o)) → (os : List Kept) → All (InRange k) os → AllFit k (map one os)
all_pieces k one fits [] all = tt
all_pieces k one fits (o ∷ os) all = (fits o (All-head (InRange k) o os all), all_pieces k one fits os (All-tail (InRange k) o os all))

join_fits : (k : Sizes) (ps qs : List Piece) → AllFit k ps → AllFit k qs → AllFit k (ps ++ qs)
join_fits k [] qs one two = two
join_fits k (p ∷ ps) qs one two = (one.0, join_fits k ps qs one.1 two)

in_range : (k : Sizes) (kind : Kind) (len : ℕ) → len ≡ k.signature_len → (o : Kept) → IsObject k.format kind len o → InRange k o
in_range k kind len same o is = record { fields = is.fields; long = is.long ∙ same }

prio_pieces : (k : Sizes) (len : ℕ) → len ≡ k.signature_len → (ms : List (ℕ × Kept)) → All (IsNumbered k.format len) ms → AllFit k (map prio_piece ms)
prio_pieces k len same [] all = tt
prio_pieces k len same (m ∷ ms) all =
    let first = All-head (IsNumbered k.format len) m ms all in
    ((first.number, in_range k kinds.Prio len same m.1 first.object), prio_pieces k len same ms (All-tail (IsNumbered k.format len) m ms all))

report_pieces : (kind : FlowKind) (k : Sizes) (len : ℕ) → len ≡ k.signature_len → (slot : Option Report)
    → IfSome slot (IsReport k.format (ack_kind kind) (rel_kind kind) len) → AllFit k (slot_pieces kind slot)
report_pieces kind k len same None is = tt
report_pieces kind k len same (Some r) is = (
  tt,
  join_fits k (map (AckPiece kind r.flow) (as_list r.ack)) (map (RelPiece kind r.flow) r.rels)
      (of_some r.ack is.ack)
      (of_kind (RelPiece kind r.flow) (rel_kind kind) (λ o fits. fits) r.rels is.rels),
)
  where
    -- each with its kind
    of_kind : (one : Kept → Piece) (of : Kind) → ((o : Kept) → InRange k o × (is_of of o.body ≡ true) → PieceFits k (one o)) → (os : List Kept)
        → All (IsObject k.format of len) os → AllFit k (map one os)
    of_kind one of fits [] all = tt
    of_kind one of fits (o ∷ os) all =
        let first = All-head (IsObject k.format of len) o os all in
        (fits o (in_range k of len same o first, first.is), of_kind one of fits os (All-tail (IsObject k.format of len) o os all))

    of_some : (o : Option Kept) → IfSome o (IsObject k.format (ack_kind kind) len) → AllFit k (map (AckPiece kind r.flow) (as_list o))
    of_some None is = tt
    of_some (Some o) is = ((in_range k (ack_kind kind) len same o is, is.is), tt)

-- a slot that format 1 lacks
paths_pieces : (k : Sizes) (len : ℕ) → len ≡ k.signature_len → (slot : Option Report)
    → IfSome slot (Later k.format (IsReport k.format kinds.Kack kinds.Krel len)) → AllFit k (slot_pieces Paths slot)
paths_pieces k len same None is = tt
paths_pieces k len same (Some r) is = report_pieces Paths k len same (Some r) is.1

contents_fit : (k : Sizes) (len : ℕ) → len ≡ k.signature_len → (s : Contents) → IsContentsIn k.format len s → AllFit k (pieces_of s)
contents_fit k len same s is =
    join_fits k (map WeightPiece s.weights) _
    (all_pieces k WeightPiece (λ o fits. fits) s.weights
    (all_weaker (IsObject k.format kinds.Weight len) (InRange k) s.weights (in_range k kinds.Weight len same) is.weights)) (
      tt,
      join_fits k (map prio_piece s.prios) (slot_pieces Plain s.slot ++ (slot_pieces Paths s.paths ++ map EpochPiece (as_list s.epoch)))
          (prio_pieces k len same s.prios is.prios)
          (join_fits k (slot_pieces Plain s.slot) (slot_pieces Paths s.paths ++ map EpochPiece (as_list s.epoch))
          (report_pieces Plain k len same s.slot is.slot)
          (join_fits k (slot_pieces Paths s.paths) (map EpochPiece (as_list s.epoch)) (paths_pieces k len same s.paths is.paths) (of_epoch s.epoch is.epoch))),
    )
  where
    of_epoch : (o : Option Kept) → IfSome o (Later k.format (IsObject k.format kinds.Epoch len)) → AllFit k (map EpochPiece (as_list o))
    of_epoch None is = tt
    of_epoch (Some o) is = (in_range k kinds.Epoch len same o is.1, tt)

-- how many priority messages are among them
messages_both : (ps qs : List Piece) → messages (ps ++ qs) ≡ messages ps + messages qs
messages_both [] qs = omega arith
messages_both (p ∷ ps) qs = let rest = messages_both ps qs in omega (arith, rest)

no_messages : (one : Kept → Piece) → ((o : Kept) → messages_in (one o) ≡ 0) → (os : List Kept) → messages (map one os) ≡ 0
no_messages one none [] = refl
no_messages one none (o ∷ os) = let rest = no_messages one none os in omega (arith, rest, none o)

prio_messages : (ms : List (ℕ × Kept)) → messages (map prio_piece ms) ≡ length ms
prio_messages [] = refl
prio_messages (m ∷ ms) = let rest = prio_messages ms in omega (arith, rest)

slot_messages : (kind : FlowKind) (slot : Option Report) → messages (slot_pieces kind slot) ≡ 0
slot_messages kind None = refl
slot_messages kind (Some r) =
    let acks = no_messages (AckPiece kind r.flow) (λ o. refl) (as_list r.ack) in
    let rels = no_messages (RelPiece kind r.flow) (λ o. refl) r.rels in
    omega (arith, acks, rels, messages_both (map (AckPiece kind r.flow) (as_list r.ack)) (map (RelPiece kind r.flow) r.rels))

few_messages : (format len : ℕ) (s : Contents) → IsContentsIn format len s → messages (pieces_of s) ≤ MAX_MESSAGES
few_messages format len s is =
    let epochs = map EpochPiece (as_list s.epoch) in
    let slots = slot_pieces Plain s.slot ++ (slot_pieces Paths s.paths ++ epochs) in
    let weights = no_messages WeightPiece (λ o. refl) s.weights in
    let prios = prio_messages s.prios in
    let slot = slot_messages Plain s.slot in
    let paths = slot_messages Paths s.paths in
    let none = no_messages EpochPiece (λ o. refl) (as_list s.epoch) in
    let last = messages_both (slot_pieces Paths s.paths) epochs in
    let middle = messages_both (slot_pieces Plain s.slot) (slot_pieces Paths s.paths ++ epochs) in
    let inner = messages_both (map prio_piece s.prios) slots in
    let outer = messages_both (map WeightPiece s.weights) (PrioAckPiece s.prio_ack ∷ (map prio_piece s.prios ++ slots)) in
    omega (arith, weights, prios, slot, paths, none, last, middle, inner, outer, is.few_prios)

-- what a node heeds of them
heeded_in : (format len : ℕ) (epochs : Bool) (s : Contents) → IsContentsIn format len s → IsContentsIn format len (cond epochs s (record s { epoch = None }))
heeded_in format len true s is = is
heeded_in format len false s is = record {
  document = unsaid s.document is.document;
  few_weights = is.few_weights;
  weights = is.weights;
  prio_ack = is.prio_ack;
  few_prios = is.few_prios;
  prios = is.prios;
  slot = is.slot;
  paths = is.paths;
  probe = is.probe;
  epoch = tt;
}
  where
    unsaid : (o : Option (List ℕ)) → IfSome o (Later format (IsDocument s)) → IfSome o (Later format (IsDocument (record s { epoch = None })))
    unsaid None is = tt
    unsaid (Some document) is = (is.0, record { short = is.1.short; alone = ap (λ (c : Contents). record c { epoch = None }) is.1.alone })

-- pieces that fit, and few of them messages
pub record FewFit (k : Sizes) (pieces : List Piece) : Type 0 where
  pub fit : AllFit k pieces
  pub few : messages pieces ≤ MAX_MESSAGES

none_fit : (k : Sizes) → FewFit k []
none_fit k = record { fit = tt; few = omega arith }

-- none are handled beside a document
beside_fits : (k : Sizes) (document : Option (List ℕ)) (pieces : List Piece) → FewFit k pieces → FewFit k (pieces_beside document pieces)
beside_fits k None pieces h = h
beside_fits k (Some document) pieces h = none_fit k

-- sections that are read from bytes fit
pub sections_fit : (k : Sizes) (arts : Arts) (f : Fixed) (signer : Signer) (bytes : List ℕ) → ArtsFit arts f signer → AreBytes bytes
    → f.topology.format ≡ k.format
    → f.signature_len ≡ k.signature_len → (s : Result Contents SectionRefused) → sections_in arts f bytes ≡ s → FewFit k (pieces_in f s)
sections_fit k arts f signer bytes fits are format same (Ok s) is =
    let contents = subst (λ (n : ℕ). IsContentsIn n f.signature_len s) format (fits.sections bytes s are is) in
    let some = heeded_in k.format f.signature_len f.epochs s contents in
    beside_fits k s.document (pieces_of (heeded f s))
    (record { fit = contents_fit k f.signature_len same (heeded f s) some; few = few_messages k.format f.signature_len (heeded f s) some })
sections_fit k arts f signer bytes fits are format same (Err e) is = none_fit k

-- pieces that are handled where the reply is fresh fit
pub where_fits : (k : Sizes) (pieces : List Piece) (reply : LinkReply) → FewFit k pieces → FewFit k (pieces_where reply pieces)
where_fits k pieces replies.Fresh h = h
where_fits k pieces replies.TooLong h = none_fit k
where_fits k pieces (replies.Short short) h = none_fit k
where_fits k pieces replies.Magic h = none_fit k
where_fits k pieces replies.Version h = none_fit k
where_fits k pieces replies.NotForMe h = none_fit k
where_fits k pieces replies.BadTag h = none_fit k
where_fits k pieces (replies.Learned boot) h = none_fit k
where_fits k pieces (replies.Stale boot counter) h = none_fit k
where_fits k pieces (replies.OtherTopology theirs) h = none_fit k
where_fits k pieces (replies.Section refused) h = none_fit k
where_fits k pieces replies.Withdrawn h = none_fit k

-- ---- what is new has its fields in their ranges

fit_pieces : (k : Sizes) (pieces : List Piece) → AllFit k pieces → AllKeep (λ o. HasGoodFieldsIn k.format o.body) pieces
fit_pieces k [] h = tt
fit_pieces k (piece ∷ pieces) h = (one piece h.0, fit_pieces k pieces h.1)
  where
    one : (p : Piece) → PieceFits k p → PieceKeeps (λ o. HasGoodFieldsIn k.format o.body) p
    one (WeightPiece o) h = h.fields
    one (PrioAckPiece number) h = tt
    one (PrioPiece number o) h = h.1.fields
    one (ReportPiece kind flow sboot dboot base have) h = tt
    one (AckPiece kind flow o) h = h.0.fields
    one (RelPiece kind flow o) h = h.0.fields
    one (EpochPiece o) h = h.fields

-- in a step, too
pub step_fields : (k : Sizes) (arts : Arts) (n : NodeState) (v : NodeId) (bytes : List ℕ) → ArtsFit arts n.fixed n.signer → AreBytes bytes → NodeHolds k n
    → AllKeep (λ o. HasGoodFieldsIn k.format o.body) (pieces_where (reply_at arts n v bytes) (pieces_in n.fixed (sections_in arts n.fixed bytes)))
step_fields k arts n v bytes fits are h =
    fit_pieces k _ (where_fits k (pieces_in n.fixed (sections_in arts n.fixed bytes)) (reply_at arts n v bytes)
    (sections_fit k arts n.fixed n.signer bytes fits are h.fixed.format h.fixed.signature_len (sections_in arts n.fixed bytes) refl)).fit
