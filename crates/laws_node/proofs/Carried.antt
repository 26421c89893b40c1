-- What a poll carries is kept by the node, so all holds of it that is asked of messages that are kept.
use Rattle.std.proofs.Common.{ℕ, zero, suc, take, ◌-◌, nat_lt, max, List, [], ◌∷◌, ◌++◌, map, drop, Option, Some, None}
use Rattle.std.specs.Prelude.{IfSome}
use Rattle.std.specs.List.{All, slice_get}
use Rattle.std.specs.Option.{option_and_then, option_map}
use Rattle.std.proofs.lemmas.List.Elements.{All-head, All-tail, All-take}
use Rattle.sp_base.specs.Formats.{max_rels}
use Rattle.sp_base.specs.declared.id.NodeId.{NodeId}
use Rattle.sp_base.specs.declared.limits.TheConstants.{MAX_MESSAGES}
use Rattle.sp_frame.specs.Reliable.{Report}
use Rattle.sp_frame.specs.Views.{as_list}
use Rattle.sp_msg.specs.declared.kept.Kept.{Kept}
use Rattle.sp_rules.specs.Arts.{Arts}
use Rattle.sp_rules.specs.Flow.{FlowState, ends}
use Rattle.sp_rules.specs.Handle.{Arrival, handle, handle_all}
use Rattle.sp_rules.specs.Node.{NodeState}
use Rattle.sp_rules.specs.Kflow as kflow
use Rattle.sp_rules.specs.Kflow.{KState, first_over, goes_over}
use Rattle.sp_rules.specs.Parts.{Parts, is_first, place_of}
use Rattle.sp_rules.specs.Pieces.{Piece, WeightPiece, PrioAckPiece, PrioPiece, ReportPiece, AckPiece, RelPiece, EpochPiece, pieces_of, prio_piece, slot_pieces}
use Rattle.sp_rules.specs.Polls.{as_message, contents_to, dated}
use Rattle.sp_rules.specs.Prio.{is_peer, no_peer, peer_in}
use Rattle.sp_rules.specs.PrioPeer as rows
use Rattle.sp_rules.specs.PrioPeer.{PrioPeer}
use Rattle.sp_rules.specs.Rel.{RelState, flow_at, flow_in, is_to, messages_after, next_place, peer_in as rel_peer_in, slot_for, slot_of, view_in}
use Rattle.sp_rules.specs.Weights.{WeightState, held_in, next, next_row}
use Rattle.sp_rules.specs.declared.kflow.FlowKind.{FlowKind}
use Rattle.sp_rules.specs.declared.kflow.FlowKind.TheVariants.{Plain, Paths}
use Rattle.sp_rules.specs.declared.lives.Life.{Life}
use Rattle.sp_rules.specs.declared.store.Entry.{Entry}
use Rattle.laws_node.specs.Flows.{AckKept, FlowHolds, RelHolds}
use Rattle.laws_node.specs.Nodes.{NodeHolds}
use Rattle.laws_node.specs.Sizes.{Fits, Sizes, numbers_after}
use Rattle.laws_node.specs.Stores.{PrioPeerHolds}
use Rattle.laws_node.specs.Updates.{UpdateHolds, WeightsHold}
use Rattle.laws_node.specs.Asked.{NewKeep}
use Rattle.laws_node.proofs.AskedLemmas.{new_both}
use Rattle.laws_node.proofs.Flight.{Flies, flight_holds}
use Rattle.laws_node.proofs.Frames.{get_holds}
use Rattle.laws_node.proofs.HeldBoots.{next_is_held}
use Rattle.laws_node.proofs.Priority.{no_peer_holds, row_carried_holds}
use Rattle.laws_node.proofs.Reliable.{read}
use Rattle.laws_node.proofs.Tables.{all_drop_first, all_first, cond_either}

-- ---- pieces

-- the object of a piece, where it has one
abbrev pub PieceKeeps : (Kept → Type 0) → Piece → Type 0
PieceKeeps P (WeightPiece o) = P o
PieceKeeps P (PrioAckPiece number) = Unit {0}
PieceKeeps P (PrioPiece number o) = P o
PieceKeeps P (ReportPiece kind flow sboot dboot base have) = Unit {0}
PieceKeeps P (AckPiece kind flow o) = P o
PieceKeeps P (RelPiece kind flow o) = P o
PieceKeeps P (EpochPiece o) = P o

-- the objects of all pieces
abbrev pub AllKeep : (Kept → Type 0) → List Piece → Type 0
AllKeep P [] = Unit {0}
AllKeep P (piece ∷ pieces) = PieceKeeps P piece × AllKeep P pieces

all_both : (P : Kept → Type 0) (xs ys : List Piece) → AllKeep P xs → AllKeep P ys → AllKeep P (xs ++ ys)
all_both P [] ys one two = two
all_both P (x ∷ xs) ys one two = (one.0, all_both P xs ys one.1 two)

-- what holds of all objects of pieces may be weakened
pub all_less : (P Q : Kept → Type 0) → ((o : Kept) → P o → Q o) → (pieces : List Piece) → AllKeep P pieces → AllKeep Q pieces
all_less P Q less [] h = tt
all_less P Q less (piece ∷ pieces) h = (one piece h.0, all_less P Q less pieces h.1)
  where
    one : (p : Piece) → PieceKeeps P p → PieceKeeps Q p
    one (WeightPiece o) h = less o h
    one (PrioAckPiece number) h = tt
    one (PrioPiece number o) h = less o h
    one (ReportPiece kind flow sboot dboot base have) h = tt
    one (AckPiece kind flow o) h = less o h
    one (RelPiece kind flow o) h = less o h
    one (EpochPiece o) h = less o h

-- what is answered is an object of the pieces
piece_new : (P : Kept → Type 0) (arts : Arts) (at : Arrival) (p : Parts) (piece : Piece) → PieceKeeps P piece → NewKeep P (handle arts at p piece).answered
piece_new P arts at p (WeightPiece o) h = (λ new. h, tt)
piece_new P arts at p (PrioAckPiece number) h = tt
piece_new P arts at p (PrioPiece number o) h = (λ new. h, tt)
piece_new P arts at p (ReportPiece kind flow sboot dboot base have) h = tt
piece_new P arts at p (AckPiece kind flow o) h = (λ new. h, tt)
piece_new P arts at p (RelPiece kind flow o) h = (λ new. h, tt)
piece_new P arts at p (EpochPiece o) h = (λ new. h, tt)

-- what holds of all objects of pieces holds of those that were answered as new
pub pieces_new : (P : Kept → Type 0) (arts : Arts) (at : Arrival) (p : Parts) (pieces : List Piece) → AllKeep P pieces
    → NewKeep P (handle_all arts at p pieces).answered
pieces_new P arts at p [] h = tt
pieces_new P arts at p (piece ∷ pieces) h =
    let done = handle arts at p piece in
    new_both P done.answered (handle_all arts at done.parts pieces).answered (piece_new P arts at p piece h.0) (pieces_new P arts at done.parts pieces h.1)

-- ---- what a node keeps

module _ (k : Sizes) where
  listed : (one : Kept → Piece) → ((o : Kept) → Fits k o → PieceKeeps k.keeps (one o)) → (os : List Kept) → All (Fits k) os → AllKeep k.keeps (map one os)
  listed one is [] all = tt
  listed one is (o ∷ os) all = (is o (All-head (Fits k) o os all), listed one is os (All-tail (Fits k) o os all))

  maybe : (one : Kept → Piece) → ((o : Kept) → Fits k o → PieceKeeps k.keeps (one o)) → (o : Option Kept) → IfSome o (Fits k)
      → AllKeep k.keeps (map one (as_list o))
  maybe one is None h = tt
  maybe one is (Some o) h = (is o h, tt)

  weight_kept : (index v : ℕ) (w : WeightState) → WeightsHold k index w → IfSome (next w v) (Fits k)
  weight_kept index v w h = go (next_row w v)
    where
      held : (row : ℕ) (o : Option Kept) → IfSome o (UpdateHolds k index row) → IfSome o (Fits k)
      held row None is = tt
      held row (Some o) is = is.fits

      go : (row : Option ℕ) → IfSome (option_and_then (held_in w.rows) row) (Fits k)
      go None = tt
      go (Some row) = held row (held_in w.rows row) (h.rows row)

  messages_listed : (last most : ℕ) (ms : List (ℕ × Entry)) → All (Flies k last most) ms → AllKeep k.keeps (map prio_piece (map as_message ms))
  messages_listed last most [] all = tt
  messages_listed last most (m ∷ ms) all =
      ((All-head (Flies k last most) m ms all).entry.fits.holds, messages_listed last most ms (All-tail (Flies k last most) m ms all))

  messages_kept : (numbers ids : ℕ) (q : PrioPeer) → PrioPeerHolds k numbers ids q → AllKeep k.keeps (map prio_piece (map as_message (rows.next_prios q)))
  messages_kept numbers ids q h =
      messages_listed (rows.carried q).store.last (rows.carried q).number (rows.next_prios q)
      (flight_holds k _ ids (rows.carried q) (row_carried_holds k numbers ids q h))

  ack_kept : (kind : FlowKind) (f : FlowState) (o : Option Kept) → IfSome o (AckKept kind k (ends f)) → IfSome o (Fits k)
  ack_kept kind f None h = tt
  ack_kept kind f (Some o) h = h.fits

  slot_of_kept : (kind : FlowKind) (index : ℕ) (r : RelState) (v : NodeId) (row : FlowState) → RelHolds kind k index r → FlowHolds kind k index row
      → AllKeep k.keeps (slot_pieces kind (Some (slot_of r v (ends row))))
  slot_of_kept kind index r v row h there =
      let flow = ends row in
      let f = flow_in r.flows flow in
      let w = view_in (rel_peer_in r.peers v).views flow in
      let holds = read kind k index r.flows flow there.src there.dst h.flows in (
        tt,
        all_both k.keeps (map (AckPiece kind flow) (as_list (slot_of r v flow).ack)) (map (RelPiece kind flow) (slot_of r v flow).rels)
            (maybe (AckPiece kind flow) (λ o fits. fits.holds) (slot_of r v flow).ack
            (cond_either (λ o. IfSome o (Fits k)) (nat_lt w.base f.at.base) f.ack None (ack_kept kind f f.ack holds.ack) tt))
            (cond_either (λ (os : List Kept). AllKeep k.keeps (map (RelPiece kind flow) os)) (is_to r flow) [] (messages_after f.at (max w.have f.at.base)) tt
            (listed (RelPiece kind flow) (λ o fits. fits.holds) (messages_after f.at (max w.have f.at.base))
            (All-take (Fits k) MAX_MESSAGES (drop (max w.have f.at.base - f.at.base) f.at.list)
            (all_drop_first (Fits k) (max w.have f.at.base - f.at.base) f.at.list holds.messages)))),
      )

  slot_kept : (kind : FlowKind) (index : ℕ) (r : RelState) (v : NodeId) → RelHolds kind k index r → AllKeep k.keeps (slot_pieces kind (slot_for r v))
  slot_kept kind index r v h = go (next_place r v)
    where
      at : (o : Option FlowState) → IfSome o (FlowHolds kind k index) → AllKeep k.keeps (slot_pieces kind (option_map (slot_of r v) (option_map ends o)))
      at None there = tt
      at (Some f) there = slot_of_kept kind index r v f h there

      go : (place : Option ℕ) → AllKeep k.keeps (slot_pieces kind (option_map (slot_of r v) (option_and_then (flow_at r.flows) place)))
      go None = tt
      go (Some place) = at (slice_get r.flows place) (get_holds (FlowHolds kind k index) r.flows place h.flows)

  -- the first of many
  first_kept : (one : Kept → Piece) (count : ℕ) (os : List Kept) → AllKeep k.keeps (map one os) → AllKeep k.keeps (map one (take count os))
  first_kept one zero os h = tt
  first_kept one (suc count) [] h = tt
  first_kept one (suc count) (o ∷ os) h = (h.0, first_kept one count os h.1)

  left_kept : (ps qs : List Piece) → AllKeep k.keeps (ps ++ qs) → AllKeep k.keeps ps
  left_kept [] qs h = tt
  left_kept (p ∷ ps) qs h = (h.0, left_kept ps qs h.1)

  right_kept : (ps qs : List Piece) → AllKeep k.keeps (ps ++ qs) → AllKeep k.keeps qs
  right_kept [] qs h = h
  right_kept (p ∷ ps) qs h = right_kept ps qs h.1

  dated_kept : (kind : FlowKind) (format : ℕ) (lives : List Life) (o : Option Report) → AllKeep k.keeps (slot_pieces kind o)
      → AllKeep k.keeps (slot_pieces kind (option_map (dated format lives) o))
  dated_kept kind format lives None h = tt
  dated_kept kind format lives (Some r) h = (
    tt,
    all_both k.keeps (map (AckPiece kind r.flow) (as_list r.ack)) (map (RelPiece kind r.flow) (take (max_rels format) r.rels))
        (left_kept (map (AckPiece kind r.flow) (as_list r.ack)) (map (RelPiece kind r.flow) r.rels) h.1)
        (first_kept (RelPiece kind r.flow) (max_rels format) r.rels
        (right_kept (map (AckPiece kind r.flow) (as_list r.ack)) (map (RelPiece kind r.flow) r.rels) h.1)),
  )

  -- the first of these, where it may go over the edge
  over_kept : (one : Kept → Piece) (edge : ℕ) (os : List Kept) → AllKeep k.keeps (map one os) → AllKeep k.keeps (map one (first_over edge os))
  over_kept one edge [] h = tt
  over_kept one edge (o ∷ os) h =
      cond_either (λ (xs : List Kept). AllKeep k.keeps (map one xs)) (goes_over edge o.body) (o ∷ []) [] (h.0, tt) tt

  -- the slot of flows on paths
  paths_kept : (index : ℕ) (f : KState) (v : NodeId) → RelHolds Paths k index f.flows → AllKeep k.keeps (slot_pieces Paths (kflow.slot_for f v))
  paths_kept index f v h = go (slot_for f.flows v) (slot_kept Paths index f.flows v h)
    where
      go : (o : Option Report) → AllKeep k.keeps (slot_pieces Paths o)
          → AllKeep k.keeps (slot_pieces Paths (option_map (kflow.over_edge (kflow.edge_to f v)) o))
      go None h = tt
      go (Some r) h = (
        tt,
        all_both k.keeps (map (AckPiece Paths r.flow) (as_list r.ack)) (map (RelPiece Paths r.flow) (first_over (kflow.edge_to f v) r.rels))
            (left_kept (map (AckPiece Paths r.flow) (as_list r.ack)) (map (RelPiece Paths r.flow) r.rels) h.1)
            (over_kept (RelPiece Paths r.flow) (kflow.edge_to f v) r.rels
            (right_kept (map (AckPiece Paths r.flow) (as_list r.ack)) (map (RelPiece Paths r.flow) r.rels) h.1)),
      )

  -- what it carries to a neighbour
  pub contents_kept : (n : NodeState) (v : NodeId) → NodeHolds k n → AllKeep k.keeps (pieces_of (contents_to n.fixed n.parts v))
  contents_kept n v h =
      let s = contents_to n.fixed n.parts v in
      let q = peer_in n.parts.prio v.0 in
      let epochs = map EpochPiece (as_list s.epoch) in
      all_both k.keeps (map WeightPiece s.weights) (PrioAckPiece s.prio_ack ∷
      (map prio_piece s.prios ++ (slot_pieces Plain s.slot ++ (slot_pieces Paths s.paths ++ epochs))))
      (maybe WeightPiece (λ o fits. fits.holds) (next n.parts.weights (place_of n.fixed v))
      (weight_kept n.signer.index (place_of n.fixed v) n.parts.weights h.parts.weights)) (
        tt,
        all_both k.keeps (map prio_piece s.prios) (slot_pieces Plain s.slot ++ (slot_pieces Paths s.paths ++ epochs))
            (messages_kept (numbers_after n.calls) _ q (all_first (PrioPeerHolds k (numbers_after n.calls) _) (is_peer v.0) no_peer n.parts.prio.peers
            h.parts.prio.peers (no_peer_holds k (numbers_after n.calls) _)))
            (all_both k.keeps (slot_pieces Plain s.slot) (slot_pieces Paths s.paths ++ epochs)
            (dated_kept Plain n.fixed.topology.format n.parts.lives (slot_for n.parts.rel v) (slot_kept Plain n.signer.index n.parts.rel v h.parts.rel))
            (all_both k.keeps (slot_pieces Paths s.paths) epochs
            (cond_either (λ (o : Option Report). AllKeep k.keeps (slot_pieces Paths o)) (is_first n.fixed) None
            (option_map (dated n.fixed.topology.format n.parts.lives) (kflow.slot_for n.parts.kflow v)) tt
            (dated_kept Paths n.fixed.topology.format n.parts.lives (kflow.slot_for n.parts.kflow v)
            (paths_kept n.signer.index n.parts.kflow v h.parts.kflow)))
            (maybe EpochPiece (λ o fits. fits.holds) s.epoch
            (next_is_held k (Fits k) n.parts.lives n.parts.origins (place_of n.fixed v) (λ u o is. is.fits) h.parts.lives)))),
      )
