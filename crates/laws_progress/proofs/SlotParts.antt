-- What a slot of a flow has in a frame, and that it is among what the frame has.
use Rattle.laws_progress.proofs.Standing.{same_flow}
use Rattle.std.proofs.Common.{◌≡◌, ℕ, true, List, [], ◌∷◌, ◌++◌, map, Option, Some, None, option_map}
use Rattle.std.proofs.Common.{sym, ap, subst, ◌∙◌}
use Rattle.sp_base.specs.declared.id.Flow.{Flow}
use Rattle.sp_base.specs.declared.id.NodeId.{NodeId}
use Rattle.sp_frame.specs.Reliable.{Report}
use Rattle.sp_frame.specs.Sections.{Contents}
use Rattle.sp_frame.specs.Views.{as_list}
use Rattle.sp_msg.specs.declared.kept.Kept.{Kept}
use Rattle.sp_rules.specs.Pieces.{AckPiece, EpochPiece, Piece, PrioAckPiece, RelPiece, WeightPiece, pieces_of, prio_piece, slot_pieces}
use Rattle.sp_rules.specs.Polls.{dated}
use Rattle.sp_rules.specs.Rel.{RelState, next_flow, slot_for, slot_of}
use Rattle.sp_rules.specs.declared.lives.Life.{Life}
use Rattle.laws_node.specs.Flows.{RelHolds}
use Rattle.laws_node.specs.Sizes.{Sizes}
use Rattle.laws_node.proofs.Carried.{AllKeep}
use Rattle.laws_runs.proofs.Acks.{RelAck}
use Rattle.sp_rules.specs.declared.kflow.FlowKind.TheVariants.{Plain, Paths}
use Rattle.laws_progress.proofs.Makes.{SlotAck, SlotMade, SlotRel, slot_dated, slot_made}
use Rattle.laws_progress.proofs.Wires.{is_mine}
use Rattle.sp_rules.specs.declared.kflow.FlowKind.{FlowKind}
use Rattle.laws_progress.proofs.EitherKind.{slot_of_kind}
use Rattle.laws_progress.proofs.Makes.{sent_over}

-- ---- what a slot of the flow has

-- where it is a slot of this flow
pub slot_parts : (kind : FlowKind) (edge low high : ℕ) (k : Sizes) (index : ℕ) (r : RelState) (v : NodeId) (format : ℕ) (ls : List Life) (flow : Flow)
    (t : Report)
    → RelHolds kind k index r → RelAck r → option_map (dated format ls) (option_map (sent_over kind edge) (slot_for r v)) ≡ Some t → is_mine flow t.flow ≡ true
    → (t.flow ≡ flow) × SlotAck kind flow t.base t.ack × SlotRel kind flow edge t.rels
slot_parts kind edge low high k index r v format ls flow t h acks is mine = go (next_flow r v) is
  where
    go : (o : Option Flow) → option_map (dated format ls) (option_map (sent_over kind edge) (option_map (slot_of r v) o)) ≡ Some t
        → (t.flow ≡ flow) × SlotAck kind flow t.base t.ack × SlotRel kind flow edge t.rels
    go None e = absurd (let f : None ≡ Some t = e in cc)
    go (Some fl) e =
        let f : Some (dated format ls (sent_over kind edge (slot_of r v fl))) ≡ Some t = e in
        let same : dated format ls (sent_over kind edge (slot_of r v fl)) ≡ t = cc in
        let its : fl ≡ flow = same_flow flow fl (ap (λ (z : Report). is_mine flow z.flow) same ∙ mine) in
        let s : SlotMade kind flow edge low high r v (sent_over kind edge (slot_of r v fl)) =
        subst (λ g. SlotMade kind flow edge low high r v (sent_over kind edge (slot_of r v g))) (sym its) (slot_made kind edge low high k index r v flow h acks)
        in (
          ap (λ (z : Report). z.flow) (sym same) ∙ its,
          subst (λ (z : Report). SlotAck kind flow z.base z.ack) same s.ack,
          subst (λ (z : Report). SlotRel kind flow edge z.rels) same (slot_dated kind flow edge format ls (sent_over kind edge (slot_of r v fl)) s.rels),
        )

pub keep_right : (P : Kept → Type 0) (xs ys : List Piece) → AllKeep P (xs ++ ys) → AllKeep P ys
keep_right P [] ys h = h
keep_right P (x ∷ xs) ys h = keep_right P xs ys h.1

keep_left : (P : Kept → Type 0) (xs ys : List Piece) → AllKeep P (xs ++ ys) → AllKeep P xs
keep_left P [] ys h = tt
keep_left P (x ∷ xs) ys h = (h.0, keep_left P xs ys h.1)

-- the slot of a kind
pub slot_keeps : (kind : FlowKind) (P : Kept → Type 0) (s : Contents) → AllKeep P (pieces_of s) → AllKeep P (slot_pieces kind (slot_of_kind kind s))
slot_keeps kind P s h =
    let plain = slot_pieces Plain s.slot in
    let rest = slot_pieces Paths s.paths ++ map EpochPiece (as_list s.epoch) in
    let later = keep_right P (map WeightPiece s.weights) (PrioAckPiece s.prio_ack ∷ (map prio_piece s.prios ++ (plain ++ rest))) h in
    let slots = keep_right P (map prio_piece s.prios) (plain ++ rest) later.1 in
    of_kind kind slots
  where
    of_kind : (k : FlowKind)
        → AllKeep P (slot_pieces Plain s.slot ++ (slot_pieces Paths s.paths ++ map EpochPiece (as_list s.epoch))) → AllKeep P (slot_pieces k (slot_of_kind k s))
    of_kind Plain slots = keep_left P (slot_pieces Plain s.slot) (slot_pieces Paths s.paths ++ map EpochPiece (as_list s.epoch)) slots
    of_kind Paths slots =
        keep_left P (slot_pieces Paths s.paths) (map EpochPiece (as_list s.epoch))
        (keep_right P (slot_pieces Plain s.slot) (slot_pieces Paths s.paths ++ map EpochPiece (as_list s.epoch)) slots)

-- its acknowledgement
pub ack_keeps : (kind : FlowKind) (P : Kept → Type 0) (flow : Flow) (a : Option Kept) (ys : List Piece) → AllKeep P (map (AckPiece kind flow) (as_list a) ++ ys)
    → (o : Kept)
    → a ≡ Some o → P o
ack_keeps kind P flow None ys h o e = absurd (let f : None ≡ Some o = e in cc)
ack_keeps kind P flow (Some b) ys h o e = let same : b ≡ o = cc in subst P same h.0

-- its first message
pub rel_keeps : (kind : FlowKind) (P : Kept → Type 0) (flow : Flow) (rs : List Kept) → AllKeep P (map (RelPiece kind flow) rs) → (o : Kept) (os : List Kept)
    → rs ≡ o ∷ os → P o
rel_keeps kind P flow rs h o os e = (subst (λ (zs : List Kept). AllKeep P (map (RelPiece kind flow) zs)) e h).0
