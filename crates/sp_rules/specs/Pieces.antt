-- The sections of a frame as a list of pieces, in the order in which a node handles them:
--
--     weight updates | the acknowledged link number | priority messages | the plain slot | the slot on paths | the Epoch object
--
-- Each slot is the report on a flow, its acknowledgement, and its messages.
use Rattle.std.specs.Prelude.{ℕ, List, [], ◌∷◌, ◌++◌, map, Option, None, Some}
use Rattle.sp_base.specs.declared.id.Flow.{Flow}
use Rattle.sp_frame.specs.Reliable.{Report}
use Rattle.sp_frame.specs.Sections.{Contents}
use Rattle.sp_frame.specs.Views.{as_list}
use Rattle.sp_msg.specs.declared.kept.Kept.{Kept}
use Rattle.sp_rules.specs.declared.kflow.FlowKind.{FlowKind}
use Rattle.sp_rules.specs.declared.kflow.FlowKind.TheVariants as kinds

pub data Piece : Type 0 where
  WeightPiece : (object : Kept) → Piece
  -- the sender heard the priority messages of this node up to this link number
  PrioAckPiece : (number : ℕ) → Piece
  PrioPiece : (number : ℕ) (object : Kept) → Piece
  -- under the boots of the two ends
  ReportPiece : (kind : FlowKind) (flow : Flow) (sboot dboot base have : ℕ) → Piece
  AckPiece : (kind : FlowKind) (flow : Flow) (object : Kept) → Piece
  RelPiece : (kind : FlowKind) (flow : Flow) (object : Kept) → Piece
  EpochPiece : (object : Kept) → Piece

-- a priority message of a frame as a piece
abbrev pub prio_piece : ℕ × Kept → Piece
prio_piece message = PrioPiece message.0 message.1

-- a slot as pieces: the report, the acknowledgement, the messages
abbrev pub slot_pieces : FlowKind → Option Report → List Piece
slot_pieces kind None = []
slot_pieces kind (Some r) =
    ReportPiece kind r.flow r.sboot r.dboot r.base r.have ∷ (map (AckPiece kind r.flow) (as_list r.ack) ++ map (RelPiece kind r.flow) r.rels)

-- the sections of a frame as pieces, in their order
abbrev pub pieces_of : Contents → List Piece
pieces_of s =
    map WeightPiece s.weights
    ++ (PrioAckPiece s.prio_ack
    ∷ (map prio_piece s.prios ++ (slot_pieces kinds.Plain s.slot ++ (slot_pieces kinds.Paths s.paths ++ map EpochPiece (as_list s.epoch)))))
