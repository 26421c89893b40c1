-- How many signatures may be checked for a frame: one for each object that may be new when its turn comes, and none else. What one object of each
-- kind costs stands with its kind.
use Rattle.std.specs.Prelude.{ℕ, ◌+◌, ◌||◌, Bool, false, List, [], ◌∷◌, map, option_map}
use Rattle.sp_frame.specs.Views.{as_numbered, as_object}
use Rattle.sp_frame.specs.declared.sections.Sections.{Sections}
use Rattle.sp_rules.specs.Handle as rules
use Rattle.sp_rules.specs.Parts.{Parts, flows_of}
use Rattle.sp_rules.specs.Pieces.{Piece, AckPiece, EpochPiece, PrioAckPiece, PrioPiece, RelPiece, ReportPiece, WeightPiece}
use Rattle.sp_node_arrivals.specs.Ack.{ack_checks, is_acked}
use Rattle.sp_node_arrivals.specs.Epoch.{epoch_checks}
use Rattle.sp_node_arrivals.specs.Prio.{prio_checks, prios_checks}
use Rattle.sp_node_arrivals.specs.Rel.{ground_of, is_followed, rel_checks}
use Rattle.sp_node_arrivals.specs.Signed.{of_some}
use Rattle.sp_node_arrivals.specs.Slot.{slot_checks}
use Rattle.sp_node_arrivals.specs.Weight.{weight_checks}

-- the checks for these pieces of a frame in their order, by the state before the frame, and by whether something new comes before them in their slot
abbrev pub checks_for : rules.Arrival → Parts → Bool → List Piece → ℕ
checks_for at p moved [] = 0
checks_for at p moved (WeightPiece o ∷ rest) = weight_checks at.fixed.me p.weights o + checks_for at p moved rest
checks_for at p moved (PrioAckPiece number ∷ rest) = checks_for at p moved rest
checks_for at p moved (PrioPiece number o ∷ rest) = prio_checks at p.lives p.prio o + checks_for at p moved rest
checks_for at p moved (ReportPiece kind flow sboot dboot base have ∷ rest) = checks_for at p false rest
checks_for at p moved (AckPiece kind flow o ∷ rest) =
    ack_checks p.lives (flows_of kind p) flow o + checks_for at p (is_acked at.fixed p.lives (flows_of kind p) flow o) rest
checks_for at p moved (RelPiece kind flow o ∷ rest) =
    rel_checks moved (ground_of at p) (flows_of kind p) flow o
    + checks_for at p (moved || is_followed moved (ground_of at p) (flows_of kind p) flow o) rest
checks_for at p moved (EpochPiece o ∷ rest) = epoch_checks at.fixed.me p.lives o + checks_for at p moved rest

-- the checks for a whole frame
abbrev pub frame_checks : rules.Arrival → Parts → List Piece → ℕ
frame_checks at p pieces = checks_for at p false pieces

-- the same of what was read of a frame, for the parts of this crate
abbrev pub section_checks : rules.Arrival → Parts → Sections → ℕ
section_checks at p sections =
    of_some (weight_checks at.fixed.me p.weights) (option_map as_object sections.weight)
    + prios_checks at p.lives p.prio (map as_numbered sections.prios)
    + of_some (slot_checks (ground_of at p) p.rel) sections.slot
    + of_some (slot_checks (ground_of at p) p.kflow.flows) sections.paths
    + of_some (epoch_checks at.fixed.me p.lives) (option_map as_object sections.epoch)
