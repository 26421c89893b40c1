-- The objects of a frame are those that are answered, in order.
use Rattle.std.specs.Prelude.{◌≡◌, List, [], ◌∷◌, ◌++◌, map}
use Rattle.sp_msg.specs.declared.kept.Kept.{Kept}
use Rattle.sp_rules.specs.Arts.{Arts}
use Rattle.sp_rules.specs.Handle.{Arrival, handle_all}
use Rattle.sp_rules.specs.Parts.{Parts}
use Rattle.sp_rules.specs.Pieces.{Piece, WeightPiece, PrioAckPiece, PrioPiece, ReportPiece, AckPiece, RelPiece, EpochPiece}

-- the object of a piece, where it has one
abbrev pub objects_of : Piece → List Kept
objects_of (WeightPiece o) = o ∷ []
objects_of (PrioAckPiece number) = []
objects_of (PrioPiece number o) = o ∷ []
objects_of (ReportPiece kind flow sboot dboot base have) = []
objects_of (AckPiece kind flow o) = o ∷ []
objects_of (RelPiece kind flow o) = o ∷ []
objects_of (EpochPiece o) = o ∷ []

-- the objects of pieces, in their order
abbrev pub objects_in : List Piece → List Kept
objects_in [] = []
objects_in (piece ∷ pieces) = objects_of piece ++ objects_in pieces

-- of whatever arrives, and whatever it meets
abbrev pub ObjectsAreAnswered : Type 0
ObjectsAreAnswered = (arts : Arts) (at : Arrival) (p : Parts) (pieces : List Piece) → map (λ a. a.0) (handle_all arts at p pieces).answered ≡ objects_in pieces
