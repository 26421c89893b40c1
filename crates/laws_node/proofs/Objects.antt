-- Each piece with an object answers it once.
use Rattle.std.proofs.Common.{◌≡◌, List, [], ◌∷◌, ◌++◌, map, refl, ap, ◌∙◌}
use Rattle.sp_msg.specs.declared.kept.Kept.{Kept}
use Rattle.sp_rules.specs.Arts.{Arts}
use Rattle.sp_rules.specs.Handle.{Arrival, handle, handle_all}
use Rattle.sp_rules.specs.Parts.{Parts}
use Rattle.sp_rules.specs.Pieces.{Piece, WeightPiece, PrioAckPiece, PrioPiece, ReportPiece, AckPiece, RelPiece, EpochPiece}
use Rattle.sp_rules.specs.declared.answers.Item.{Item}
use Rattle.laws_node.specs.Objects.{ObjectsAreAnswered, objects_of}

pub map_both : {X Y : Type 0} (f : X → Y) (xs ys : List X) → map f (xs ++ ys) ≡ map f xs ++ map f ys
map_both f [] ys = refl
map_both {X} {Y} f (x ∷ xs) ys = ap (λ (zs : List Y). f x ∷ zs) (map_both f xs ys)

abbrev firsts : List (Kept × Item) → List Kept
firsts answered = map (λ a. a.0) answered

one : (arts : Arts) (at : Arrival) (p : Parts) (piece : Piece) → firsts (handle arts at p piece).answered ≡ objects_of piece
one arts at p (WeightPiece o) = refl
one arts at p (PrioAckPiece number) = refl
one arts at p (PrioPiece number o) = refl
one arts at p (ReportPiece kind flow sboot dboot base have) = refl
one arts at p (AckPiece kind flow o) = refl
one arts at p (RelPiece kind flow o) = refl
one arts at p (EpochPiece o) = refl

pub objects_are_answered : ObjectsAreAnswered
objects_are_answered arts at p [] = refl
objects_are_answered arts at p (piece ∷ pieces) =
    let first = handle arts at p piece in
    let others = handle_all arts at first.parts pieces in
    map_both (λ a. a.0) first.answered others.answered
    ∙ (ap (λ (os : List Kept). os ++ firsts others.answered) (one arts at p piece)
    ∙ ap (λ (os : List Kept). objects_of piece ++ os) (objects_are_answered arts at first.parts pieces))
