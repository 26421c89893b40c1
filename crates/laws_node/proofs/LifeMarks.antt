-- A window that takes one mark after the other, and is emptied where another life begins, is that of the numbers since the last one began.
use Rattle.std.proofs.Common.{◌≡◌, ℕ, Bool, true, false, cond, List, [], ◌∷◌, Option, Some, None, refl, ◌∙◌}
use Rattle.std.specs.Prelude.{fold}
use Rattle.sp_rules.specs.Window.{window_of, with_mark}
use Rattle.laws_node.specs.Lives.{begins_anew, marked_since}

-- a window after a number was marked; empty where another life began
abbrev pub mark_on : List ℕ → Option ℕ → List ℕ
mark_on window (Some number) = with_mark window number
mark_on window None = []

-- it is that of the numbers since the last life began, on this one where none did
abbrev since : List ℕ → List (Option ℕ) → List ℕ
since window marks = cond (begins_anew marks) (window_of (marked_since marks)) (fold with_mark window (marked_since marks))

window_since : (window : List ℕ) (marks : List (Option ℕ)) → fold mark_on window marks ≡ since window marks
window_since window [] = refl
window_since window (None ∷ marks) = window_since [] marks ∙ anew (begins_anew marks)
  where
    anew : (t : Bool) → cond t (window_of (marked_since marks)) (fold with_mark [] (marked_since marks)) ≡ window_of (marked_since marks)
    anew true = refl
    anew false = refl
window_since window (Some number ∷ marks) = window_since (with_mark window number) marks ∙ go (begins_anew marks)
  where
    go : (t : Bool) → cond t (window_of (marked_since marks)) (fold with_mark (with_mark window number) (marked_since marks))
        ≡ cond t (window_of (cond t (marked_since marks) (number ∷ marked_since marks)))
        (fold with_mark window (cond t (marked_since marks) (number ∷ marked_since marks)))
    go true = refl
    go false = refl

pub from_empty : (marks : List (Option ℕ)) → fold mark_on [] marks ≡ window_of (marked_since marks)
from_empty marks = window_since [] marks ∙ same (begins_anew marks)
  where
    same : (t : Bool) → cond t (window_of (marked_since marks)) (fold with_mark [] (marked_since marks)) ≡ window_of (marked_since marks)
    same true = refl
    same false = refl
