-- A text begins with one line at most.
use Rattle.std.proofs.Common.{◌≡◌, ◌≢◌, ℕ, ◌+◌, ◌==◌, false, List, ◌∷◌, ◌++◌, length, refl, sym, ap, ◌∙◌, arith}
use Rattle.std.specs.List.{slice_split}
use Rattle.std.proofs.lemmas.Bool.{ne_eqb}
use Rattle.std.proofs.lemmas.List.{append_cancel_left, get_or_at, length-append}
use Rattle.std.proofs.lemmas.List.Elements.{All-weaker}
use Rattle.std.proofs.lemmas.List.Splits.{slice_split_at}
use Rattle.sp_text.specs.Lines.{BeginsWithLine, IsInOneLine}

-- the first part between newlines is the line
split_after : (text line rest : List ℕ) → BeginsWithLine text line rest → slice_split (λ b. b == 10) text ≡ line ∷ slice_split (λ b. b == 10) rest
split_after text line rest begins =
    let apart = All-weaker (λ (b : ℕ). b ≢ 10) (λ b. (b == 10) ≡ false) (λ b differs. ne_eqb b 10 differs) line begins.one_line in
    rw begins.split (slice_split_at (λ b. b == 10) line 10 rest apart refl)

-- the line and what comes after it are told by the text
pub BeginsWithLine_unique : (text a b x y : List ℕ) → BeginsWithLine text a x → BeginsWithLine text b y → (a ≡ b) × (x ≡ y)
BeginsWithLine_unique text a b x y one other =
    let same : a ≡ b = cc (split_after text a x one, split_after text b y other) in
    let rests : a ++ 10 ∷ x ≡ a ++ 10 ∷ y = sym one.split ∙ other.split ∙ ap (λ (l : List ℕ). l ++ 10 ∷ y) (sym same) in
    (same, cc (append_cancel_left a (10 ∷ x) (10 ∷ y) rests))

-- a text without a newline begins with no line
pub one_line_begins_none : (text line rest : List ℕ) → IsInOneLine text → ¬ (BeginsWithLine text line rest)
one_line_begins_none text line rest whole begins =
    let long : length text ≡ length line + length (10 ∷ rest) = ap length begins.split ∙ length-append line (10 ∷ rest) in
    whole (length line) 0 (omega arith) (rw begins.split (get_or_at line 10 rest 0 (length line) refl))
