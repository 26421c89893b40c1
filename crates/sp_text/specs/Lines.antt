-- The lines of a text: each ends with a newline, and what stands after the last newline is no line.
use Rattle.std.specs.Prelude.{ℕ, ◌≡◌, ◌≢◌, List, ◌∷◌, ◌++◌, All}

-- no byte is a newline
abbrev pub IsInOneLine : List ℕ → Type 0
IsInOneLine bytes = All (λ b. b ≢ 10) bytes

-- the text is this line, its newline, and the rest
pub record BeginsWithLine (text line rest : List ℕ) : Type 0 where
  pub split : text ≡ line ++ 10 ∷ rest
  pub one_line : IsInOneLine line
