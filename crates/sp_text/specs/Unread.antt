-- A text of which some lines were given, and a line with its number.
use Rattle.std.specs.Prelude.{ℕ, List}

-- how many lines were given, and what comes after them
pub record Unread : Type 0 where
  pub given : ℕ
  pub rest : List ℕ

-- a line as it stands in a text: its number, and its bytes without the newline
pub record LineText : Type 0 where
  pub number : ℕ
  pub bytes : List ℕ
