-- Laws of rows and of the texts that are made of their lines.
use Rattle.std.specs.Prelude.{◌≡◌, ◌↔◌, List, Ok}
use Rattle.sp_text.specs.Spelling.{Word}
use Rattle.sp_lines.specs.Cells.{Cell}
use Rattle.sp_lines.specs.Rows.{AreIn, HaveRoom, Values, line_of, spelled}

-- words are read as values exactly where the values are in their ranges and the words spell them
abbrev pub RowsHaveOneSpelling : Type 0
RowsHaveOneSpelling = (cs : List Cell) (words : List Word) (xs : Values cs) → HaveRoom cs → (line_of cs words ≡ Ok xs) ↔ (AreIn cs xs × (words ≡ spelled cs xs))
