-- How long the line of a row is at most, and which rows have lines that can be read.
use Rattle.std.specs.Prelude.{ℕ, ◌+◌, ◌*◌, ◌&&◌, ◌^◌, nat_le, nat_lt, Bool, true, List, [], ◌∷◌, length}
use Rattle.std.specs.List.{list_all}
use Rattle.sp_base.specs.Formats.{by_format}
use Rattle.sp_text.specs.Texts.{is_word_byte}
use Rattle.sp_base.specs.declared.limits.TheConstants.{MAX_LINE_BYTES}
use Rattle.sp_lines.specs.Cells.{Bytes, Cell, Mask, Name, Number, Numbers, Tested}

-- the most bytes of a place, and one of what stands after it
abbrev pub width : Cell → ℕ
width (Name w) = length w + 1
width (Number low high) = 21
width (Tested low high test) = 21
width (Bytes low high) = high * 2 + 2
width (Mask format) = by_format format 33 65
width (Numbers count high) = count * 21 + 5

-- the most bytes of a line with its newline
abbrev pub widths : List Cell → ℕ
widths [] = 0
widths (c ∷ cs) = width c + widths cs

-- a name is a word, and a number has room in 64 bits
abbrev pub is_good_cell : Cell → Bool
is_good_cell (Name w) = nat_le 1 (length w) && list_all is_word_byte w
is_good_cell (Number low high) = nat_lt high (2 ^ 64)
is_good_cell (Tested low high test) = nat_lt high (2 ^ 64)
is_good_cell (Numbers count high) = nat_lt high (2 ^ 64)
is_good_cell _ = true

-- all places are good, there is one, and the line isn't too long
abbrev pub is_good_row : List Cell → Bool
is_good_row cs = nat_le 1 (length cs) && list_all is_good_cell cs && nat_le (widths cs) (MAX_LINE_BYTES + 1)
