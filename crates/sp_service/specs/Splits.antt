-- Where the recording begins in the input of a verification: at the first line that begins with `recording 1`. What stands before it is the
-- configuration. Where no line begins so, all of the input is the configuration.
use Rattle.std.specs.Prelude.{ℕ, ◌≡◌, ◌≤◌, ◌<◌, ◌+◌, ◌-◌, ◌==◌, ◌&&◌, ◌||◌, Bool, true, false, List, [], ◌∷◌, length, drop, slice_index, codes, if◌then◌else◌}
use Rattle.std.specs.List.{starts_with}

-- the first bytes of a recording
abbrev pub mark : List ℕ
mark = codes "recording 1"

-- whether a line begins at this place with the mark: it is the first line, or a newline stands before it
abbrev pub is_marked : List ℕ → ℕ → Bool
is_marked text place = ((place == 0) || (slice_index text (place - 1) == 10)) && starts_with (λ a b. a == b) (drop place text) mark

-- the place of the first line with the mark, or the end of the text
pub record IsSplit (text : List ℕ) (place : ℕ) : Type 0 where
  pub within : place ≤ length text
  pub before : (q : ℕ) → q < place → is_marked text q ≡ false
  pub here : place < length text → is_marked text place ≡ true

-- ---- lines

-- 1 where a line ends with this byte: it is a newline, or the last of the text
abbrev pub ends_line : ℕ → List ℕ → ℕ
ends_line b [] = 1
ends_line b (c ∷ cs) = if b == 10 then 1 else 0

-- how many lines a text has
abbrev pub line_count : List ℕ → ℕ
line_count [] = 0
line_count (b ∷ bs) = ends_line b bs + line_count bs
