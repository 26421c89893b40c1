-- The first line of a recording and its end line.
--
--     recording 1 BOOT INDEX BOUND      end turns T lost N
use Rattle.std.specs.Prelude.{ℕ, ◌≤◌, ◌<◌, ◌-◌, ◌^◌, nat_le, List, [], ◌∷◌, Result, Ok, Err, codes, if◌then◌else◌}
use Rattle.sp_base.specs.Refusals.{◌>>=◌}
use Rattle.sp_text.specs.Spelling.{Word}
use Rattle.sp_lines.specs.Cells.{Cell, Name, Number}
use Rattle.sp_lines.specs.Rows.{Values, line_of}
use Rattle.sp_lines.specs.declared.fault.Fault.{Fault}
use Rattle.sp_lines.specs.declared.fault.Fault.TheVariants as faults
use Rattle.sp_recording.specs.declared.line.TheConstants.{MAX_BOOT, MAX_TURNS}
use Rattle.sp_recording.specs.declared.line.Closing.{Closing}
use Rattle.sp_recording.specs.declared.line.Opening.{Opening}

-- ---- the first line

abbrev pub opening_cells : ℕ → List Cell
opening_cells total = Name (codes "recording") ∷ Name (codes "1") ∷ Number 1 MAX_BOOT ∷ Number 0 total ∷ Number 0 total ∷ []

-- the values of the first line
abbrev pub opening_values : (total : ℕ) → Opening → Values (opening_cells total)
opening_values total o = (o.boot, (o.index, (o.bound, tt)))

-- what the values of the first line say
abbrev pub opening_of : (total : ℕ) → Values (opening_cells total) → Opening
opening_of total x = record { boot = x.0; index = x.1.0; bound = x.1.1.0 }

-- the opening, if its index isn't above its bound
abbrev pub if_ordered : Opening → Result Opening Fault
if_ordered o = if nat_le o.index o.bound then Ok o else Err faults.Range

-- the first line of these words
abbrev pub read_opening : ℕ → List Word → Result Opening Fault
read_opening total words = line_of (opening_cells total) words >>= λ x. if_ordered (opening_of total x)

-- the number of the start is in its range, and the first index is at most the bound, which is at most the number of all
pub record IsOpening (total : ℕ) (o : Opening) : Type 0 where
  pub boot : (1 ≤ o.boot) × (o.boot ≤ MAX_BOOT)
  pub index : o.index ≤ o.bound
  pub bound : o.bound ≤ total

-- ---- the end line

-- the end line
abbrev pub closing_cells : List Cell
closing_cells = Name (codes "end") ∷ Name (codes "turns") ∷ Number 1 MAX_TURNS ∷ Name (codes "lost") ∷ Number 0 (2 ^ 32 - 1) ∷ []

-- the values of the end line
abbrev pub closing_values : Closing → Values closing_cells
closing_values c = (c.turns, (c.lost, tt))

-- what the values of the end line say
abbrev pub closing_of : Values closing_cells → Closing
closing_of x = record { turns = x.0; lost = x.1.0 }

-- the end line of these words
abbrev pub read_closing : List Word → Result Closing Fault
read_closing words = line_of closing_cells words >>= λ x. Ok (closing_of x)

-- both counts are in their ranges
pub record IsClosing (c : Closing) : Type 0 where
  pub turns : (1 ≤ c.turns) × (c.turns ≤ MAX_TURNS)
  pub lost : c.lost < 2 ^ 32
