-- The lines of a recording between the first and the end line, a row for each.
--
--     reserve UPTO                 stray PORT
--     tick NOW DIGEST              client PORT HEX DIGEST
--     overlay NODE HEX DIGEST      poll NODE DIGEST
--
-- What may stand in a row hangs on the number of indexes in all, on the neighbours, and on the bound that is held before the line.
use Rattle.std.specs.Prelude.{ℕ, ◌-◌, ◌^◌, ◌==◌, nat_lt, Bool, List, [], ◌∷◌, Option, Some, None, Result, Ok, Err, codes}
use Rattle.std.specs.List.{list_any}
use Rattle.sp_base.specs.Refusals.{◌>>=◌}
use Rattle.sp_base.specs.declared.limits.TheConstants.{MAX_NODES_2}
use Rattle.sp_base.specs.declared.id.NodeId.{NodeId}
use Rattle.sp_text.specs.Spelling.{Word}
use Rattle.sp_lines.specs.Cells.{Bytes, Cell, Name, Number, Tested}
use Rattle.sp_lines.specs.Rows.{AreIn, Values, form_among, row_at}
use Rattle.sp_lines.specs.declared.fault.Fault.{Fault}
use Rattle.sp_lines.specs.declared.fault.Fault.TheVariants as faults
use Rattle.sp_outside.specs.declared.wire.TheConstants.{DATAGRAM_BYTES}
use Rattle.sp_recording.specs.declared.line.Digest.{Digest}
use Rattle.sp_recording.specs.declared.line.Line.{Line}
use Rattle.sp_recording.specs.declared.line.Line.TheVariants as lines

-- the forms of a line
pub data Form : Type 0 where
  Reserve : Form
  Tick : Form
  Overlay : Form
  Stray : Form
  Client : Form
  Poll : Form

-- ---- places

-- the greatest port
abbrev pub MAX_PORT : ℕ
MAX_PORT = 2 ^ 16 - 1

-- a bound above the one that is held
abbrev pub is_above : ℕ → ℕ → Bool
is_above held upto = nat_lt held upto

-- the number of a neighbour
abbrev pub is_neighbour : List NodeId → ℕ → Bool
is_neighbour near n = list_any (λ id. id.0 == n) near

-- a neighbour of the node
abbrev pub neighbour : List NodeId → Cell
neighbour near = Tested 1 MAX_NODES_2 (is_neighbour near)

-- the bytes of a datagram
abbrev pub datagram : Cell
datagram = Bytes 0 DATAGRAM_BYTES

-- a port
abbrev pub port : Cell
port = Number 0 MAX_PORT

-- a digest
abbrev pub digest : Cell
digest = Bytes 32 32

-- ---- rows

-- the row of a form, for so many indexes in all, these neighbours, and this bound that is held
abbrev pub cells : ℕ → List NodeId → ℕ → Form → List Cell
cells total near held Reserve = Name (codes "reserve") ∷ Tested 1 total (is_above held) ∷ []
cells total near held Tick = Name (codes "tick") ∷ Number 0 (2 ^ 64 - 1) ∷ digest ∷ []
cells total near held Overlay = Name (codes "overlay") ∷ neighbour near ∷ datagram ∷ digest ∷ []
cells total near held Stray = Name (codes "stray") ∷ port ∷ []
cells total near held Client = Name (codes "client") ∷ port ∷ datagram ∷ digest ∷ []
cells total near held Poll = Name (codes "poll") ∷ neighbour near ∷ digest ∷ []

-- all forms
abbrev pub forms : List Form
forms = Reserve ∷ Tick ∷ Overlay ∷ Stray ∷ Client ∷ Poll ∷ []

-- ---- lines

-- a node by its number
abbrev pub id : ℕ → NodeId
id n = record { 0 = n }

-- a digest by its bytes
abbrev pub digest_of : List ℕ → Digest
digest_of bytes = record { 0 = bytes }

-- the line of a row with these values
abbrev pub line_with : (total : ℕ) (near : List NodeId) (held : ℕ) (form : Form) → Values (cells total near held form) → Line
line_with total near held Reserve x = lines.Reserve x.0
line_with total near held Tick x = lines.Tick x.0 (digest_of x.1.0)
line_with total near held Overlay x = lines.Overlay (id x.0) x.1.0 (digest_of x.1.1.0)
line_with total near held Stray x = lines.Stray x.0
line_with total near held Client x = lines.Client x.0 x.1.0 (digest_of x.1.1.0)
line_with total near held Poll x = lines.Poll (id x.0) (digest_of x.1.0)

-- the row of a line
abbrev pub form_of : Line → Form
form_of (lines.Reserve upto) = Reserve
form_of (lines.Tick now told) = Tick
form_of (lines.Overlay node bytes told) = Overlay
form_of (lines.Stray from) = Stray
form_of (lines.Client from bytes told) = Client
form_of (lines.Poll node told) = Poll

-- its values in that row
abbrev pub values_of : (total : ℕ) (near : List NodeId) (held : ℕ) (line : Line) → Values (cells total near held (form_of line))
values_of total near held (lines.Reserve upto) = (upto, tt)
values_of total near held (lines.Tick now told) = (now, (told.0, tt))
values_of total near held (lines.Overlay node bytes told) = (node.0, (bytes, (told.0, tt)))
values_of total near held (lines.Stray from) = (from, tt)
values_of total near held (lines.Client from bytes told) = (from, (bytes, (told.0, tt)))
values_of total near held (lines.Poll node told) = (node.0, (told.0, tt))

-- a line in its ranges
abbrev pub IsInRange : ℕ → List NodeId → ℕ → Line → Type 0
IsInRange total near held line = AreIn (cells total near held (form_of line)) (values_of total near held line)

-- ---- reading

-- the form of a line with these words
abbrev pub form_for : ℕ → List NodeId → ℕ → List Word → Option Form
form_for total near held words = form_among (cells total near held) forms words

-- the line of words that fit the row of a form
unfoldable pub read_form : ℕ → List NodeId → ℕ → Form → List Word → Result Line Fault
read_form total near held form words = row_at (cells total near held form) words >>= λ xs. Ok (line_with total near held form xs)

-- the line that words of a form say, or the first fault
abbrev pub read_for : ℕ → List NodeId → ℕ → Option Form → List Word → Result Line Fault
read_for total near held None words = Err faults.Form
read_for total near held (Some form) words = read_form total near held form words

-- the line of these words
abbrev pub read_line : ℕ → List NodeId → ℕ → List Word → Result Line Fault
read_line total near held words = read_for total near held (form_for total near held words) words
