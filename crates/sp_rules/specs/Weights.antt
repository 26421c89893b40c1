-- The weights of links at one node: of each end of each edge the last update that counts, and for each neighbour which one goes next.
--
--     row 2e       the lower end of edge e
--     row 2e + 1   its higher end
use Rattle.std.specs.Prelude.{ℕ, ◌==◌, ◌+◌, ◌*◌, ◌||◌, nat_lt, nat_le, max, Bool, List, map, length, replicate, Option, Some, None, is_none, is_some}
use Rattle.std.specs.Prelude.{slice_get, slice_index_or, slice_set, if◌then◌else◌}
use Rattle.std.specs.Option.{option_and_then}
use Rattle.sp_base.specs.Cursor.{next_after}
use Rattle.sp_msg.specs.declared.body.Body.{Body}
use Rattle.sp_msg.specs.declared.body.Body.TheVariants as bodies
use Rattle.sp_msg.specs.declared.body.WeightBody.{WeightBody}
use Rattle.sp_msg.specs.declared.kept.Kept.{Kept}
use Rattle.sp_topology.specs.declared.topology.Edge.{Edge}
use Rattle.sp_topology.specs.declared.topology.Topology.{Topology}
use Rattle.sp_rules.specs.Topologies.{is_shut, weights_in}
use Rattle.sp_rules.specs.declared.weights.Offer.{Offer}
use Rattle.sp_rules.specs.declared.weights.Offer.TheVariants as offers

-- The edges, of which only the ends count here; the administrator's minimum of each, 0 where it is withdrawn; a row for each end of each edge, and for each
-- place of a node the row that went to it last
pub record WeightState : Type 0 where
  pub edges : List Edge
  pub least : List ℕ
  pub rows : List (Option Kept)
  pub cycles : List (Option ℕ)

-- no update is held, and none went
abbrev pub start : Topology → WeightState
start t = record { edges = t.edges; least = weights_in t.edges; rows = replicate (2 * length t.edges) None; cycles = replicate (length t.nodes) None }

-- ---- rows

-- the row of an end of this edge. None where this is no end of it
abbrev pub row_of : ℕ → Edge → ℕ → Option ℕ
row_of edge e end = if e.low.0 == end then Some (2 * edge) else if e.high.0 == end then Some (2 * edge + 1) else None

-- the same for the edge in this place. None also where there is no such edge
abbrev pub row_in : List Edge → ℕ → ℕ → Option ℕ
row_in edges edge end = option_and_then (λ e. row_of edge e end) (slice_get edges edge)

-- what a row holds
abbrev pub held_in : List (Option Kept) → ℕ → Option Kept
held_in rows row = option_and_then (λ held. held) (slice_get rows row)

-- the number and the weight that a message says. Rows hold updates alone
abbrev pub seq_said : Body → ℕ
seq_said (bodies.Weight w) = w.seq
seq_said _ = 0

-- the weight that an update says
abbrev pub weight_said : Body → ℕ
weight_said (bodies.Weight w) = w.weight
weight_said _ = 0

-- the number of the update that is held, 0 where none is
abbrev pub seq_of : Option Kept → ℕ
seq_of None = 0
seq_of (Some kept) = seq_said kept.body

-- the weight of the update that is held, 0 where none is
abbrev pub weight_of : Option Kept → ℕ
weight_of None = 0
weight_of (Some kept) = weight_said kept.body

-- the number of the update that is held of an end of an edge, 0 where there is none
abbrev pub last_seq : WeightState → ℕ → ℕ → ℕ
last_seq s edge end = seq_of (option_and_then (held_in s.rows) (row_in s.edges edge end))

-- the number of the next update of an end of an edge
abbrev pub next_seq : WeightState → ℕ → ℕ → ℕ
next_seq s edge end = last_seq s edge end + 1

-- the administrator's minimum of an edge. 0 where it is withdrawn
abbrev pub minimum : WeightState → ℕ → ℕ
minimum s edge = slice_index_or s.least edge 0

-- whether an edge is withdrawn
abbrev pub is_withdrawn : WeightState → ℕ → Bool
is_withdrawn s edge = is_shut s.least edge

-- the minima of another version of the topology. What is held stays
abbrev pub replaced : WeightState → List ℕ → WeightState
replaced s least = record s { least = least }

-- ---- updates

-- the answer to an update: the first that applies
abbrev pub offer : WeightState → WeightBody → Offer
offer s u =
    if is_none (row_in s.edges u.edge.0 u.origin.0) || is_withdrawn s u.edge.0 then offers.Foreign
    else if nat_lt u.weight (minimum s u.edge.0) then offers.Low (minimum s u.edge.0)
    else if nat_le u.seq (last_seq s u.edge.0 u.origin.0) then offers.Old (last_seq s u.edge.0 u.origin.0)
    else offers.New

-- the row that a message is for
abbrev pub row_for : List Edge → Body → Option ℕ
row_for edges (bodies.Weight u) = row_in edges u.edge.0 u.origin.0
row_for edges _ = None

-- this message in its row, and all other rows as they were
abbrev pub rows_with : Option ℕ → List (Option Kept) → Kept → List (Option Kept)
rows_with None rows kept = rows
rows_with (Some row) rows kept = slice_set rows row (Some kept)

-- the update is held
abbrev pub held : WeightState → Kept → WeightState
held s kept = record s { rows = rows_with (row_for s.edges kept.body) s.rows kept }

-- ---- weights

-- the greatest of the minimum and the weights that are held of both ends
abbrev pub effective : WeightState → ℕ → ℕ
effective s edge = max (minimum s edge) (max (weight_of (held_in s.rows (2 * edge))) (weight_of (held_in s.rows (2 * edge + 1))))

-- ---- the cycle of a link

-- the row that went last to the node in this place
abbrev pub cycle_at : WeightState → ℕ → Option ℕ
cycle_at s v = option_and_then (λ last. last) (slice_get s.cycles v)

-- the row that goes next: the one after the last, among those that hold an update
abbrev pub next_row : WeightState → ℕ → Option ℕ
next_row s v = next_after (cycle_at s v) (map is_some s.rows)

-- the update that goes next to the node in this place
abbrev pub next : WeightState → ℕ → Option Kept
next s v = option_and_then (held_in s.rows) (next_row s v)

-- the cycles with that of a neighbour moved to a row
abbrev pub cycles_with : List (Option ℕ) → ℕ → Option ℕ → List (Option ℕ)
cycles_with cycles v None = cycles
cycles_with cycles v (Some row) = slice_set cycles v (Some row)

-- it went. Nothing changes where none is held
abbrev pub moved : WeightState → ℕ → WeightState
moved s v = record s { cycles = cycles_with s.cycles v (next_row s v) }
