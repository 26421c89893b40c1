-- The lines of a schedule's header, a row for each, and the line that ends a schedule.
--
--     schedule FORMAT     1 or 2
--     seed HEX64
--     height H            5 or 10
--     bounds B C
--     nodes N             2..=16, in format 2 2..=32; the nodes are 1 to N
--     edge A B W          at most 120, in format 2 256; A < B, lexically ascending
--     bad I               none or more, ascending
--     epochs              in format 2 alone, where correct nodes start and stop by events
--     begin
use Rattle.std.specs.Prelude.{ℕ, ◌==◌, ◌||◌, ◌+◌, Bool, List, [], ◌∷◌, codes, if◌then◌else◌}
use Rattle.sp_base.specs.Formats.{max_nodes}
use Rattle.sp_base.specs.declared.format.TheConstants.{FORMAT_1, FORMAT_2}
use Rattle.sp_base.specs.declared.limits.TheConstants.{MAX_BUFFER, MAX_STORE, MAX_WEIGHT}
use Rattle.sp_base.specs.declared.id.NodeId.{NodeId}
use Rattle.sp_base.specs.declared.id.Limits.{Limits}
use Rattle.sp_lines.specs.Cells.{Bytes, Cell, Name, Number, Tested}
use Rattle.sp_lines.specs.Rows.{Values}
use Rattle.sp_topology.specs.declared.topology.Edge.{Edge}
use Rattle.sp_topology.specs.declared.topology.LmsHeight.{LmsHeight}
use Rattle.sp_topology.specs.declared.topology.LmsHeight.TheVariants.{Five, Ten}

abbrev pub is_height : ℕ → Bool
is_height n = (n == 5) || (n == 10)

-- the height of a number that is one
abbrev pub height_at : ℕ → LmsHeight
height_at n = if n == 5 then Five else Ten

-- the number of a height in a header
abbrev pub height_number : LmsHeight → ℕ
height_number Five = 5
height_number Ten = 10

-- the least id that may come after these compromised nodes
abbrev pub next_after : ℕ → List NodeId → ℕ
next_after low [] = low
next_after low (b ∷ bs) = next_after (b.0 + 1) bs

-- ---- rows

-- the line of the format
abbrev pub version_cells : List Cell
version_cells = Name (codes "schedule") ∷ Number FORMAT_1 FORMAT_2 ∷ []

-- the line of the seed
abbrev pub seed_cells : List Cell
seed_cells = Name (codes "seed") ∷ Bytes 32 32 ∷ []

-- the line of the height of trees
abbrev pub height_cells : List Cell
height_cells = Name (codes "height") ∷ Tested 5 10 is_height ∷ []

-- the line of the bounds
abbrev pub bounds_cells : List Cell
bounds_cells = Name (codes "bounds") ∷ Number 1 MAX_BUFFER ∷ Number 1 MAX_STORE ∷ []

-- the line of the number of nodes
abbrev pub nodes_cells : (format : ℕ) → List Cell
nodes_cells format = Name (codes "nodes") ∷ Number 2 (max_nodes format) ∷ []

-- an edge between so many nodes
abbrev pub edge_cells : ℕ → List Cell
edge_cells nodes = Name (codes "edge") ∷ Number 1 nodes ∷ Number 1 nodes ∷ Number 1 MAX_WEIGHT ∷ []

-- a compromised node, from this id on
abbrev pub bad_cells : ℕ → ℕ → List Cell
bad_cells low nodes = Name (codes "bad") ∷ Number low nodes ∷ []

-- the line that says that nodes start and stop
abbrev pub epochs_cells : List Cell
epochs_cells = Name (codes "epochs") ∷ []

-- the line that ends the header
abbrev pub begin_cells : List Cell
begin_cells = Name (codes "begin") ∷ []

-- the line that ends a schedule
abbrev pub end_cells : List Cell
end_cells = Name (codes "end") ∷ []

-- ---- their values

-- the bounds of their line's values
abbrev pub limits_of : Values bounds_cells → Limits
limits_of x = record { buffer = x.0; store = x.1.0 }

-- the values of the bounds' line
abbrev pub bounds_values : Limits → Values bounds_cells
bounds_values limits = (limits.buffer, (limits.store, tt))

-- the edge of its line's values
abbrev pub edge_of : (nodes : ℕ) → Values (edge_cells nodes) → Edge
edge_of nodes x = record { low = record { 0 = x.0 }; high = record { 0 = x.1.0 }; weight = x.1.1.0 }

-- the values of an edge's line
abbrev pub edge_values : (nodes : ℕ) → Edge → Values (edge_cells nodes)
edge_values nodes e = (e.low.0, (e.high.0, (e.weight, tt)))
