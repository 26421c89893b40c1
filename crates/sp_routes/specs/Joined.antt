-- Which nodes the steps of paths join: a flag for each two ids, both ways round, in rows of one id after another.
use Rattle.std.specs.Prelude.{ℕ, ◌≡◌, ◌+◌, ◌*◌, ◌<◌, ◌||◌, Bool, false, List, Option, None, Some, slice_index_or}
use Rattle.sp_base.specs.declared.id.NodeId.{NodeId}
use Rattle.sp_topology.specs.declared.topology.Edge.{Edge}
use Rattle.sp_routes.specs.declared.joined.TheConstants.{IDS}

abbrev pub flag_place : NodeId → NodeId → ℕ
flag_place u v = u.0 * IDS + v.0

-- both ends of the edge are ids that have flags
abbrev pub HasFlag : Edge → Type 0
HasFlag e = (e.low.0 < IDS) × (e.high.0 < IDS)

-- whether the ends of the edge are joined
abbrev pub joins : List Bool → Edge → Bool
joins flags e = slice_index_or flags (flag_place e.low e.high) false

-- the same of an edge that may not be there
abbrev pub joins_at : List Bool → Option Edge → Bool
joins_at flags None = false
joins_at flags (Some e) = joins flags e

-- the ends of these edges are joined as well
abbrev pub Adds : List Bool → List Bool → (Edge → Bool) → Type 0
Adds old new is = (e : Edge) → HasFlag e → joins new e ≡ (joins old e || is e)
