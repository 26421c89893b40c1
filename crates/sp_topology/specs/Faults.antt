-- What is wrong with a node, with an edge, and with a whole graph: the first fault in the order of the document.
use Rattle.std.specs.Prelude.{ℕ, ◌≡◌, ◌↔◌, ◌==◌, ◌&&◌, ◌||◌, nat_lt, nat_le, Bool, List, [], ◌∷◌, length, drop, Option, Some, None, if◌then◌else◌}
use Rattle.byteorder.specs.Endian.{big_number}
use Rattle.sp_base.specs.Cursor.{or_else}
use Rattle.sp_base.specs.Formats.{max_edges, max_nodes}
use Rattle.sp_base.specs.declared.limits.TheConstants.{MAX_WEIGHT}
use Rattle.sp_topology.specs.declared.topology.LmsHeight.{LmsHeight}
use Rattle.sp_topology.specs.declared.topology.Edge.{Edge}
use Rattle.sp_topology.specs.declared.refused.TopologyRefused.{TopologyRefused}
use Rattle.sp_topology.specs.declared.refused.TopologyRefused.TheVariants as refusals
use Rattle.sp_topology.specs.Heights.{typecode_of}
use Rattle.sp_topology.specs.Ranges.{AreIds, IsGraph, ends_of, has_id, least_weight}

-- the number of nodes
abbrev pub node_count_fault : (format : ℕ) → ℕ → Option TopologyRefused
node_count_fault format count = if nat_lt count 2 then Some refusals.TooFew else (if nat_lt (max_nodes format) count then Some refusals.TooMany else None)

-- the id of a node after that of the one before; 0 stands before the first
abbrev pub id_fault : (format : ℕ) → ℕ → ℕ → Option TopologyRefused
id_fault format before id =
    if nat_lt id 1 || nat_lt (max_nodes format) id || nat_lt id before then Some refusals.Order
    else (if id == before then Some refusals.Twice else None)

-- the key of a node: two levels, this height, w = 4
abbrev pub key_fault : LmsHeight → List ℕ → Option TopologyRefused
key_fault height key =
    if (big_number 4 key == 2) && (big_number 4 (drop 4 key) == typecode_of height) && (big_number 4 (drop 8 key) == 3) then None
    else Some refusals.Key

-- the number of edges
abbrev pub edge_count_fault : (format : ℕ) → ℕ → Option TopologyRefused
edge_count_fault format count = if nat_lt (max_edges format) count then Some refusals.TooMany else None

-- in the order of words
abbrev pub is_below : ℕ × ℕ → ℕ × ℕ → Bool
is_below p q = nat_lt p.0 q.0 || ((p.0 == q.0) && nat_lt p.1 q.1)

-- the ends of an edge after those of the one before, where this tells whether both are nodes; (0, 0) stands before the first
abbrev pub ends_fault : Bool → ℕ × ℕ → ℕ × ℕ → Option TopologyRefused
ends_fault are_nodes before ends =
    if ends.0 == ends.1 then Some refusals.Loop
    else (if nat_lt ends.1 ends.0 || is_below ends before then Some refusals.Order
    else (if (ends.0 == before.0) && (ends.1 == before.1) then Some refusals.Twice
    else (if are_nodes then None else Some refusals.Unknown)))

-- whether both ends are among these nodes
abbrev pub are_nodes : List ℕ → ℕ × ℕ → Bool
are_nodes ids ends = has_id ends.0 ids && has_id ends.1 ids

-- what is wrong with a weight: it is out of the range of its format
abbrev pub weight_fault : (format : ℕ) → ℕ → Option TopologyRefused
weight_fault format weight = if nat_le (least_weight format) weight && nat_le weight MAX_WEIGHT then None else Some refusals.Weight

-- ---- without keys, as a draft has it

-- what is wrong first with ids that follow this one
abbrev pub ids_fault : (format : ℕ) → ℕ → List ℕ → Option TopologyRefused
ids_fault format before [] = None
ids_fault format before (id ∷ ids) = or_else (id_fault format before id) (ids_fault format id ids)

-- what is wrong with an edge that follows one with these ends: its own ends first
abbrev pub edge_fault : (format : ℕ) → List ℕ → ℕ × ℕ → Edge → Option TopologyRefused
edge_fault format ids before e = or_else (ends_fault (are_nodes ids (ends_of e)) before (ends_of e)) (weight_fault format e.weight)

-- what is wrong first with edges that follow one with these ends
abbrev pub edges_fault : (format : ℕ) → List ℕ → ℕ × ℕ → List Edge → Option TopologyRefused
edges_fault format ids before [] = None
edges_fault format ids before (e ∷ edges) = or_else (edge_fault format ids before e) (edges_fault format ids (ends_of e) edges)

-- the first fault of these nodes and edges
abbrev pub graph_fault : (format : ℕ) → List ℕ → List Edge → Option TopologyRefused
graph_fault format ids edges =
    or_else (node_count_fault format (length ids))
    (or_else (ids_fault format 0 ids) (or_else (edge_count_fault format (length edges)) (edges_fault format ids (0, 0) edges)))

-- a graph has no fault exactly where it is in its ranges
abbrev pub NoFaultIsInRange : Type 0
NoFaultIsInRange = (format : ℕ) (ids : List ℕ) (edges : List Edge) → (graph_fault format ids edges ≡ None) ↔ (AreIds format 0 ids × IsGraph format ids edges)
