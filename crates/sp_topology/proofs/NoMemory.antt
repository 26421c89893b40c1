-- No fault of a graph is want of memory.
use Rattle.std.proofs.Common.{◌≢◌, ℕ, ◌==◌, ◌&&◌, ◌||◌, nat_lt, nat_le, Bool, true, false, cond, List, [], ◌∷◌, Some, None}
use Rattle.std.specs.Prelude.{Option}
use Rattle.sp_base.specs.Cursor.{or_else}
use Rattle.sp_base.specs.Formats.{max_nodes}
use Rattle.sp_topology.specs.declared.topology.Edge.{Edge}
use Rattle.sp_topology.specs.declared.refused.TopologyRefused.{TopologyRefused}
use Rattle.sp_topology.specs.declared.refused.TopologyRefused.TheVariants as refusals
use Rattle.sp_topology.specs.Faults.{are_nodes, edge_fault, edges_fault, ends_fault, id_fault, ids_fault, is_below, weight_fault}
use Rattle.sp_topology.specs.Ranges.{ends_of, least_weight}

abbrev pub NoMemory : Option TopologyRefused → Type 0
NoMemory fault = fault ≢ Some refusals.Memory

either : (b : Bool) (x y : Option TopologyRefused) → NoMemory x → NoMemory y → NoMemory (cond b x y)
either true x y first second = first
either false x y first second = second

after : (x y : Option TopologyRefused) → NoMemory x → NoMemory y → NoMemory (or_else x y)
after None y first second = second
after (Some fault) y first second = first

none : NoMemory None
none same = cc

order : NoMemory (Some refusals.Order)
order same = cc

twice : NoMemory (Some refusals.Twice)
twice same = cc

few : NoMemory (Some refusals.TooFew)
few same = cc

many : NoMemory (Some refusals.TooMany)
many same = cc

loops : NoMemory (Some refusals.Loop)
loops same = cc

unknown : NoMemory (Some refusals.Unknown)
unknown same = cc

weight : NoMemory (Some refusals.Weight)
weight same = cc

id_no_memory : (format : ℕ) → (before id : ℕ) → NoMemory (id_fault format before id)
id_no_memory format before id =
    either (nat_lt id 1 || nat_lt (max_nodes format) id || nat_lt id before) (Some refusals.Order) _ order
    (either (id == before) (Some refusals.Twice) None twice none)

pub ids_no_memory : (format : ℕ) → (before : ℕ) (ids : List ℕ) → NoMemory (ids_fault format before ids)
ids_no_memory format before [] = none
ids_no_memory format before (id ∷ ids) =
    after (id_fault format before id) (ids_fault format id ids) (id_no_memory format before id) (ids_no_memory format id ids)

ends_no_memory : (known : Bool) (before ends : ℕ × ℕ) → NoMemory (ends_fault known before ends)
ends_no_memory known before ends =
    either (ends.0 == ends.1) (Some refusals.Loop) _ loops
    (either (nat_lt ends.1 ends.0 || is_below ends before) (Some refusals.Order) _ order
    (either ((ends.0 == before.0) && (ends.1 == before.1)) (Some refusals.Twice) _ twice
    (either known None (Some refusals.Unknown) none unknown)))

weight_no_memory : (format : ℕ) → (w : ℕ) → NoMemory (weight_fault format w)
weight_no_memory format w = either (nat_le (least_weight format) w && nat_le w 1000000) None (Some refusals.Weight) none weight

pub edges_no_memory : (format : ℕ) → (ids : List ℕ) (before : ℕ × ℕ) (edges : List Edge) → NoMemory (edges_fault format ids before edges)
edges_no_memory format ids before [] = none
edges_no_memory format ids before (e ∷ edges) =
    after (edge_fault format ids before e) (edges_fault format ids (ends_of e) edges)
    (after (ends_fault (are_nodes ids (ends_of e)) before (ends_of e)) (weight_fault format e.weight)
    (ends_no_memory (are_nodes ids (ends_of e)) before (ends_of e)) (weight_no_memory format e.weight))
    (edges_no_memory format ids (ends_of e) edges)
