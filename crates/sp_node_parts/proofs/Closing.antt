-- What a version of the topology tells has the room that it asks for, and an empty node tells nothing.
use Rattle.std.proofs.Common.{◌≡◌, ◌≤◌, ℕ, ◌&&◌, Bool, true, false, List, [], ◌∷◌, length, map, refl, ap, arith, cond}
use Rattle.std.specs.Prelude.{count_by, sum_by}
use Rattle.std.specs.List.{flat_map, list_any}
use Rattle.std.proofs.lemmas.List.{length-append, length-map}
use Rattle.std.proofs.lemmas.List.Concat.{flat_map-cons, length-flat_map}
use Rattle.std.proofs.lemmas.List.Sums.{count_by-le-length, length-filter, sum_by-cons}
use Rattle.sp_base.specs.declared.id.Flow.{Flow}
use Rattle.sp_base.specs.declared.id.NodeId.{NodeId}
use Rattle.sp_msg.specs.declared.effect.Effect.{Effect}
use Rattle.sp_msg.specs.declared.effect.Effect.TheVariants as effects
use Rattle.sp_msg.specs.declared.effect.Why.TheVariants as whys
use Rattle.sp_rules.specs.Flow.{FlowState, ends, no_flow}
use Rattle.sp_rules.specs.Parts.{Fixed, as_neighbour, bare_parts, neighbours_of, nodes_of}
use Rattle.sp_rules.specs.Prio as prio
use Rattle.sp_rules.specs.Prio.{PrioState, entry_count}
use Rattle.sp_rules.specs.PrioPeer as rows
use Rattle.sp_rules.specs.PrioPeer.{PrioPeer}
use Rattle.sp_rules.specs.Rel.{ended_effect, ending, is_over, pairs_of}
use Rattle.sp_rules.specs.Store.{Store, leavers}
use Rattle.sp_rules.specs.Topologies.{is_removed, is_shut, under, weights_in}
use Rattle.sp_rules.specs.declared.kflow.FlowKind.{FlowKind}
use Rattle.sp_rules.specs.declared.prio.Neighbour.{Neighbour}
use Rattle.sp_rules.specs.declared.store.Entry.{Entry}
use Rattle.sp_topology.specs.declared.topology.Edge.{Edge}
use Rattle.sp_topology.specs.declared.topology.NodeKey.{NodeKey}
use Rattle.sp_topology.specs.declared.topology.Topology.{Topology}
use Rattle.sp_node_parts.specs.Closing.{closing_room, withdrawn_of}

-- ---- what is told

few_leavers : (p : Entry → Bool) (s : Store) → length (leavers p s) ≤ length s.entries
few_leavers p s = omega (arith, length-filter p s.entries, count_by-le-length p s.entries)

one_place : (weights : List ℕ) (removed : List NodeId) (q : PrioPeer) → length (rows.closed_effects weights removed q) ≤ length q.store.entries
one_place weights removed q =
    let p = rows.leaves (is_shut weights q.edge) removed in
    omega (arith, length-map (leavers p q.store) (λ (e : Entry). effects.Gone q.peer e.id whys.Withdrawn), few_leavers p q.store)

all_places : (weights : List ℕ) (removed : List NodeId) (peers : List PrioPeer)
    → sum_by (λ q. length (rows.closed_effects weights removed q)) peers ≤ sum_by (λ q. length q.store.entries) peers
all_places weights removed [] = omega arith
all_places weights removed (q ∷ peers) =
    let one = one_place weights removed q in
    let rest = all_places weights removed peers in
    omega (
      arith,
      one,
      rest,
      sum_by-cons (λ (p : PrioPeer). length (rows.closed_effects weights removed p)) q peers,
      sum_by-cons (λ (p : PrioPeer). length p.store.entries) q peers,
    )

-- at most one effect of each entry
pub closed_short : (s : PrioState) (weights : List ℕ) (removed : List NodeId) → length (prio.closed_effects s weights removed) ≤ entry_count s
closed_short s weights removed =
    omega (arith, length-flat_map (rows.closed_effects weights removed) s.peers, all_places weights removed s.peers)

one_end : (active over : Bool) (e : Effect) → length (cond (active && over) (e ∷ []) []) ≤ cond active 1 0
one_end true true e = omega arith
one_end true false e = omega arith
one_end false over e = omega arith

-- at most one effect of each active flow of a kind
pub few_ended : (kind : FlowKind) (removed : List NodeId) (flows : List FlowState)
    → length (flat_map (ended_effect kind removed) flows) ≤ count_by (λ f. f.active) flows
few_ended kind removed [] = omega arith
few_ended kind removed (f ∷ flows) =
    let one : length (ended_effect kind removed f) ≤ cond f.active 1 0 = one_end f.active (is_over removed (ends f)) (ending kind (ends f)) in
    let rest = few_ended kind removed flows in
    omega (
      arith,
      ap (λ (es : List Effect). length es) (flat_map-cons (ended_effect kind removed) f flows),
      length-append (ended_effect kind removed f) (flat_map (ended_effect kind removed) flows),
      sum_by-cons (λ (g : FlowState). cond g.active 1 0) f flows,
      one,
      rest,
    )

-- no more nodes are removed than there are
pub few_removed : (t : Topology) (removed : List NodeId) → removed ≡ (withdrawn_of t).removed → length removed ≤ length t.nodes
few_removed t removed is =
    let p : NodeId → Bool = λ u. is_removed t.edges u.0 in
    omega (
      arith,
      ap (λ (us : List NodeId). length us) is,
      length-filter p (nodes_of t),
      count_by-le-length p (nodes_of t),
      length-map t.nodes (λ (n : NodeKey). n.id),
    )

-- ---- an empty node

none_stored : (capacity : ℕ) (ns : List Neighbour) → sum_by (λ q. length q.store.entries) (map (rows.new_peer capacity) ns) ≡ 0
none_stored capacity [] = refl
none_stored capacity (n ∷ ns) =
    let rest = none_stored capacity ns in
    omega (arith, rest, sum_by-cons (λ (q : PrioPeer). length q.store.entries) (rows.new_peer capacity n) (map (rows.new_peer capacity) ns))

none_active : (flows : List Flow) → count_by (λ f. f.active) (map no_flow flows) ≡ 0
none_active [] = refl
none_active (flow ∷ flows) = none_active flows

pub nothing_closes : (f : Fixed) (buffer store : ℕ) → closing_room (bare_parts f buffer store) ≡ 0
nothing_closes f buffer store =
    let idle = none_active (pairs_of (nodes_of f.topology)) in
    omega (arith, none_stored store (map as_neighbour (neighbours_of f)), idle)

-- ---- edges with weights

pub under_own : (edges : List Edge) → under edges (weights_in edges) ≡ edges
under_own [] = refl
under_own (e ∷ edges) = ap (λ (rest : List Edge). e ∷ rest) (under_own edges)

-- without weights there is none
pub none_under : (p : Edge → Bool) (edges : List Edge) (weights : List ℕ) → length weights ≡ 0 → list_any p (under edges weights) ≡ false
none_under p [] weights none = refl
none_under p (e ∷ edges) [] none = refl
none_under p (e ∷ edges) (w ∷ weights) none = absurd (omega (arith, none))
