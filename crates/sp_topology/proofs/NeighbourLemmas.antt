-- Neighbours ascend, since the edges do: those to lower nodes stand before those to higher ones.
use Rattle.std.proofs.Common.{◌≡◌, ℕ, ◌+◌, ◌<◌, ◌≤◌, ◌==◌, true, inl, inr, List, [], ◌∷◌, ◌++◌, sym, ap, ◌∙◌, subst, arith, append-nil, length, drop}
use Rattle.std.proofs.lemmas.List.{drop_all}
use Rattle.sp_base.specs.declared.id.EdgeId.{EdgeId}
use Rattle.sp_base.specs.declared.id.NodeId.{NodeId}
use Rattle.std.proofs.lemmas.Bool.{cases_Bool, eqb-true}
use Rattle.sp_topology.specs.declared.topology.LmsHeight.{LmsHeight}
use Rattle.sp_topology.specs.declared.topology.Edge.{Edge}
use Rattle.sp_topology.specs.declared.topology.NodeKey.{NodeKey}
use Rattle.sp_topology.specs.Neighbours.{Ascend, neighbours_from}
use Rattle.sp_topology.specs.Ranges.{AreEdges, AreNodes, IsBelow, ends_of, has_id, ids_of}

below_both : (p q r : ℕ × ℕ) → IsBelow p q → IsBelow q r → IsBelow p r
below_both p q r (inl a) (inl b) = inl (omega arith)
below_both p q r (inl a) (inr b) = inl (omega (arith, b.0))
below_both p q r (inr a) (inl b) = inl (omega (arith, a.0))
below_both p q r (inr a) (inr b) = inr (omega (arith, a.0, b.0), omega (arith, a.1, b.1))

-- each later edge leads from the node to one above this
abbrev Rises : ℕ → ℕ × ℕ → ℕ → Type 0
Rises node before bound = (ends : ℕ × ℕ) → IsBelow before ends → ends.0 < ends.1 → 0 < ends.0 → (ends.1 ≡ node → bound < ends.0) ×
    (ends.0 ≡ node → bound < ends.1)

rises_later : (node : ℕ) (before ends : ℕ × ℕ) (bound : ℕ) → IsBelow before ends → Rises node before bound → Rises node ends bound
rises_later node before ends bound below rises others later = rises others (below_both before ends others below later)

rises_from_lower : (node low : ℕ) → low < node → Rises node (low, node) low
rises_from_lower node low less ends (inl above) ascend some = (λ is. above, λ is. omega (arith, is))
rises_from_lower node low less ends (inr same) ascend some = (λ is. absurd (omega (arith, is, same.1)), λ is. omega (arith, is, same.0))

rises_from_higher : (node high : ℕ) → node < high → Rises node (node, high) high
rises_from_higher node high more ends (inl above) ascend some = (λ is. absurd (omega (arith, is, above)), λ is. absurd (omega (arith, is, above)))
rises_from_higher node high more ends (inr same) ascend some = (λ is. absurd (omega (arith, is, same.0)), λ is. same.1)

rises_first : (node : ℕ) → Rises node (0, 0) 0
rises_first node ends below ascend some = (λ is. some, λ is. omega arith)

-- no id is 0
no_zero : (format : ℕ) → (height : LmsHeight) (before : ℕ) (nodes : List NodeKey) → AreNodes format height before nodes → (id : ℕ)
    → has_id id (ids_of nodes) ≡ true → 0 < id
no_zero format height before [] are id has = absurd (cc)
no_zero format height before (n ∷ nodes) are id has = elim (cases_Bool (n.id.0 == id)) [
  | inl here ↦ let same : n.id.0 ≡ id = eqb-true n.id.0 id here in omega (arith, same, are.0.0)
  | inr elsewhere ↦ no_zero format height n.id.0 nodes are.2 id (rw elsewhere at has)
]

ascend_on : (format : ℕ) → (node place bound : ℕ) (ids : List ℕ) (before : ℕ × ℕ) (edges : List Edge) → ((id : ℕ) → has_id id ids ≡ true → 0 < id)
    → AreEdges format ids before edges
    → Rises node before bound → Ascend bound (neighbours_from node place edges)
ascend_on format node place bound ids before [] some are rises = tt
ascend_on format node place bound ids before (e ∷ edges) some are rises =
    let ends = are.0 in
    let leads = rises (ends_of e) ends.after ends.ascend (some e.low.0 ends.low) in
    elim (cases_Bool (e.low.0 == node)) [
      | inl from ↦
          let same : e.low.0 ≡ node = eqb-true e.low.0 node from in
          let on : Rises node (ends_of e) e.high.0 = subst (λ (x : ℕ). Rises node (x, e.high.0) e.high.0) (sym same)
          (rises_from_higher node e.high.0 (omega (arith, same, ends.ascend))) in
          rw from (leads.1 same, ascend_on format node (place + 1) e.high.0 ids (ends_of e) edges some are.2 on)
      | inr other ↦ elim (cases_Bool (e.high.0 == node)) [
        | inl to ↦
            let same : e.high.0 ≡ node = eqb-true e.high.0 node to in
            let on : Rises node (ends_of e) e.low.0 = subst (λ (x : ℕ). Rises node (e.low.0, x) e.low.0) (sym same)
            (rises_from_lower node e.low.0 (omega (arith, same, ends.ascend))) in
            rw (other, to) (leads.0 same, ascend_on format node (place + 1) e.low.0 ids (ends_of e) edges some are.2 on)
        | inr neither ↦ rw (other, neither) (ascend_on format node (place + 1) bound ids (ends_of e) edges some are.2
            (rises_later node before (ends_of e) bound ends.after rises))
      ]
    ]

neighbours_ascend : (format : ℕ) → (node : ℕ) (height : LmsHeight) (nodes : List NodeKey) (edges : List Edge) → AreNodes format height 0 nodes
    → AreEdges format (ids_of nodes) (0, 0) edges
    → Ascend 0 (neighbours_from node 0 edges)
neighbours_ascend format node height nodes edges are_nodes are_edges =
    ascend_on format node 0 0 (ids_of nodes) (0, 0) edges (no_zero format height 0 nodes are_nodes) are_edges (rises_first node)

-- those that were found when no edge is left
pub found_ascend : (format : ℕ) → (node place : ℕ) (height : LmsHeight) (nodes : List NodeKey) (edges : List Edge) (found : List (NodeId × EdgeId))
    → AreNodes format height 0 nodes
    → AreEdges format (ids_of nodes) (0, 0) edges → length edges ≤ place
    → found ++ neighbours_from node place (drop place edges) ≡ neighbours_from node 0 edges → Ascend 0 found
found_ascend format node place height nodes edges found are_nodes are_edges past all =
    let none : drop place edges ≡ [] = drop_all place edges past in
    let same : found ≡ neighbours_from node 0 edges = sym (append-nil found) ∙ ap (λ (rest : List Edge). found ++ neighbours_from node place rest)
    (sym none) ∙ all in
    rw same (neighbours_ascend format node height nodes edges are_nodes are_edges)
