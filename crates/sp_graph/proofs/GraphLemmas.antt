-- Graphs grow by an edge that may come next, and join no two nodes twice.
use Rattle.std.proofs.Common.{◌≡◌, ◌<◌, ◌≤◌, ◌-◌, ℕ, true, false, Bool, List, [], ◌∷◌, length, length-append, refl, sym, subst, ◌∙◌, inl, inr, arith}
use Rattle.std.specs.Prelude.{◌⊎◌, ◌≢◌, ◌&&◌, ◌||◌, ◌==◌, Option, IfSome, slice_index_or}
use Rattle.std.specs.List.{AllPairs}
use Rattle.std.proofs.lemmas.Bool.{cases_eq, eqb-true}
use Rattle.std.proofs.lemmas.List.Elements.{All-nil, All-push}
use Rattle.std.proofs.lemmas.List.Quantifiers.{all_pairs_push}
use Rattle.std.proofs.lemmas.Option.{slice_get-get_or}
use Rattle.sp_base.specs.declared.id.NodeId.{NodeId}
use Rattle.sp_base.proofs.FormatLemmas.{few_edges, few_nodes}
use Rattle.sp_base.specs.Formats.{max_nodes}
use Rattle.sp_topology.specs.declared.topology.Edge.{Edge}
use Rattle.sp_graph.specs.declared.graph.Graph.{Graph}
use Rattle.sp_graph.specs.Edges.{IsEdge, IsGraph, IsGraphIn, IsLower, IsNextEdge, last_edge, with_edge}
use Rattle.sp_graph.specs.Walks.{is_between}

pub graph_begins : (format nodes : ℕ) → (2 ≤ nodes) × (nodes ≤ max_nodes format) → IsGraphIn format (record { nodes = nodes; edges = [] })
graph_begins format nodes few =
    record { nodes = few; few = omega arith; edges = All-nil (IsEdge nodes); ascend = λ i j d less inside. absurd (omega (arith, inside)) }

-- a graph of a format is in the ranges of all
pub graph_of_any : (format : ℕ) (g : Graph) → IsGraphIn format g → IsGraph g
graph_of_any format g good = record {
  nodes = (good.nodes.0, omega (arith, good.nodes.1, few_nodes format));
  few = omega (arith, good.few, few_edges format);
  edges = good.edges;
  ascend = good.ascend;
}

lower_again : (e f h : Edge) → IsLower e f → IsLower f h → IsLower e h
lower_again e f h (inl a) (inl b) = inl (omega (arith, a, b))
lower_again e f h (inl a) (inr b) = inl (omega (arith, a, b.0))
lower_again e f h (inr a) (inl b) = inl (omega (arith, a.0, b))
lower_again e f h (inr a) (inr b) = inr (a.0 ∙ b.0, omega (arith, a.1, b.1))

-- all edges stand before one that stands after the last
all_lower : (edges : List Edge) (e : Edge) → AllPairs IsLower edges → IfSome (last_edge edges) (λ f. IsLower f e) → (k : ℕ) (d : Edge) → k < length edges
    → IsLower (slice_index_or edges k d) e
all_lower edges e ascend after k d inside = go (cases_eq k (length edges - 1))
  where
    last : IsLower (slice_index_or edges (length edges - 1) d) e
    last = subst (λ (o : Option Edge). IfSome o (λ f. IsLower f e)) (slice_get-get_or edges (length edges - 1) d (omega (arith, inside))) after

    go : (k ≡ length edges - 1) ⊎ (k ≢ length edges - 1) → IsLower (slice_index_or edges k d) e
    go (inl at) = subst (λ (i : ℕ). IsLower (slice_index_or edges i d) e) (sym at) last
    go (inr before) =
        lower_again (slice_index_or edges k d) (slice_index_or edges (length edges - 1) d) e
        (ascend k (length edges - 1) d (omega (arith, inside, before)) (omega (arith, inside))) last

-- a graph may have one edge more, where that one may come next
pub graph_grows : (format : ℕ) → (g : Graph) (e : Edge) → IsGraphIn format g → IsNextEdge format g e → IsGraphIn format (with_edge g e)
graph_grows format g e good next = record {
  nodes = good.nodes;
  few = omega (arith, length-append g.edges (e ∷ []), next.few);
  edges = All-push (IsEdge g.nodes) g.edges e good.edges (next.ends.0, next.ends.1, next.ends.2, next.weight);
  ascend = all_pairs_push IsLower g.edges e good.ascend (all_lower g.edges e good.ascend next.ascends);
}

other : (n m : ℕ) → (n ≡ m → ⊥) → (n == m) ≡ false
other n m apart = go (n == m) refl
  where
    go : (b : Bool) → (n == m) ≡ b → (n == m) ≡ false
    go true e = absurd (apart (eqb-true _ _ e))
    go false e = e

neither : (a b c d : Bool) → (a ≡ false) ⊎ (b ≡ false) → (c ≡ false) ⊎ (d ≡ false) → ((a && b) || (c && d)) ≡ false
neither false b false d one two = refl
neither false b true false one two = refl
neither false b true true one (inl e) = absurd cc
neither false b true true one (inr e) = absurd cc
neither true false false d one two = refl
neither true false true false one two = refl
neither true false true true one (inl e) = absurd cc
neither true false true true one (inr e) = absurd cc
neither true true c d (inl e) two = absurd cc
neither true true c d (inr e) two = absurd cc

-- an edge that stands later joins other nodes
not_between : (nodes : ℕ) (e f : Edge) → IsEdge nodes e → IsEdge nodes f → IsLower e f → is_between e.low e.high f ≡ false
not_between nodes e f one two lower =
    neither (f.low.0 == e.low.0) (f.high.0 == e.high.0) (f.low.0 == e.high.0) (f.high.0 == e.low.0) (straight lower) (across lower)
  where
    straight : IsLower e f → ((f.low.0 == e.low.0) ≡ false) ⊎ ((f.high.0 == e.high.0) ≡ false)
    straight (inl a) = inl (other f.low.0 e.low.0 (λ same. omega (arith, a, same)))
    straight (inr a) = inr (other f.high.0 e.high.0 (λ same. omega (arith, a.1, same)))

    across : IsLower e f → ((f.low.0 == e.high.0) ≡ false) ⊎ ((f.high.0 == e.low.0) ≡ false)
    across (inl a) = inr (other f.high.0 e.low.0 (λ same. omega (arith, a, two.1, same)))
    across (inr a) = inl (other f.low.0 e.high.0 (λ same. omega (arith, a.0, one.1, same)))

-- no two edges join the same nodes
pub simple : (g : Graph) → IsGraph g → AllPairs (λ e f. is_between e.low e.high f ≡ false) g.edges
simple g good i j d less inside =
    not_between g.nodes (slice_index_or g.edges i d) (slice_index_or g.edges j d) (good.edges i d (omega (arith, less, inside))) (good.edges j d inside)
    (good.ascend i j d less inside)

-- the edge's ends are the two nodes, whichever comes first
abbrev pub HasEnds : NodeId → NodeId → Edge → Type 0
HasEnds u v e = ((e.low.0 ≡ u.0) × (e.high.0 ≡ v.0)) ⊎ ((e.low.0 ≡ v.0) × (e.high.0 ≡ u.0))

-- an edge between two nodes has them as its ends
pub between_ends : (u v : NodeId) (e : Edge) → is_between u v e ≡ true → HasEnds u v e
between_ends u v e is = go (e.low.0 == u.0) (e.high.0 == v.0) (e.low.0 == v.0) (e.high.0 == u.0) refl refl refl refl is
  where
    go : (a b c d : Bool) → (e.low.0 == u.0) ≡ a → (e.high.0 == v.0) ≡ b → (e.low.0 == v.0) ≡ c → (e.high.0 == u.0) ≡ d → ((a && b) || (c && d)) ≡ true
        → HasEnds u v e
    go true true c d one two three four is = inl (eqb-true _ _ one, eqb-true _ _ two)
    go true false true true one two three four is = inr (eqb-true _ _ three, eqb-true _ _ four)
    go true false true false one two three four is = absurd cc
    go true false false d one two three four is = absurd cc
    go false b true true one two three four is = inr (eqb-true _ _ three, eqb-true _ _ four)
    go false b true false one two three four is = absurd cc
    go false b false d one two three four is = absurd cc
