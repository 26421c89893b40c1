-- Parts and paths are small.
use Rattle.std.proofs.Common.{◌≡◌, ◌+◌, ◌*◌, ◌<◌, ◌≤◌, ℕ, zero, suc, List, [], ◌∷◌, length, map, refl, sym, ap, subst, ◌∙◌, inl, inr, arith}
use Rattle.std.specs.Prelude.{◌⊎◌}
use Rattle.std.specs.List.{All, flat_map, range_with_len}
use Rattle.sp_base.specs.declared.id.NodeId.{NodeId}
use Rattle.sp_base.specs.declared.limits.TheConstants.{MAX_NODES_2}
use Rattle.sp_graph.specs.declared.graph.Graph.{Graph}
use Rattle.sp_graph.specs.declared.part.Part.{Part}
use Rattle.sp_graph.specs.declared.part.Part.TheVariants as parts
use Rattle.sp_graph.specs.Disjoint.{Disjoint}
use Rattle.sp_graph.specs.Edges.{IsGraph}
use Rattle.sp_graph.specs.Split.{nodes_to, parts_of, stays}
use Rattle.sp_graph.specs.Walks.{IsPath, Joined, steps}
use Rattle.laws_paths.proofs.Kept.{between, has_node, in_range}
use Rattle.laws_paths.proofs.Lists.{Has, distinct, has_either, held, total, within}
use Rattle.laws_paths.proofs.Ways.{line, step_into}
use Rattle.sp_paths.specs.declared.limits.TheConstants.{PARTS}
use Rattle.sp_paths.specs.Cheapest.{IsNode}
use Rattle.sp_paths.specs.Parts.{node_of, number}
use Rattle.sp_paths.proofs.PartLists.{both}
use Rattle.sp_paths.proofs.PathLemmas.{all_from}
use Rattle.sp_paths.proofs.Shapes.{from_filter, from_map}

range_below : (a n x : ℕ) → Has (range_with_len a n) x → x < a + n
range_below a zero x h = absurd h
range_below a (suc n) x (inl e) = omega (arith, e)
range_below a (suc n) x (inr h) = omega (arith, range_below (a + 1) n x h)

range_from : (a n x : ℕ) → Has (range_with_len a n) x → a ≤ x
range_from a zero x h = absurd h
range_from a (suc n) x (inl e) = omega (arith, e)
range_from a (suc n) x (inr h) = omega (arith, range_from (a + 1) n x h)

node_small : (n : ℕ) (v : NodeId) → Has (nodes_to n) v → v.0 ≤ n
node_small n v h =
    let node : ℕ → NodeId = λ m. record { 0 = m } in
    let (m, at, e) = from_map node (range_with_len 1 n) v h in
    let same : m ≡ v.0 = ap (λ (u : NodeId). u.0) e in omega (arith, range_below 1 n m at, same)

pub node_range : (n : ℕ) (v : NodeId) → Has (nodes_to n) v → (1 ≤ v.0) × (v.0 ≤ n)
node_range n v h =
    let node : ℕ → NodeId = λ m. record { 0 = m } in
    let (m, at, e) = from_map node (range_with_len 1 n) v h in
    let same : m ≡ v.0 = ap (λ (u : NodeId). u.0) e in (omega (arith, range_from 1 n m at, same), node_small n v h)

pub part_node : (vs : List NodeId) (p : Part) → Has (flat_map both vs) p → Has vs (node_of p)
part_node [] p h = absurd h
part_node (v ∷ vs) p (inl e) = inl (ap node_of e)
part_node (v ∷ vs) p (inr (inl e)) = inl (ap node_of e)
part_node (v ∷ vs) p (inr (inr h)) = inr (part_node vs p h)

number_small : (p : Part) (n : ℕ) → (node_of p).0 ≤ n → number p < 2 * (n + 1)
number_small (parts.In v) n small = omega (arith, small)
number_small (parts.Out v) n small = omega (arith, small)

pub parts_small : (g : Graph) (s t : NodeId) → IsGraph g → All (λ part. ((node_of part).0 ≤ MAX_NODES_2) × (number part < PARTS)) (parts_of g s t)
parts_small g s t right = all_from (λ part. ((node_of part).0 ≤ MAX_NODES_2) × (number part < PARTS)) (parts_of g s t) (λ p h.
    let at = from_filter (stays s t) (flat_map both (nodes_to g.nodes)) p h in
    let small = node_small g.nodes (node_of p) (part_node (nodes_to g.nodes) p at.0) in
    let few : (node_of p).0 ≤ MAX_NODES_2 = omega (arith, small, right.nodes.1) in
    (few, number_small p MAX_NODES_2 few))

ones : {X : Type 0} (xs : List X) → total (λ x. 1) xs ≡ length xs
ones [] = refl
ones (x ∷ xs) = omega (arith, ones xs)

nodes_count : (n : ℕ) → length (nodes_to n) ≡ n
nodes_count n = mapped (range_with_len 1 n) ∙ counted 1 n
  where
    mapped : (ns : List ℕ) → length (map {A = ℕ} {B = NodeId} (λ m. record { 0 = m }) ns) ≡ length ns
    mapped [] = refl
    mapped (m ∷ ns) = omega (arith, mapped ns)

    counted : (a m : ℕ) → length (range_with_len a m) ≡ m
    counted a zero = refl
    counted a (suc m) = omega (arith, counted (a + 1) m)

-- a path has no more nodes than the graph
path_short : (g : Graph) (s t : NodeId) (path : List NodeId) → IsGraph g → IsNode g s → IsNode g t → IsPath g s t path → length path ≤ g.nodes
path_short g s t path right from to good =
    let most = within (λ v. 1) path (nodes_to g.nodes) (distinct path good.once) (λ v h some. has_node g.nodes v (small v h).0 (small v h).1) in
    omega (arith, most, ones path, ones (nodes_to g.nodes), nodes_count g.nodes)
  where
    inside : (v : NodeId) → Has (good.ends.0) v → (1 ≤ v.0) × (v.0 ≤ g.nodes)
    inside v h =
        let (a, at) = step_into s good.ends.0 t v h in
        in_range g a v right
        (between g a v (held (Joined g) (steps path) (a, v) good.joined (subst (λ (p : List NodeId). Has (steps p) (a, v)) (sym good.ends.1) at)))

    last : (v : NodeId) → Has good.ends.0 v ⊎ Has (t ∷ []) v → (1 ≤ v.0) × (v.0 ≤ g.nodes)
    last v (inl h) = inside v h
    last v (inr (inl e)) = subst (λ (u : NodeId). (1 ≤ u.0) × (u.0 ≤ g.nodes)) e to
    last v (inr (inr h)) = absurd h

    in_line : (v : NodeId) → Has (line s good.ends.0 t) v → (1 ≤ v.0) × (v.0 ≤ g.nodes)
    in_line v (inl e) = subst (λ (u : NodeId). (1 ≤ u.0) × (u.0 ≤ g.nodes)) e from
    in_line v (inr h) = last v (has_either good.ends.0 (t ∷ []) v h)

    small : (v : NodeId) → Has path v → (1 ≤ v.0) × (v.0 ≤ g.nodes)
    small v h = in_line v (subst (λ (p : List NodeId). Has p v) good.ends.1 h)

pub paths_short : (g : Graph) (s t : NodeId) (k : ℕ) (ps : List (List NodeId)) → IsGraph g → IsNode g s → IsNode g t → Disjoint g s t k ps
    → All (λ path. length path ≤ MAX_NODES_2) ps
paths_short g s t k ps right from to good =
    all_from (λ path. length path ≤ MAX_NODES_2) ps
    (λ path h. omega (arith, path_short g s t path right from to (held (IsPath g s t) ps path good.are_paths h), right.nodes.1))
