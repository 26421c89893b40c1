-- The parts of a graph, node by node.
use Rattle.std.proofs.Common.{◌≡◌, ◌+◌, ℕ, List, [], ◌∷◌, ◌++◌, append_assoc, refl, sym, ap, ◌∙◌, arith}
use Rattle.std.specs.List.{filter, flat_map}
use Rattle.std.proofs.lemmas.List.Elements.{filter-append}
use Rattle.std.proofs.lemmas.List.FromFn.{map-range_with_len_more}
use Rattle.sp_base.specs.declared.id.NodeId.{NodeId}
use Rattle.sp_graph.specs.declared.part.Part.{Part}
use Rattle.sp_graph.specs.declared.part.Part.TheVariants as parts
use Rattle.sp_graph.specs.Split.{nodes_to, stays}

-- the two parts of a node
abbrev pub both : NodeId → List Part
both v = parts.In v ∷ parts.Out v ∷ []

-- the parts of so many nodes
abbrev pub parts_to : NodeId → NodeId → ℕ → List Part
parts_to s t nodes = filter (stays s t) (flat_map both (nodes_to nodes))

abbrev node : ℕ → NodeId
node n = record { 0 = n }

flat_push : (vs : List NodeId) (v : NodeId) → flat_map both (vs ++ v ∷ []) ≡ flat_map both vs ++ both v
flat_push [] v = refl
flat_push (u ∷ vs) v = ap (λ (rest : List Part). parts.In u ∷ parts.Out u ∷ rest) (flat_push vs v)

-- the parts of one node more
pub parts_more : (s t : NodeId) (n : ℕ) (now half new : List Part) → now ≡ parts_to s t n → half ≡ now ++ filter (stays s t) (parts.In (node (n + 1)) ∷ [])
    → new ≡ half ++ filter (stays s t) (parts.Out (node (n + 1)) ∷ []) → new ≡ parts_to s t (n + 1)
parts_more s t n now half new so_far one two =
    let there = stays s t in
    let first : List Part = parts.In (node (n + 1)) ∷ [] in
    let second : List Part = parts.Out (node (n + 1)) ∷ [] in
    let nodes : nodes_to (n + 1) ≡ nodes_to n ++ node (n + 1) ∷ [] = map-range_with_len_more node 1 n (n + 1) (omega arith) in
    two ∙ ap (λ (ps : List Part). ps ++ filter there second) (one ∙ ap (λ (ps : List Part). ps ++ filter there first) so_far)
    ∙ append_assoc (parts_to s t n) (filter there first) (filter there second)
    ∙ ap (λ (ps : List Part). parts_to s t n ++ ps) (sym (filter-append there first second))
    ∙ sym (filter-append there (flat_map both (nodes_to n)) (both (node (n + 1))))
    ∙ ap (filter there) (sym (flat_push (nodes_to n) (node (n + 1))) ∙ ap (flat_map both) (sym nodes))
