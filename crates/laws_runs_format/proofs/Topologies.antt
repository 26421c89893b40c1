-- The topology of a header in its ranges is in its ranges: its ids ascend from 1, its keys are of their form, and its edges are the graph's.
use Rattle.std.proofs.Common.{◌≡◌, ◌<◌, ◌≤◌, ℕ, zero, suc, ◌+◌, ◌==◌, ◌||◌, Bool, true, false, List, [], ◌∷◌, ◌++◌, codes, length, length-append, map, drop}
use Rattle.std.proofs.Common.{refl, sym, ap, subst, ◌∙◌, inl, inr, arith}
use Rattle.std.specs.List.{All, AllPairs, range_with_len}
use Rattle.std.specs.Prelude.{if◌then◌else◌}
use Rattle.std.proofs.lemmas.Bool.{cases_Bool, eq-eqb}
use Rattle.std.proofs.lemmas.List.{length-take-le}
use Rattle.std.proofs.lemmas.List.Elements.{All-cons, All-head, All-nil, All-tail}
use Rattle.std.proofs.lemmas.List.FromFn.{length-range_with_len}
use Rattle.byteorder.specs.Endian.{big_number}
use Rattle.sha2.proofs.Facts256.{length-sha256}
use Rattle.sp_base.specs.Formats.{max_nodes}
use Rattle.sp_base.specs.declared.format.TheConstants.{FORMAT_1}
use Rattle.sp_graph.specs.Edges as graphs
use Rattle.sp_hmac.proofs.Lengths.{length-hmac}
use Rattle.sp_hmac.specs.Hmac.{hmac}
use Rattle.sp_hss.specs.KeyTree.{name, public_key, tree_id, tree_key, tree_seed}
use Rattle.sp_hss.specs.declared.tree.Tree.TheVariants.{Upper}
use Rattle.sp_lms.specs.Keys as keys
use Rattle.sp_lms.specs.Keys.{root, seed_leaf}
use Rattle.sp_lms.specs.Parameters.{height, typecode}
use Rattle.sp_lms.specs.Trees.{inner_hash, leaf_hash, tree_node}
use Rattle.sp_lms.specs.declared.param.LmsParam.{LmsParam}
use Rattle.sp_ots.specs.Parameters as ots
use Rattle.sp_ots.specs.Strings.{u32str}
use Rattle.sp_ots.specs.declared.param.OtsParam.{OtsParam}
use Rattle.sp_ots.specs.declared.param.OtsParam.TheVariants.{W4}
use Rattle.sp_sign.specs.Heights.{param_of}
use Rattle.sp_topology.specs.Heights.{typecode_of}
use Rattle.sp_topology.specs.Ranges.{AreEdges, AreNodes, IsBelow, IsKey, ends_of, has_id, ids_of, least_weight}
use Rattle.sp_topology.specs.declared.topology.Edge.{Edge}
use Rattle.sp_topology.specs.declared.topology.LmsHeight.{LmsHeight}
use Rattle.sp_topology.specs.declared.topology.LmsHeight.TheVariants.{Five, Ten}
use Rattle.sp_runs.specs.Scenarios.{node_key, node_seed, topology_of}
use Rattle.laws_runs_format.specs.Headers.{TopologiesFit}
use Rattle.laws_runs_format.proofs.Signatures.{public_key_are}

-- ---- a key

levels : (h : LmsHeight) (seed : List ℕ) → big_number 4 (public_key (param_of h) seed) ≡ 2
unfolding public_key u32str
levels Five seed = refl
levels Ten seed = refl

tree : (h : LmsHeight) (seed : List ℕ) → big_number 4 (drop 4 (public_key (param_of h) seed)) ≡ typecode_of h
unfolding public_key u32str keys.public_key
tree Five seed = refl
tree Ten seed = refl

one_time : (h : LmsHeight) (seed : List ℕ) → big_number 4 (drop 8 (public_key (param_of h) seed)) ≡ 3
unfolding public_key u32str keys.public_key
one_time Five seed = refl
one_time Ten seed = refl

word_long : (x : ℕ) → length (u32str x) ≡ 4
unfolding u32str
word_long x = refl

leaf_long : (lms : LmsParam) (p : OtsParam) (id seed : List ℕ) (r : ℕ) → length (seed_leaf lms p id seed r) ≡ 32
unfolding seed_leaf leaf_hash
leaf_long lms p id seed r = length-sha256 _

node_long : (id : List ℕ) (leaf : ℕ → List ℕ) → ((r : ℕ) → length (leaf r) ≡ 32) → (level r : ℕ) → length (tree_node id leaf level r) ≡ 32
unfolding tree_node inner_hash
node_long id leaf each zero r = each r
node_long id leaf each (suc level) r = length-sha256 _

four_long : (a b c d : List ℕ) → length (a ++ b ++ c ++ d) ≡ length a + length b + length c + length d
four_long a b c d =
    let one = length-append (a ++ b ++ c) d in
    let two = length-append (a ++ b) c in
    let three = length-append a b in
    omega (arith, one, two, three)

id_long : (seed : List ℕ) → length (tree_id seed Upper) ≡ 16
unfolding tree_id
id_long seed =
    let tag = hmac seed (codes "I" ++ name Upper) in
    let long = length-hmac seed (codes "I" ++ name Upper) in
    length-take-le 16 tag (omega (arith, long))

tree_key_long : (lms : LmsParam) (p : OtsParam) (id seed : List ℕ) → length id ≡ 16 → length (keys.public_key lms p id seed) ≡ 56
unfolding keys.public_key
tree_key_long lms p id seed long =
    let all = four_long (u32str (typecode lms)) (u32str (ots.typecode p)) id (root lms p id seed) in
    let top = node_long id (seed_leaf lms p id seed) (leaf_long lms p id seed) (height lms) 1 in
    omega (arith, all, word_long (typecode lms), word_long (ots.typecode p), long, top)

pub key_long : (h : LmsParam) (seed : List ℕ) → length (public_key h seed) ≡ 60
unfolding public_key
key_long h seed =
    let below = tree_key_long h W4 (tree_id seed Upper) (tree_seed seed Upper) (id_long seed) in
    let all = length-append (u32str 2) (tree_key h seed Upper) in
    omega (arith, all, word_long 2, below)

is_key : (h : LmsHeight) (seed : List ℕ) → IsKey h (public_key (param_of h) seed)
is_key h seed = record {
  long = key_long (param_of h) seed;
  bytes = public_key_are (param_of h) seed;
  levels = levels h seed;
  tree = tree h seed;
  one_time = one_time h seed;
}

-- ---- the nodes

nodes_are : (format : ℕ) (h : LmsHeight) (seed : List ℕ) (before count : ℕ) → before + count ≤ max_nodes format
    → AreNodes format h before (map (node_key h seed) (range_with_len (before + 1) count))
nodes_are format h seed before zero most = tt
nodes_are format h seed before (suc count) most =
    ((omega arith, omega (arith, most)), is_key h (node_seed seed (before + 1)), nodes_are format h seed (before + 1) count (omega (arith, most)))

ids_are : (h : LmsHeight) (seed : List ℕ) (us : List ℕ) → ids_of (map (node_key h seed) us) ≡ us
ids_are h seed [] = refl
ids_are h seed (u ∷ us) = ap (λ (ids : List ℕ). u ∷ ids) (ids_are h seed us)

or_true : (a : Bool) → (a || true) ≡ true
or_true true = refl
or_true false = refl

has : (first count id : ℕ) → first ≤ id → id < first + count → has_id id (range_with_len first count) ≡ true
has first zero id least most = absurd (omega (arith, least, most))
has first (suc count) id least most = elim (cases_Bool (first == id)) [
  | inl t ↦ rw t refl
  | inr t ↦
      let other : first ≡ id → ⊥ = λ same. absurd (let wrong : true ≡ false = sym (eq-eqb first id same) ∙ t in cc) in
      rw t (has (first + 1) count id (above first id least other) (omega (arith, most)))
]
  where
    above : (a b : ℕ) → a ≤ b → (a ≡ b → ⊥) → a + 1 ≤ b
    above a b least other = omega (arith, least, other)

-- ---- the edges

pairs_head : {X : Type 0} (R : X → X → Type 0) (x : X) (xs : List X) → AllPairs R (x ∷ xs) → All (R x) xs
pairs_head R x xs h = λ j d within. h 0 (suc j) d (omega arith) (omega (arith, within))

pairs_tail : {X : Type 0} (R : X → X → Type 0) (x : X) (xs : List X) → AllPairs R (x ∷ xs) → AllPairs R xs
pairs_tail R x xs h = λ i j d below within. h (suc i) (suc j) d (omega (arith, below)) (omega (arith, within))

least_is_low : (format : ℕ) → least_weight format ≤ 1
least_is_low format = go (format == FORMAT_1)
  where
    go : (b : Bool) → (if b then 1 else 0) ≤ 1
    go true = omega arith
    go false = omega arith

edges_are : (format nodes : ℕ) (before : ℕ × ℕ) (edges : List Edge) → All (λ e. IsBelow before (ends_of e)) edges → All (graphs.IsEdge nodes) edges
    → AllPairs graphs.IsLower edges → AreEdges format (range_with_len 1 nodes) before edges
edges_are format nodes before [] after each ascend = tt
edges_are format nodes before (e ∷ edges) after each ascend =
    let is = All-head (graphs.IsEdge nodes) e edges each in (
      record {
        ascend = is.1;
        after = All-head (λ (f : Edge). IsBelow before (ends_of f)) e edges after;
        low = has 1 nodes e.low.0 is.0 (omega (arith, is.1, is.2));
        high = has 1 nodes e.high.0 (omega (arith, is.0, is.1)) (omega (arith, is.2));
      },
      (omega (arith, is.3.0, least_is_low format), is.3.1),
      edges_are format nodes (ends_of e) edges (pairs_head graphs.IsLower e edges ascend)
          (All-tail (graphs.IsEdge nodes) e edges each) (pairs_tail graphs.IsLower e edges ascend),
    )

first_after : (nodes : ℕ) (edges : List Edge) → All (graphs.IsEdge nodes) edges → All (λ e. IsBelow (0, 0) (ends_of e)) edges
first_after nodes [] each = All-nil (λ (e : Edge). IsBelow (0, 0) (ends_of e))
first_after nodes (e ∷ edges) each =
    let is = All-head (graphs.IsEdge nodes) e edges each in
    All-cons (λ (f : Edge). IsBelow (0, 0) (ends_of f)) e edges (inl (omega (arith, is.0)))
    (first_after nodes edges (All-tail (graphs.IsEdge nodes) e edges each))

-- ---- a topology

-- no edge of a header is withdrawn
pub whole : (nodes : ℕ) (edges : List Edge) → All (graphs.IsEdge nodes) edges → All (λ (e : Edge). 1 ≤ e.weight) edges
whole nodes [] each = All-nil (λ (e : Edge). 1 ≤ e.weight)
whole nodes (e ∷ edges) each =
    All-cons (λ (f : Edge). 1 ≤ f.weight) e edges (All-head (graphs.IsEdge nodes) e edges each).3.0
    (whole nodes edges (All-tail (graphs.IsEdge nodes) e edges each))

pub topologies_fit : TopologiesFit
topologies_fit s good =
    let format = s.format in
    let graph = good.graph in
    let count = s.graph.nodes in
    let ids = ids_are s.height s.seed (range_with_len 1 count) in
    let long : length (ids_of (topology_of s).nodes) ≡ count = ap (λ (xs : List ℕ). length xs) ids ∙ length-range_with_len 1 count in
    record {
      ranges = record {
        format = good.format;
        version = omega arith;
        nodes = nodes_are format s.height s.seed 0 count (omega (arith, graph.nodes.1));
        graph = record {
          node_count = (omega (arith, long, graph.nodes.0), omega (arith, long, graph.nodes.1));
          edge_count = graph.few;
          are_edges = subst (λ (xs : List ℕ). AreEdges format xs (0, 0) s.graph.edges) (sym ids)
              (edges_are format count (0, 0) s.graph.edges (first_after count s.graph.edges graph.edges) graph.edges graph.ascend);
        };
      };
    }
