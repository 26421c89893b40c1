-- Both ends of an edge have the same key of its tags, in every state: that of the first edge that joins them.
use Rattle.std.proofs.Common.{◌≡◌, ℕ, ◌+◌, ◌==◌, ◌&&◌, ◌||◌, Bool, true, false, cond, eqb, List, [], ◌∷◌, ◌++◌, map, zip, Option, Some, None, refl, sym, ap}
use Rattle.std.proofs.Common.{◌∙◌, inl, inr}
use Rattle.std.specs.List.{list_any}
use Rattle.std.proofs.lemmas.Bool.{cases_Bool, eqb-true}
use Rattle.sp_base.specs.Rows.{first_where}
use Rattle.sp_base.specs.declared.id.EdgeId.{EdgeId}
use Rattle.sp_base.specs.declared.id.NodeId.{NodeId}
use Rattle.sp_rules.specs.Arts.{Arts}
use Rattle.sp_rules.specs.Link.{Link, new_link}
use Rattle.sp_rules.specs.Node.{NodeState, booted, is_link, link_in, link_of}
use Rattle.sp_rules.specs.Parts.{Fixed}
use Rattle.sp_topology.specs.Neighbours.{joins, neighbour, neighbours_from, other_end}
use Rattle.sp_topology.specs.declared.topology.Edge.{Edge}
use Rattle.laws_node.proofs.Shapes.{shapes_begin}
use Rattle.laws_node.specs.Shapes.{LinkShape, Shape, link_shape, shape_of}
use Rattle.laws_runs.specs.Premises.{Carries}
use Rattle.sp_runs.specs.Runs.{Clean, is_hop}
use Rattle.sp_runs.specs.Settings.{Setting, SettingFits, fixed_at, link_keys, signer_from}
use Rattle.sp_runs.specs.Worlds.{World, node_in}
use Rattle.sp_journal.specs.declared.entry.Entry.{Entry}
use Rattle.sp_schedule_events.specs.declared.event.Event.{Event}
use Rattle.laws_progress.proofs.Rows.{link_there, rows_are, shape_is}

-- ---- the first edge that joins two nodes

abbrev pub first_edge : NodeId → NodeId → ℕ → List Edge → ℕ
first_edge u v place [] = place
first_edge u v place (e ∷ edges) = cond (joins u.0 v.0 e) place (first_edge u v (place + 1) edges)

or_swap : (s t : Bool) → (s || t) ≡ (t || s)
or_swap true true = refl
or_swap true false = refl
or_swap false true = refl
or_swap false false = refl

pub same_edge : (u v : NodeId) (place : ℕ) (edges : List Edge) → first_edge u v place edges ≡ first_edge v u place edges
same_edge u v place [] = refl
same_edge u v place (e ∷ edges) =
    ap (λ t. cond t place (first_edge u v (place + 1) edges)) (or_swap ((e.low.0 == u.0) && (e.high.0 == v.0)) ((e.low.0 == v.0) && (e.high.0 == u.0)))
    ∙ ap (λ z. cond (joins v.0 u.0 e) place z) (same_edge u v (place + 1) edges)

abbrev pub leads : NodeId → Option NodeId → Bool
leads v None = false
leads v (Some w) = w.0 == v.0

pub end_joins : (u v : NodeId) (e : Edge) → joins u.0 v.0 e ≡ leads v (other_end u.0 e)
end_joins u v e = elim (cases_Bool (eqb e.low.0 u.0)) [
  | inl t ↦ elim (cases_Bool (eqb e.high.0 v.0)) [
    | inl y ↦ rw (t, y) refl
    | inr y ↦ elim (cases_Bool (eqb e.low.0 v.0)) [
      | inl z ↦
          let uv : u.0 ≡ v.0 = sym (eqb-true _ _ t) ∙ eqb-true _ _ z in
          let off : (e.high.0 == u.0) ≡ false = ap (λ n. e.high.0 == n) uv ∙ y in
          rw (t, y, z, off) refl
      | inr z ↦ rw (t, y, z) refl
    ]
  ]
  | inr t ↦ elim (cases_Bool (eqb e.high.0 u.0)) [
    | inl y ↦ elim (cases_Bool (eqb e.low.0 v.0)) [
      | inl z ↦ rw (t, y, z) refl
      | inr z ↦ rw (t, y, z) refl
    ]
    | inr y ↦ elim (cases_Bool (eqb e.low.0 v.0)) [
      | inl z ↦ rw (t, y, z) refl
      | inr z ↦ rw (t, y, z) refl
    ]
  ]
]

-- ---- at the start

abbrev keyed_links : Setting → Fixed → List (NodeId × EdgeId) → List Link
keyed_links x f ns = map (link_of f) (zip ns (map (λ n. x.link_key n.1.0) ns))

boot_key : (x : Setting) (f : Fixed) (none : Link) (u v : NodeId) (place : ℕ) (edges : List Edge) → list_any (joins u.0 v.0) edges ≡ true
    → (first_where (is_link v) none (keyed_links x f (neighbours_from u.0 place edges))).key ≡ x.link_key (first_edge u v place edges)
boot_key x f none u v place [] some = absurd (let e : false ≡ true = some in cc)
boot_key x f none u v place (e ∷ edges) some = go (other_end u.0 e) (end_joins u v e) (λ t. boot_key x f none u v (place + 1) edges t)
  where
    go : (o : Option NodeId) → joins u.0 v.0 e ≡ leads v o
        → (list_any (joins u.0 v.0) edges ≡ true
        → (first_where (is_link v) none (keyed_links x f (neighbours_from u.0 (place + 1) edges))).key ≡ x.link_key (first_edge u v (place + 1) edges))
        → (first_where (is_link v) none (keyed_links x f (neighbour place o ++ neighbours_from u.0 (place + 1) edges))).key
        ≡ x.link_key (cond (joins u.0 v.0 e) place (first_edge u v (place + 1) edges))
    go None is rest = rest (rw is at some) ∙ ap (λ t. x.link_key (cond t place (first_edge u v (place + 1) edges))) (sym is)
    go (Some w) is rest = elim (cases_Bool (eqb w.0 v.0)) [
      | inl t ↦ let on : joins u.0 v.0 e ≡ true = is ∙ t in rw (t, on) refl
      | inr t ↦ let off : joins u.0 v.0 e ≡ false = is ∙ t in rw (t, off) (rest (rw off at some))
    ]

-- ---- over a run

-- the first row of a neighbour has the shape of its first row in a list of the same shapes
pub first_shape : (v : NodeId) (a b : Link) (ls ks : List Link) → map link_shape ls ≡ map link_shape ks → list_any (is_link v) ls ≡ true
    → link_shape (first_where (is_link v) a ls) ≡ link_shape (first_where (is_link v) b ks)
first_shape v a b [] ks same there = absurd (let e : false ≡ true = there in cc)
first_shape v a b (l ∷ ls) [] same there = absurd cc
first_shape v a b (l ∷ ls) (k ∷ ks) same there =
    let first : link_shape l ≡ link_shape k = cc in
    let rest : map link_shape ls ≡ map link_shape ks = cc in
    let peer : is_link v l ≡ is_link v k = ap (λ (s : LinkShape). s.peer.0 == v.0) first in
    elim (cases_Bool (is_link v l)) [
      | inl t ↦ let u : is_link v k ≡ true = sym peer ∙ t in rw (t, u) first
      | inr t ↦ let u : is_link v k ≡ false = sym peer ∙ t in rw (t, u) (first_shape v a b ls ks rest (rw t at there))
    ]

pub keys_are : (arts : Arts) (x : Setting) (es : List Event) (js : List Entry) (w : World) → SettingFits arts x → Carries x.topology.format arts
    → Clean arts x es js w
    → (u v : NodeId) → is_hop x u v ≡ true → (n : NodeState) → node_in w.nodes u ≡ Some n → (link_in n v).key ≡ x.link_key (first_edge u v 0 x.topology.edges)
keys_are arts x es js w fits reads run u v hop n at =
    let f = fixed_at x u n.fixed.boot in
    let signer = signer_from x u 0 n.signer.bound in
    let boot = booted f signer (link_keys x u) x.buffer x.store in
    let shape : shape_of n ≡ shape_of boot = shape_is arts x es js w fits reads run u n at ∙ sym (shapes_begin f signer (link_keys x u) x.buffer x.store) in
    let there = link_there x u v n (rows_are arts x es js w fits reads run u n at) hop in
    let same = first_shape v (new_link n.fixed.me v 0 []) (new_link u v 0 []) n.links boot.links (ap (λ (s : Shape). s.links) shape) there in
    ap (λ (s : LinkShape). s.key) same ∙ boot_key x f (new_link u v 0 []) u v 0 x.topology.edges hop
