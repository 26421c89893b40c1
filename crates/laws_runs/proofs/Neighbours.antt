-- The links of a node, in every state: one for each edge at it, with that edge's key.
use Rattle.std.proofs.Common.{◌≡◌, ◌<◌, ℕ, suc, ◌+◌, ◌==◌, ◌&&◌, ◌||◌, Bool, true, false, cond, eqb, not, nat_lt, List, [], ◌∷◌, ◌++◌, length, map, zip, Option}
use Rattle.std.proofs.Common.{Some, None, refl, sym, ap, ◌∙◌, inl, inr, arith}
use Rattle.std.specs.List.{list_any, position, position_or_len}
use Rattle.std.proofs.lemmas.Bool.{cases_Bool, eqb-true}
use Rattle.std.proofs.lemmas.Bool.Decides.{nat_tests}
use Rattle.sp_base.specs.Rows.{first_where}
use Rattle.sp_base.specs.declared.id.EdgeId.{EdgeId}
use Rattle.sp_base.specs.declared.id.NodeId.{NodeId}
use Rattle.sp_msg.specs.declared.kept.Kept.{Kept}
use Rattle.sp_rules.specs.Link.{Link, new_link}
use Rattle.sp_rules.specs.Node.{NodeState, is_link, is_neighbour}
use Rattle.sp_rules.specs.Parts.{Fixed, neighbours_of}
use Rattle.sp_topology.specs.Neighbours.{joins, neighbour, neighbours_from, other_end}
use Rattle.sp_topology.specs.declared.topology.Edge.{Edge}
use Rattle.laws_node.specs.Shapes.{LinkShape, Shape, link_shape}
use Rattle.sp_runs.specs.Runs.{is_hop}
use Rattle.sp_runs.specs.Settings.{Setting, fixed_at}
use Rattle.laws_runs.specs.Calls.{LinksHaveTheirKeys}
use Rattle.laws_runs.specs.Signs.{Good, NodeIs}
use Rattle.laws_runs.proofs.Signed.{signs}

-- ---- an edge at a node leads to its other end

or_swap : (s t : Bool) → (s || t) ≡ (t || s)
or_swap true true = refl
or_swap true false = refl
or_swap false true = refl
or_swap false false = refl

joins_swap : (u v : ℕ) (edges : List Edge) → list_any (joins u v) edges ≡ list_any (joins v u) edges
joins_swap u v [] = refl
joins_swap u v (e ∷ edges) =
    ap (λ t. t || list_any (joins u v) edges) (or_swap ((e.low.0 == u) && (e.high.0 == v)) ((e.low.0 == v) && (e.high.0 == u)))
    ∙ ap (λ t. joins v u e || t) (joins_swap u v edges)

-- a hop leads both ways
pub hop_back : (x : Setting) (u v : NodeId) → is_hop x u v ≡ is_hop x v u
hop_back x u v = joins_swap u.0 v.0 x.topology.edges

abbrev leads : NodeId → Option NodeId → Bool
leads v None = false
leads v (Some w) = w.0 == v.0

end_joins : (u v : NodeId) (e : Edge) → joins u.0 v.0 e ≡ leads v (other_end u.0 e)
end_joins u v e = elim (cases_Bool (eqb e.low.0 u.0)) [
  | inl t ↦ elim (cases_Bool (eqb e.high.0 v.0)) [
    | inl y ↦ rw (t, y) refl
    | inr y ↦ elim (cases_Bool (eqb e.low.0 v.0)) [
      | inl z ↦
          let uv : u.0 ≡ v.0 = sym (eqb-true _ _ t) ∙ eqb-true _ _ z in
          let off : (e.high.0 == u.0) ≡ false = ap (λ n. e.high.0 == n) uv ∙ y in
          rw (t, y, z, off) refl
      | inr z ↦ rw (t, y, z) refl
    ]
  ]
  | inr t ↦ elim (cases_Bool (eqb e.high.0 u.0)) [
    | inl y ↦ elim (cases_Bool (eqb e.low.0 v.0)) [
      | inl z ↦ rw (t, y, z) refl
      | inr z ↦ rw (t, y, z) refl
    ]
    | inr y ↦ elim (cases_Bool (eqb e.low.0 v.0)) [
      | inl z ↦ rw (t, y, z) refl
      | inr z ↦ rw (t, y, z) refl
    ]
  ]
]

-- ---- links by their shapes

abbrev is_of : NodeId → LinkShape → Bool
is_of v s = s.peer.0 == v.0

any_link : (v : NodeId) (ls : List Link) → list_any (is_link v) ls ≡ list_any (is_of v) (map link_shape ls)
any_link v [] = refl
any_link v (l ∷ ls) = ap (λ t. (l.peer.0 == v.0) || t) (any_link v ls)

first_key : (v : NodeId) (none : Link) (ls : List Link)
    → (first_where (is_link v) none ls).key ≡ (first_where (is_of v) (link_shape none) (map link_shape ls)).key
first_key v none [] = refl
first_key v none (l ∷ ls) = by (l.peer.0 == v.0) (first_key v none ls)
  where
    by : (t : Bool) → (first_where (is_link v) none ls).key ≡ (first_where (is_of v) (link_shape none) (map link_shape ls)).key
        → (cond t l (first_where (is_link v) none ls)).key ≡ (cond t (link_shape l) (first_where (is_of v) (link_shape none) (map link_shape ls))).key
    by true rest = refl
    by false rest = rest

-- ---- at the start of a life

abbrev start_links : Setting → Fixed → List (NodeId × EdgeId) → List LinkShape
start_links x f ns = map (λ n. record { me = f.me; peer = n.0.0; boot = f.boot; key = n.1 }) (zip ns (map (λ n. x.link_key n.1.0) ns))

links_are : (x : Setting) (P : Kept → Type 0) (u : NodeId) (n : NodeState) → NodeIs x P u n
    → map link_shape n.links ≡ start_links x (fixed_at x u n.fixed.boot) (neighbours_of (fixed_at x u n.fixed.boot))
links_are x P u n is = ap (λ (s : Shape). s.links) is.shape

start_any : (x : Setting) (f : Fixed) (u v : NodeId) (place : ℕ) (edges : List Edge)
    → list_any (is_of v) (start_links x f (neighbours_from u.0 place edges)) ≡ list_any (joins u.0 v.0) edges
start_any x f u v place [] = refl
start_any x f u v place (e ∷ edges) = go (other_end u.0 e) (end_joins u v e) (start_any x f u v (place + 1) edges)
  where
    go : (o : Option NodeId) → joins u.0 v.0 e ≡ leads v o
        → list_any (is_of v) (start_links x f (neighbours_from u.0 (place + 1) edges)) ≡ list_any (joins u.0 v.0) edges
        → list_any (is_of v) (start_links x f (neighbour place o ++ neighbours_from u.0 (place + 1) edges))
        ≡ (joins u.0 v.0 e || list_any (joins u.0 v.0) edges)
    go None is rest = rest ∙ ap (λ t. t || list_any (joins u.0 v.0) edges) (sym is)
    go (Some w) is rest = ap (λ t. (w.0 == v.0) || t) rest ∙ ap (λ t. t || list_any (joins u.0 v.0) edges) (sym is)

start_key : (x : Setting) (f : Fixed) (none : LinkShape) (u v : NodeId) (place : ℕ) (edges : List Edge) → list_any (joins u.0 v.0) edges ≡ true
    → (first_where (is_of v) none (start_links x f (neighbours_from u.0 place edges))).key ≡ x.link_key (place + position_or_len (joins u.0 v.0) edges)
start_key x f none u v place [] some = absurd (let e : false ≡ true = some in cc)
start_key x f none u v place (e ∷ edges) some = go (other_end u.0 e) (end_joins u v e) (λ t. start_key x f none u v (place + 1) edges t)
  where
    later : ℕ
    later = position_or_len (joins u.0 v.0) edges

    on : (t : Bool) → joins u.0 v.0 e ≡ t → place + position_or_len (joins u.0 v.0) (e ∷ edges) ≡ cond t place (place + 1 + later)
    on true is = rw is (omega arith)
    on false is = rw is (omega arith)

    go : (o : Option NodeId) → joins u.0 v.0 e ≡ leads v o
        → (list_any (joins u.0 v.0) edges ≡ true
        → (first_where (is_of v) none (start_links x f (neighbours_from u.0 (place + 1) edges))).key ≡ x.link_key (place + 1 + later))
        → (first_where (is_of v) none (start_links x f (neighbour place o ++ neighbours_from u.0 (place + 1) edges))).key
        ≡ x.link_key (place + position_or_len (joins u.0 v.0) (e ∷ edges))
    go None is rest = rest (rw is at some) ∙ ap x.link_key (sym (on false is))
    go (Some w) is rest = elim (cases_Bool (eqb w.0 v.0)) [
      | inl t ↦ rw t (ap x.link_key (sym (on true (is ∙ t))))
      | inr t ↦ rw t (rest (rw (is ∙ t) at some) ∙ ap x.link_key (sym (on false (is ∙ t))))
    ]

-- ---- in every state

pub neighbour_there : (x : Setting) (P : Kept → Type 0) (u v : NodeId) (n : NodeState) → NodeIs x P u n → is_hop x u v ≡ true → is_neighbour n v ≡ true
neighbour_there x P u v n is hop =
    any_link v n.links ∙ ap (list_any (is_of v)) (links_are x P u n is) ∙ start_any x (fixed_at x u n.fixed.boot) u v 0 x.topology.edges ∙ hop

any_before : {X : Type 0} (test : X → Bool) (xs : List X) → position_or_len test xs < length xs → list_any test xs ≡ true
any_before test [] within = absurd (omega (arith, within))
any_before test (y ∷ xs) within = elim (cases_Bool (test y)) [
  | inl t ↦ rw t refl
  | inr t ↦ let more : 1 + position_or_len test xs < suc (length xs) = rw t at within in rw t (any_before test xs (omega (arith, more)))
]

pub record IsPlace {X : Type 0} (test : X → Bool) (xs : List X) (place : ℕ) : Type 0 where
  pub some : list_any test xs ≡ true
  pub first : position_or_len test xs ≡ place

pub at_place : {X : Type 0} (test : X → Bool) (xs : List X) (place : ℕ) → position test xs ≡ Some place → IsPlace test xs place
at_place test xs place is = go (nat_lt (position_or_len test xs) (length xs)) refl is
  where
    go : (t : Bool) → nat_lt (position_or_len test xs) (length xs) ≡ t → cond t (Some (position_or_len test xs)) None ≡ Some place → IsPlace test xs place
    go true within e = record { some = any_before test xs (grind (arith, nat_tests, within)); first = cc }
    go false within e = absurd cc

pub links_have_their_keys : LinksHaveTheirKeys
links_have_their_keys arts x es js w fits carries run u v n edge at joined =
    let is = (signs arts x es js w fits carries run).nodes v n at in
    let there = at_place (joins u.0 v.0) x.topology.edges edge joined in
    let same = same_place u.0 v.0 x.topology.edges in
    let some : list_any (joins v.0 u.0) x.topology.edges ≡ true = sym (joins_swap u.0 v.0 x.topology.edges) ∙ there.some in
    let place : position_or_len (joins v.0 u.0) x.topology.edges ≡ edge = sym same ∙ there.first in
    let none = link_shape (new_link n.fixed.me u 0 []) in
    first_key u (new_link n.fixed.me u 0 []) n.links
    ∙ ap (λ (ls : List LinkShape). (first_where (is_of u) none ls).key) (links_are x (Good arts x es js) v n is)
    ∙ start_key x (fixed_at x v n.fixed.boot) none v u 0 x.topology.edges some
    ∙ ap x.link_key (omega (arith, place))
  where
    same_place : (a b : ℕ) (edges : List Edge) → position_or_len (joins a b) edges ≡ position_or_len (joins b a) edges
    same_place a b [] = refl
    same_place a b (e ∷ edges) =
        ap (λ t. cond (not t) (1 + position_or_len (joins a b) edges) 0) (or_swap ((e.low.0 == a) && (e.high.0 == b)) ((e.low.0 == b) && (e.high.0 == a)))
        ∙ ap (λ n. cond (not (joins b a e)) (1 + n) 0) (same_place a b edges)
