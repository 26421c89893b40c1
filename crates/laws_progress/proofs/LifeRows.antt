-- The rows of lives at a node: where the row of a node stands, which of them hold an object, and the cycle of a neighbour over them.
use Rattle.std.proofs.Common.{◌≡◌, ◌<◌, ℕ, zero, suc, ◌+◌, ◌==◌, Bool, true, false, List, [], ◌∷◌, length, map, Option, Some, None, refl, sym, ap, subst}
use Rattle.std.proofs.Common.{◌∙◌, inl, inr, arith}
use Rattle.std.specs.Prelude.{is_some, option_and_then, slice_get, slice_set}
use Rattle.std.specs.List.{list_any}
use Rattle.std.proofs.lemmas.Bool.{cases_Bool, eq-eqb, eqb-true}
use Rattle.sp_base.specs.declared.id.NodeId.{NodeId}
use Rattle.sp_msg.specs.declared.kept.Kept.{Kept}
use Rattle.sp_topology.specs.declared.topology.NodeKey.{NodeKey}
use Rattle.sp_rules.specs.Lives.{boot_of, boot_said, held_boot, is_life, last_to, moved, next, next_row, object_in}
use Rattle.sp_rules.specs.Parts.{place_in}
use Rattle.sp_rules.specs.Weights.{cycles_with}
use Rattle.sp_rules.specs.declared.lives.Life.{Life}
use Rattle.laws_progress.proofs.Service.{IsWithin, is_on, number_on}

-- which rows hold an object
abbrev pub rows_held : List Life → List Bool
rows_held lives = map (λ l. is_some l.object) lives

-- all rows of these nodes
abbrev pub all_rows : List NodeKey → List Bool
all_rows nodes = map (λ n. true) nodes

-- the rows are those of these nodes, in their order
abbrev pub AreRowsOf : List NodeKey → List Life → Type 0
AreRowsOf nodes lives = map (λ l. l.node) lives ≡ map (λ n. n.id) nodes

-- ---- a row that holds an object

pub record HeldRow (lives : List Life) (place : ℕ) (o : NodeId) : Type 0 where
  pub on : is_on (rows_held lives) place ≡ true
  pub life : Life
  pub there : slice_get lives place ≡ Some life
  pub of_node : life.node.0 ≡ o.0
  pub object : Kept
  pub holds : life.object ≡ Some object
  pub boot : boot_said object.body ≡ held_boot lives o

first_row : (l : Life) (lives : List Life) (o : NodeId) → (l.node.0 == o.0) ≡ true → (object : Option Kept) → l.object ≡ object → 0 < boot_of object
    → HeldRow (l ∷ lives) 0 o
first_row l lives o mine None is some = absurd (omega (arith, some))
first_row l lives o mine (Some object) is some = record {
  on = ap is_some is;
  life = l;
  there = refl;
  of_node = eqb-true _ _ mine;
  object = object;
  holds = is;
  boot = sym (rw mine (ap boot_of is));
}

pub held_row : (nodes : List NodeKey) (lives : List Life) (o : NodeId) → AreRowsOf nodes lives → 0 < held_boot lives o → HeldRow lives (place_in nodes o) o
held_row nodes [] o same some = absurd (omega (arith, some))
held_row [] (l ∷ lives) o same some = absurd cc
held_row (n ∷ nodes) (l ∷ lives) o same some =
    let id : l.node ≡ n.id = cc in
    let rest : AreRowsOf nodes lives = cc in
    let tests : (n.id.0 == o.0) ≡ (l.node.0 == o.0) = ap (λ (v : NodeId). v.0 == o.0) (sym id) in
    elim (cases_Bool (l.node.0 == o.0)) [
      | inl t ↦
          let here : (n.id.0 == o.0) ≡ true = tests ∙ t in
          let place : place_in (n ∷ nodes) o ≡ 0 = rw here refl in
          subst (λ (p : ℕ). HeldRow (l ∷ lives) p o) (sym place) (first_row l lives o t l.object refl (rw t at some))
      | inr t ↦
          let other : (n.id.0 == o.0) ≡ false = tests ∙ t in
          let h = held_row nodes lives o rest (rw t at some) in
          let place : place_in (n ∷ nodes) o ≡ suc (place_in nodes o) = rw other (omega arith) in
          subst (λ (p : ℕ). HeldRow (l ∷ lives) p o) (sym place) (record {
            on = h.on;
            life = h.life;
            there = h.there;
            of_node = h.of_node;
            object = h.object;
            holds = h.holds;
            boot = h.boot ∙ sym (rw t refl);
          })
    ]

pub rows_within : (nodes : List NodeKey) (lives : List Life) → AreRowsOf nodes lives → IsWithin (rows_held lives) (all_rows nodes)
rows_within nodes [] same place on = absurd (let e : false ≡ true = on in cc)
rows_within [] (l ∷ lives) same place on = absurd cc
rows_within (n ∷ nodes) (l ∷ lives) same zero on = refl
rows_within (n ∷ nodes) (l ∷ lives) same (suc place) on = let rest : AreRowsOf nodes lives = cc in rows_within nodes lives rest place on

pub many_rows : (nodes : List NodeKey) → number_on (all_rows nodes) ≡ length nodes
many_rows [] = refl
many_rows (n ∷ nodes) = let h = many_rows nodes in omega (arith, h)

-- each of these nodes has a row
pub has_row : (nodes : List NodeKey) (lives : List Life) (o : NodeId) → AreRowsOf nodes lives → list_any (λ n. n.id.0 == o.0) nodes ≡ true
    → list_any (is_life o) lives ≡ true
has_row [] lives o same there = absurd (let e : false ≡ true = there in cc)
has_row (n ∷ nodes) [] o same there = absurd cc
has_row (n ∷ nodes) (l ∷ lives) o same there =
    let id : l.node ≡ n.id = cc in
    let rest : AreRowsOf nodes lives = cc in
    let tests : (l.node.0 == o.0) ≡ (n.id.0 == o.0) = ap (λ (v : NodeId). v.0 == o.0) id in
    elim (cases_Bool (n.id.0 == o.0)) [
      | inl t ↦ let mine : (l.node.0 == o.0) ≡ true = tests ∙ t in rw mine refl
      | inr t ↦ let other : (l.node.0 == o.0) ≡ false = tests ∙ t in rw other (has_row nodes lives o rest (rw t at there))
    ]

-- each row is of one of these nodes
pub row_node : (nodes : List NodeKey) (lives : List Life) (place : ℕ) (l : Life) → AreRowsOf nodes lives → slice_get lives place ≡ Some l
    → list_any (λ n. n.id.0 == l.node.0) nodes ≡ true
row_node nodes [] place l same there = absurd cc
row_node [] (k ∷ lives) place l same there = absurd cc
row_node (n ∷ nodes) (k ∷ lives) zero l same there =
    let id : k.node ≡ n.id = cc in
    let is : k ≡ l = cc in
    let mine : (n.id.0 == l.node.0) ≡ true = eq-eqb _ _ (ap (λ (v : NodeId). v.0) (sym id) ∙ ap (λ (z : Life). z.node.0) is) in
    rw mine refl
row_node (n ∷ nodes) (k ∷ lives) (suc place) l same there =
    let rest : AreRowsOf nodes lives = cc in
    let later = row_node nodes lives place l rest there in
    elim (cases_Bool (n.id.0 == l.node.0)) [ inl t ↦ rw t refl | inr t ↦ rw t later ]

-- ---- the next object for a neighbour

pub next_is : (lives : List Life) (origins : List (Option ℕ)) (v place : ℕ) (o : NodeId) → (h : HeldRow lives place o) → next_row lives origins v ≡ Some place
    → next lives origins v ≡ Some h.object
next_is lives origins v place o h carried =
    ap (option_and_then (object_in lives)) carried ∙ ap (option_and_then (λ (l : Life). l.object)) h.there ∙ h.holds

-- ---- places

pub place_low : (nodes : List NodeKey) (v : NodeId) → list_any (λ n. n.id.0 == v.0) nodes ≡ true → place_in nodes v < length nodes
place_low [] v there = absurd (let e : false ≡ true = there in cc)
place_low (n ∷ nodes) v there = elim (cases_Bool (n.id.0 == v.0)) [
  | inl t ↦ rw t (omega arith)
  | inr t ↦ let h = place_low nodes v (rw t at there) in rw t (omega (arith, h))
]

-- another node has another place
pub place_apart : (nodes : List NodeKey) (u v : NodeId) → list_any (λ n. n.id.0 == v.0) nodes ≡ true → place_in nodes u ≡ place_in nodes v → u.0 ≡ v.0
place_apart [] u v there same = absurd (let e : false ≡ true = there in cc)
place_apart (n ∷ nodes) u v there same = elim (cases_Bool (n.id.0 == v.0)) [
  | inl t ↦ elim (cases_Bool (n.id.0 == u.0)) [
    | inl z ↦ sym (eqb-true _ _ z) ∙ eqb-true _ _ t
    | inr z ↦ absurd (let e : place_in nodes u + 1 ≡ 0 = rw (t, z) at same in omega (arith, e))
  ]
  | inr t ↦ elim (cases_Bool (n.id.0 == u.0)) [
    | inl z ↦ absurd (let e : 0 ≡ place_in nodes v + 1 = rw (t, z) at same in omega (arith, e))
    | inr z ↦
        let e : place_in nodes u + 1 ≡ place_in nodes v + 1 = rw (t, z) at same in
        place_apart nodes u v (rw t at there) (omega (arith, e))
  ]
]

-- ---- the row that went last

set_here : (origins : List (Option ℕ)) (v : ℕ) (row : Option ℕ) → v < length origins → last_to (slice_set origins v row) v ≡ row
set_here [] v row low = absurd (omega (arith, low))
set_here (x ∷ origins) zero row low = refl
set_here (x ∷ origins) (suc v) row low = set_here origins v row (omega (arith, low))

set_there : (origins : List (Option ℕ)) (u v : ℕ) (row : Option ℕ) → (u ≡ v → ⊥) → last_to (slice_set origins u row) v ≡ last_to origins v
set_there [] u v row away = refl
set_there (x ∷ origins) zero zero row away = absurd (away refl)
set_there (x ∷ origins) zero (suc v) row away = refl
set_there (x ∷ origins) (suc u) zero row away = refl
set_there (x ∷ origins) (suc u) (suc v) row away = set_there origins u v row (λ same. away (ap (λ (k : ℕ). suc k) same))

pub moved_here : (lives : List Life) (origins : List (Option ℕ)) (v row : ℕ) → v < length origins → next_row lives origins v ≡ Some row
    → last_to (moved lives origins v) v ≡ Some row
moved_here lives origins v row low is = ap (λ (r : Option ℕ). last_to (cycles_with origins v r) v) is ∙ set_here origins v (Some row) low

pub moved_there : (lives : List Life) (origins : List (Option ℕ)) (u v : ℕ) → (u ≡ v → ⊥) → last_to (moved lives origins u) v ≡ last_to origins v
moved_there lives origins u v away = go (next_row lives origins u)
  where
    go : (r : Option ℕ) → last_to (cycles_with origins u r) v ≡ last_to origins v
    go None = refl
    go (Some row) = set_there origins u v (Some row) away
