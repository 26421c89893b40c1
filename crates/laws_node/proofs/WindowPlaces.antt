-- The window of a source, after a mark of one source, or after one was emptied.
use Rattle.std.proofs.Common.{true, false, ◌≡◌, ℕ, zero, suc, ◌+◌, ◌==◌, List, [], ◌∷◌, length, replicate, Option, Some, None, refl, sym, ap, ◌∙◌, inl, inr}
use Rattle.std.proofs.Common.{arith}
use Rattle.std.specs.Prelude.{slice_index_or}
use Rattle.std.proofs.lemmas.Bool.{cases_Bool, eqb-true, eq-eqb}
use Rattle.std.proofs.lemmas.List.{get_or-set_other, get_or-set_same, length-set}
use Rattle.sp_base.proofs.RowLemmas.{first_where-no_position}
use Rattle.sp_base.specs.Rows.{first_where}
use Rattle.sp_base.specs.declared.id.NodeId.{NodeId}
use Rattle.sp_rules.specs.Prio.{is_node, place_of, window_at, windows_less, windows_with}
use Rattle.sp_rules.specs.Window.{with_mark}
use Rattle.laws_node.proofs.Updates.{find_place, place_within}

-- ---- windows by their places

-- two nodes in one place are one
pub one_place : (nodes : List NodeId) (a b i : ℕ) → place_of nodes a ≡ Some i → place_of nodes b ≡ Some i → a ≡ b
one_place nodes a b i p q =
    let one = find_place (λ (n : NodeId). n.0 == a) nodes i p in
    let two = find_place (λ (n : NodeId). n.0 == b) nodes i q in
    let same : Some one.0 ≡ Some two.0 = sym one.1 ∙ two.1 in
    let is : one.0 ≡ two.0 = cc in
    sym (eqb-true one.0.0 a one.2) ∙ ap (λ (n : NodeId). n.0) is ∙ eqb-true two.0.0 b two.2

-- a node has a place
pub found_passes : (nodes : List NodeId) (id : ℕ) (d : NodeId) → is_node nodes id ≡ true → (first_where (λ n. n.0 == id) d nodes).0 ≡ id
found_passes [] id d h = absurd (cc)
found_passes (n ∷ nodes) id d h = elim (cases_Bool (n.0 == id)) [
  | inl t ↦ rw t (eqb-true n.0 id t)
  | inr t ↦ rw t (found_passes nodes id d (rw t at h))
]

-- a node has a place
pub has_place : (nodes : List NodeId) (id : ℕ) → is_node nodes id ≡ true → (i : ℕ) × (place_of nodes id ≡ Some i)
has_place nodes id h = go (place_of nodes id) refl
  where
    go : (o : Option ℕ) → place_of nodes id ≡ o → (i : ℕ) × (place_of nodes id ≡ Some i)
    go (Some i) e = (i, e)
    go None e =
        let d : NodeId = record { 0 = id + 1 } in
        let here : id + 1 ≡ id = sym (ap (λ (n : NodeId). n.0) (first_where-no_position (λ n. n.0 == id) d nodes e)) ∙ found_passes nodes id d h in
        absurd (omega (arith, here))

pub mark_here : (ws : List (List ℕ)) (nodes : List NodeId) (src q : ℕ) → length ws ≡ length nodes → is_node nodes src ≡ true
    → window_at (windows_with ws (place_of nodes src) q) (place_of nodes src) ≡ with_mark (window_at ws (place_of nodes src)) q
mark_here ws nodes src q long there =
    let at = has_place nodes src there in
    let within = place_within (λ (n : NodeId). n.0 == src) nodes at.0 at.1 in
    let new = with_mark (slice_index_or ws at.0 []) q in
    rw at.1 (get_or-set_same ws at.0 new [] (omega (arith, within, long)))

pub mark_there : (ws : List (List ℕ)) (nodes : List NodeId) (id src q : ℕ) → (id ≡ src → ⊥)
    → window_at (windows_with ws (place_of nodes id) q) (place_of nodes src) ≡ window_at ws (place_of nodes src)
mark_there ws nodes id src q other = go (place_of nodes id) refl (place_of nodes src) refl
  where
    go : (a : Option ℕ) → place_of nodes id ≡ a → (b : Option ℕ) → place_of nodes src ≡ b → window_at (windows_with ws a q) b ≡ window_at ws b
    go None is b at = refl
    go (Some i) is None at = refl
    go (Some i) is (Some k) at = elim (cases_Bool (k == i)) [
      | inl t ↦ let same : k ≡ i = eqb-true k i t in absurd (other (one_place nodes id src i is (at ∙ ap Some same)))
      | inr t ↦ get_or-set_other ws i k (with_mark (slice_index_or ws i []) q) [] (λ same. absurd (let wrong : true ≡ false = sym (eq-eqb k i same) ∙ t in cc))
    ]

-- there are as many windows after one more mark
pub long_with : (ws : List (List ℕ)) (place : Option ℕ) (q : ℕ) → length (windows_with ws place q) ≡ length ws
long_with ws None q = refl
long_with ws (Some place) q = length-set ws place (with_mark (slice_index_or ws place []) q)

-- the window of one source is emptied
pub less_here : (ws : List (List ℕ)) (nodes : List NodeId) (src : ℕ) → length ws ≡ length nodes → is_node nodes src ≡ true
    → window_at (windows_less ws (place_of nodes src)) (place_of nodes src) ≡ []
less_here ws nodes src long there =
    let at = has_place nodes src there in
    let within = place_within (λ (n : NodeId). n.0 == src) nodes at.0 at.1 in
    rw at.1 (get_or-set_same ws at.0 [] [] (omega (arith, within, long)))

-- emptying the window of one node leaves those of the others
pub less_there : (ws : List (List ℕ)) (nodes : List NodeId) (id src : ℕ) → (id ≡ src → ⊥)
    → window_at (windows_less ws (place_of nodes id)) (place_of nodes src) ≡ window_at ws (place_of nodes src)
less_there ws nodes id src other = go (place_of nodes id) refl (place_of nodes src) refl
  where
    go : (a : Option ℕ) → place_of nodes id ≡ a → (b : Option ℕ) → place_of nodes src ≡ b → window_at (windows_less ws a) b ≡ window_at ws b
    go None is b at = refl
    go (Some i) is None at = refl
    go (Some i) is (Some k) at = elim (cases_Bool (k == i)) [
      | inl t ↦ let same : k ≡ i = eqb-true k i t in absurd (other (one_place nodes id src i is (at ∙ ap Some same)))
      | inr t ↦ get_or-set_other ws i k [] [] (λ same. absurd (let wrong : true ≡ false = sym (eq-eqb k i same) ∙ t in cc))
    ]

-- there are as many windows after one was emptied
pub long_less : (ws : List (List ℕ)) (place : Option ℕ) → length (windows_less ws place) ≡ length ws
long_less ws None = refl
long_less ws (Some place) = length-set ws place []

-- a window of which nothing is marked
pub empty_window : (count : ℕ) (place : Option ℕ) → window_at (replicate count []) place ≡ []
empty_window count None = refl
empty_window zero (Some place) = refl
empty_window (suc count) (Some zero) = refl
empty_window (suc count) (Some (suc place)) = empty_window count (Some place)
