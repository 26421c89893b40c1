-- What is found in a table after a row was replaced, or put.
use Rattle.std.proofs.Common.{◌≡◌, ℕ, Bool, true, false, cond, eqb, List, [], ◌∷◌, ◌++◌, Option, Some, refl, sym, ap, subst, ◌∙◌, inl, inr}
use Rattle.std.specs.Prelude.{◌⊎◌, ◌&&◌}
use Rattle.std.specs.List.{find, slice_get}
use Rattle.std.proofs.lemmas.Bool.{cases_Bool, cases_eq, eq-eqb, eqb-true, ne_eqb}
use Rattle.sp_base.proofs.ListLemmas.{get_push}
use Rattle.sp_base.proofs.RowLemmas.{first_where-put, first_where-put_other}
use Rattle.sp_base.specs.Rows.{replace_where}
use Rattle.sp_base.specs.declared.id.NodeId.{NodeId}
use Rattle.sp_rules.specs.Node.{NodeState}
use Rattle.sp_runs.specs.Worlds.{Direction, frames_in, is_from_to, is_me, node_in, with_frame, with_node}
use Rattle.laws_runs.proofs.Lists.{both}

find_same : {X : Type 0} (p : X → Bool) (y z : X) (xs : List X) → p y ≡ true → find p (replace_where p y xs) ≡ Some z → z ≡ y
find_same p y z [] is e = absurd cc
find_same p y z (x ∷ xs) is e = elim (cases_Bool (p x)) [
  | inl t ↦ let f : Some y ≡ Some z = rw (t, is) at e in cc
  | inr t ↦ find_same p y z xs is (rw (t, t) at e)
]

pub find_other : {X : Type 0} (p q : X → Bool) (y : X) (xs : List X) → q y ≡ false → ((x : X) → p x ≡ true → q x ≡ false)
    → find q (replace_where p y xs) ≡ find q xs
find_other p q y [] e other = refl
find_other p q y (x ∷ xs) e other = elim (cases_Bool (p x)) [
  | inl t ↦ rw (t, e, other x t) refl
  | inr t ↦ rw t (ap (λ r. cond (q x) (Some x) r) (find_other p q y xs e other))
]

pub found_passes : {X : Type 0} (p : X → Bool) (y : X) (xs : List X) → find p xs ≡ Some y → p y ≡ true
found_passes p y [] e = absurd cc
found_passes p y (x ∷ xs) e = elim (cases_Bool (p x)) [
  | inl t ↦ let f : Some x ≡ Some y = rw t at e in let g : x ≡ y = cc in subst (λ z. p z ≡ true) g t
  | inr t ↦ found_passes p y xs (rw t at e)
]

-- nodes of one number are equal
pub same_node : (u v : NodeId) → u.0 ≡ v.0 → u ≡ v
same_node u v e = ap (λ (n : ℕ). record { 0 = n }) e

-- ---- nodes

-- the node that is found is the one that was sought
pub node_is : (nodes : List NodeState) (u : NodeId) (n : NodeState) → node_in nodes u ≡ Some n → n.fixed.me ≡ u
node_is nodes u n e = same_node _ _ (eqb-true _ _ (found_passes (is_me u) n nodes e))

-- a node that is found after a change is the changed one, or was found before
pub node_put : (u a : NodeId) (after m : NodeState) (ns : List NodeState) → after.fixed.me ≡ a → node_in (with_node ns a after) u ≡ Some m
    → ((u ≡ a) × (m ≡ after)) ⊎ ((u ≡ a → ⊥) × (node_in ns u ≡ Some m))
node_put u a after m ns me e = elim (cases_eq u.0 a.0) [
  | inl same ↦
      let is : u ≡ a = same_node u a same in
      let f : node_in (with_node ns a after) a ≡ Some m = rw is at e in
      inl (is, find_same (is_me a) after m ns (eq-eqb _ _ (ap (λ (v : NodeId). v.0) me)) f)
  | inr other ↦
      inr (
        λ is. other (ap (λ (v : NodeId). v.0) is),
        sym (find_other (is_me a) (is_me u) after ns
            (ne_eqb _ _ (λ z. other (sym z ∙ ap (λ (v : NodeId). v.0) me)))
            (λ x t. ne_eqb _ _ (λ z. other (sym z ∙ eqb-true _ _ t)))) ∙ e,
      )
]

-- ---- frames

from_to : (u v : NodeId) (d : Direction) → is_from_to u v d ≡ true → (d.from.0 ≡ u.0) × (d.to.0 ≡ v.0)
from_to u v d t = let parts = both _ _ t in (eqb-true _ _ parts.0, eqb-true _ _ parts.1)

together : (x y : Bool) → x ≡ true → y ≡ true → (x && y) ≡ true
together x y e f = rw (e, f) refl

-- a frame of a direction is the one that was put last, or was there
pub frame_put : (u v a b : NodeId) (ds : List Direction) (frame : Option (List ℕ)) (k : ℕ) (x : Option (List ℕ))
    → slice_get (frames_in (with_frame ds a b frame) u v) k ≡ Some x
    → ((u ≡ a) × (v ≡ b) × (x ≡ frame)) ⊎ (slice_get (frames_in ds u v) k ≡ Some x)
frame_put u v a b ds frame k x e =
    let row : Direction = record { from = a; to = b; frames = frames_in ds a b ++ frame ∷ [] } in
    elim (cases_Bool (is_from_to u v row)) [
      | inl t ↦
          let ends = from_to u v row t in
          let ua : u ≡ a = sym (same_node a u ends.0) in
          let vb : v ≡ b = sym (same_node b v ends.1) in
          let here : frames_in (with_frame ds a b frame) a b ≡ frames_in ds a b ++ frame ∷ [] =
          ap (λ (d : Direction). d.frames)
          (first_where-put (is_from_to a b) (record { from = a; to = b; frames = [] }) row ds (together _ _ (eq-eqb a.0 a.0 refl) (eq-eqb b.0 b.0 refl))) in
          let e1 : slice_get (frames_in (with_frame ds a b frame) a b) k ≡ Some x = rw (ua, vb) at e in
          elim (get_push (frames_in ds a b) frame k x (sym (ap (λ fs. slice_get fs k) here) ∙ e1)) [
            | inl was ↦ inr (rw (ua, vb) was)
            | inr last ↦ inl (ua, vb, last.1)
          ]
      | inr t ↦
          let other : frames_in (with_frame ds a b frame) u v ≡ frames_in ds u v =
          ap (λ (d : Direction). d.frames) (first_where-put_other (is_from_to a b) (is_from_to u v) (record { from = u; to = v; frames = [] }) row ds
          (λ d is. apart d (from_to a b d is) t) t) in
          inr (sym (ap (λ fs. slice_get fs k) other) ∙ e)
    ]
  where
    apart : (d : Direction) → (d.from.0 ≡ a.0) × (d.to.0 ≡ b.0) → (eqb a.0 u.0 && eqb b.0 v.0) ≡ false → is_from_to u v d ≡ false
    apart d ends t = ap (λ n. eqb n u.0 && eqb d.to.0 v.0) ends.0 ∙ ap (λ n. eqb a.0 u.0 && eqb n v.0) ends.1 ∙ t
