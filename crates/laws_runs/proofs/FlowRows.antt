-- At the start of a node there is a row for each two nodes, and nothing came.
use Rattle.std.proofs.Common.{◌≡◌, Bool, true, false, List, [], ◌∷◌, map, filter, refl, sym, ap, ◌∙◌, inl, inr}
use Rattle.std.specs.Prelude.{◌&&◌, ◌||◌, ◌==◌, not}
use Rattle.std.specs.List.{flat_map, list_any}
use Rattle.std.proofs.lemmas.Bool.{cases_Bool, cases_eq, eqb-true, ne_eqb}
use Rattle.std.proofs.lemmas.List.Folds.{list_any-append}
use Rattle.sp_base.specs.Position.{start}
use Rattle.sp_base.specs.declared.id.Flow.{Flow}
use Rattle.sp_base.specs.declared.id.NodeId.{NodeId}
use Rattle.sp_rules.specs.Flow.{FlowState, ends, is_flow, no_flow}
use Rattle.sp_rules.specs.Rel.{flow_in, flows_from, pairs_of}
use Rattle.laws_node.proofs.Tables.{cond_either}
use Rattle.sp_runs.specs.Settings.{is_one_of}
use Rattle.laws_runs.proofs.FlowFacts.{flow_of}
use Rattle.laws_runs.proofs.Lists.{or_true}
use Rattle.laws_runs.proofs.Tables.{same_node}

pub at_boot : (fs : List Flow) (fl : Flow) → (flow_in (map no_flow fs) fl).at ≡ start
at_boot [] fl = refl
at_boot (f ∷ fs) fl = cond_either (λ (g : FlowState). g.at ≡ start) (is_flow fl (no_flow f)) (no_flow f) (flow_in (map no_flow fs) fl) refl (at_boot fs fl)

pub any_map : {X Y : Type 0} (p : Y → Bool) (q : X → Bool) (f : X → Y) → ((x : X) → q x ≡ true → p (f x) ≡ true) → (xs : List X) → list_any q xs ≡ true
    → list_any p (map f xs) ≡ true
any_map p q f is [] some = absurd (let e : false ≡ true = some in cc)
any_map p q f is (x ∷ xs) some = elim (cases_Bool (q x)) [
  | inl t ↦ let here = is x t in rw here refl
  | inr t ↦ let rest = any_map p q f is xs (rw t at some) in rw rest (or_true (p (f x)))
]

pub any_filter : {X : Type 0} (q t : X → Bool) → ((x : X) → q x ≡ true → t x ≡ true) → (xs : List X) → list_any q xs ≡ true → list_any q (filter t xs) ≡ true
any_filter q t is [] some = some
any_filter q t is (x ∷ xs) some = elim (cases_Bool (q x)) [
  | inl z ↦ let passes = is x z in rw passes (rw z refl)
  | inr z ↦ let rest = any_filter q t is xs (rw z at some) in cond_either (λ ys. list_any q ys ≡ true) (t x) (x ∷ filter t xs) (filter t xs) (rw z rest) rest
]

any_flat : {X Y : Type 0} (p : Y → Bool) (q : X → Bool) (f : X → List Y) → ((x : X) → q x ≡ true → list_any p (f x) ≡ true) → (xs : List X)
    → list_any q xs ≡ true → list_any p (flat_map f xs) ≡ true
any_flat p q f is [] some = absurd (let e : false ≡ true = some in cc)
any_flat p q f is (x ∷ xs) some = list_any-append p (f x) (flat_map f xs) ∙ elim (cases_Bool (q x)) [
  | inl t ↦ let here = is x t in rw here refl
  | inr t ↦ let rest = any_flat p q f is xs (rw t at some) in rw rest (or_true (list_any p (f x)))
]

pub has_row : (nodes : List NodeId) (s d : NodeId) → (s ≡ d → ⊥) → is_one_of nodes s ≡ true → is_one_of nodes d ≡ true
    → list_any (is_flow (flow_of s d)) (map no_flow (pairs_of nodes)) ≡ true
has_row nodes s d different from to =
    any_map (is_flow (flow_of s d)) (λ (f : Flow). (f.src.0 == s.0) && (f.dst.0 == d.0)) no_flow (λ f is. is) (pairs_of nodes)
    (any_flat (λ (f : Flow). (f.src.0 == s.0) && (f.dst.0 == d.0)) (λ (v : NodeId). v.0 == s.0) (λ src. flows_from src nodes)
    (λ src is. any_map (λ (f : Flow). (f.src.0 == s.0) && (f.dst.0 == d.0)) (λ (v : NodeId). v.0 == d.0) (λ (dst : NodeId). flow_of src dst)
    (λ dst here. rw (is, here) refl) (filter (λ dst. not (dst.0 == src.0)) nodes)
    (any_filter (λ (v : NodeId). v.0 == d.0) (λ (dst : NodeId). not (dst.0 == src.0)) (λ dst here. apart src dst is here) nodes to)) nodes from)
  where
    apart : (src dst : NodeId) → (src.0 == s.0) ≡ true → (dst.0 == d.0) ≡ true → not (dst.0 == src.0) ≡ true
    apart src dst one two = elim (cases_eq dst.0 src.0) [
      | inl same ↦ absurd (different (same_node s d (sym (eqb-true src.0 s.0 one) ∙ sym same ∙ eqb-true dst.0 d.0 two)))
      | inr other ↦ let e : (dst.0 == src.0) ≡ false = ne_eqb dst.0 src.0 other in rw e refl
    ]

-- of two nodes that are known there is a row
pub row_of_keys : (nodes : List NodeId) (s d : NodeId) (fs : List FlowState) → (s ≡ d → ⊥) → is_one_of nodes s ≡ true → is_one_of nodes d ≡ true
    → map ends fs ≡ pairs_of nodes
    → list_any (is_flow (flow_of s d)) fs ≡ true
row_of_keys nodes s d fs different from to keys =
    by_ends fs (map no_flow (pairs_of nodes)) (keys ∙ sym (new_ends (pairs_of nodes))) ∙ has_row nodes s d different from to
  where
    new_ends : (flows : List Flow) → map ends (map no_flow flows) ≡ flows
    new_ends [] = refl
    new_ends (f ∷ flows) = ap (λ (gs : List Flow). f ∷ gs) (new_ends flows)

    by_ends : (fs gs : List FlowState) → map ends fs ≡ map ends gs → list_any (is_flow (flow_of s d)) fs ≡ list_any (is_flow (flow_of s d)) gs
    by_ends [] [] same = refl
    by_ends [] (g ∷ gs) same = absurd cc
    by_ends (f ∷ fs) [] same = absurd cc
    by_ends (f ∷ fs) (g ∷ gs) same =
        let first : ends f ≡ ends g = cc in
        let rest : map ends fs ≡ map ends gs = cc in
        ap (λ (z : Flow). ((z.src.0 == s.0) && (z.dst.0 == d.0)) || list_any (is_flow (flow_of s d)) fs) first
        ∙ ap (λ t. is_flow (flow_of s d) g || t) (by_ends fs gs rest)
