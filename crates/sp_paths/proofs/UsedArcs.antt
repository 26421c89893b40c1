-- An arc is used by paths exactly where one of them goes along it.
use Rattle.std.proofs.Common.{◌≡◌, ℕ, Bool, true, false, List, [], ◌∷◌, refl, sym, ap, ◌∙◌}
use Rattle.std.specs.Prelude.{◌&&◌, ◌||◌, ◌↔◌, IsTrue, ℤ}
use Rattle.std.specs.List.{list_any}
use Rattle.sp_base.specs.declared.id.NodeId.{NodeId}
use Rattle.sp_graph.specs.declared.graph.Graph.{Graph}
use Rattle.sp_graph.specs.declared.part.Part.TheVariants as parts
use Rattle.sp_graph.specs.Certificates.{through, uses}
use Rattle.sp_graph.specs.Split.{Arc, edge_arc, is_same, node_arc}
use Rattle.sp_graph.specs.Walks.{steps}
use Rattle.sp_paths.specs.declared.paths.Paths.{Paths}
use Rattle.sp_paths.specs.Tests.{FitsAs, FitsAt, goes, is_node, passes}

any_same : {X : Type 0} (f h : X → Bool) → ((x : X) → f x ≡ h x) → (xs : List X) → list_any f xs ≡ list_any h xs
any_same f h same [] = refl
any_same f h same (x ∷ xs) = ap (λ (b : Bool). b || list_any f xs) (same x) ∙ ap (λ (b : Bool). h x || b) (any_same f h same xs)

one_goes : (u v : NodeId) (path : List NodeId)
    → list_any (λ step. is_same step.0 (parts.Out u) && is_same step.1 (parts.In v)) (steps (through path)) ≡ goes path u v
one_goes u v [] = refl
one_goes u v (x ∷ []) = refl
one_goes u v (x ∷ y ∷ []) = refl
one_goes u v (x ∷ y ∷ z ∷ path) = ap (λ (b : Bool). (is_node x u && is_node y v) || b) (one_goes u v (y ∷ z ∷ path))

one_passes : (v : NodeId) (path : List NodeId)
    → list_any (λ step. is_same step.0 (parts.In v) && is_same step.1 (parts.Out v)) (steps (through path)) ≡ passes path v
one_passes v [] = refl
one_passes v (x ∷ []) = refl
one_passes v (x ∷ y ∷ []) = refl
one_passes v (x ∷ y ∷ z ∷ path) =
    ap (λ (b : Bool). (is_node y v && is_node y v) || b) (one_passes v (y ∷ z ∷ path)) ∙ ap (λ (b : Bool). b || passes (y ∷ z ∷ path) v) (twice (is_node y v))
  where
    twice : (b : Bool) → (b && b) ≡ b
    twice true = refl
    twice false = refl

pub uses_step : (paths : List (List NodeId)) (u v : NodeId) (weight : ℕ) → uses paths (edge_arc u v weight) ≡ list_any (λ path. goes path u v) paths
uses_step paths u v weight =
    any_same (λ path. list_any (λ step. is_same step.0 (parts.Out u) && is_same step.1 (parts.In v)) (steps (through path))) (λ path. goes path u v)
    (one_goes u v) paths

pub uses_node : (paths : List (List NodeId)) (v : NodeId) → uses paths (node_arc v) ≡ list_any (λ path. passes path v) paths
uses_node paths v =
    any_same (λ path. list_any (λ step. is_same step.0 (parts.In v) && is_same step.1 (parts.Out v)) (steps (through path))) (λ path. passes path v)
    (one_passes v) paths

-- what is decided of an arc as it is used
pub fits_at : (g : Graph) (s t : NodeId) (p : Paths) (potentials : List ℤ) (used : Bool) (a : Arc) (r : Bool) → potentials ≡ p.potentials
    → used ≡ uses p.paths a → IsTrue r ↔ FitsAs g s t potentials used a → IsTrue r ↔ FitsAt g s t p a
unfolding FitsAt
fits_at g s t p potentials used a r one two fits = rw (sym one, sym two) fits
