-- Nodes that weights remove, by the edges and their weights side by side.
use Rattle.std.proofs.Common.{◌≡◌, ℕ, ◌==◌, ◌&&◌, Bool, List, [], ◌∷◌, map, refl, sym, ap, ◌∙◌}
use Rattle.std.specs.Prelude.{◌||◌, not, zip}
use Rattle.std.specs.List.{list_any}
use Rattle.sp_rules.specs.Topologies.{is_end, is_joined, is_removed, under, weighted}
use Rattle.sp_topology.specs.declared.topology.Edge.{Edge}

any_mapped : {X Y : Type 0} (test : Y → Bool) (g : X → Y) (xs : List X) → list_any test (map g xs) ≡ list_any (λ x. test (g x)) xs
any_mapped test g [] = refl
any_mapped test g (x ∷ xs) = ap (λ (t : Bool). test (g x) || t) (any_mapped test g xs)

-- it has an edge, and no edge of it is open
pub removed_is : (edges : List Edge) (weights : List ℕ) (u : ℕ) (has joined : Bool) → has ≡ list_any (λ p. is_end u p.0) (zip edges weights)
    → joined ≡ list_any (λ p. is_end u p.0 && not (p.1 == 0)) (zip edges weights) → (has && not joined) ≡ is_removed (under edges weights) u
removed_is edges weights u has joined first second =
    ap (λ (t : Bool). t && not joined) (first ∙ sym (any_mapped (is_end u) weighted (zip edges weights)))
    ∙ ap (λ (t : Bool). list_any (is_end u) (under edges weights) && not t) (second ∙ sym (any_mapped (is_joined u) weighted (zip edges weights)))
