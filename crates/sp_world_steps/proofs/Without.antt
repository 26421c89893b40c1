-- The nodes without one.
use Rattle.std.proofs.Common.{◌≡◌, ℕ, zero, suc, Bool, true, false, List, [], ◌∷◌, Some, None, refl, sym, ap, ◌∙◌, arith}
use Rattle.std.specs.Prelude.{position}
use Rattle.std.specs.List.{list_any, remove}
use Rattle.sp_base.proofs.RowLemmas.{is_first}
use Rattle.sp_base.specs.Rows.{IsFirstAt}
use Rattle.sp_base.specs.declared.id.NodeId.{NodeId}
use Rattle.sp_rules.specs.Node.{NodeState}
use Rattle.sp_runs.specs.Worlds.{is_me, with_node, without_node}
use Rattle.sp_world_steps.proofs.Among.{place_of_any}

removed_first : (nodes : List NodeState) (u : NodeId) (place : ℕ) (d : NodeState) → IsFirstAt (is_me u) nodes place d
    → remove nodes place ≡ without_node nodes u
removed_first [] u place d first = absurd (omega (arith, first.within))
removed_first (n ∷ nodes) u zero d first = rw first.passes refl
removed_first (n ∷ nodes) u (suc place) d first =
    rw (first.before 0 (omega arith)) (ap (λ (ns : List NodeState). n ∷ ns) (removed_first nodes u place d (record {
      within = omega (arith, first.within);
      passes = first.passes;
      before = λ k below. first.before (suc k) (omega arith);
    })))

pub removed_at : (nodes : List NodeState) (u : NodeId) (place : ℕ) (d : NodeState) → position (is_me u) nodes ≡ Some place
    → remove nodes place ≡ without_node nodes u
removed_at nodes u place d at = removed_first nodes u place d (is_first (is_me u) nodes place d at)

none_there : (nodes : List NodeState) (u : NodeId) → list_any (is_me u) nodes ≡ false → without_node nodes u ≡ nodes
none_there [] u none = refl
none_there (n ∷ nodes) u none = go (is_me u n) refl (λ rest. none_there nodes u rest) none
  where
    go : (t : Bool) → is_me u n ≡ t → (list_any (is_me u) nodes ≡ false → without_node nodes u ≡ nodes) → list_any (is_me u) (n ∷ nodes) ≡ false
        → without_node (n ∷ nodes) u ≡ n ∷ nodes
    go true is more none = let e = rw is at none in absurd (cc)
    go false is more none = rw is (ap (λ (ns : List NodeState). n ∷ ns) (more (rw is at none)))

pub none_removed : (nodes : List NodeState) (u : NodeId) → position (is_me u) nodes ≡ None → without_node nodes u ≡ nodes
none_removed nodes u none = go (list_any (is_me u) nodes) refl
  where
    go : (t : Bool) → list_any (is_me u) nodes ≡ t → without_node nodes u ≡ nodes
    go true some = let place = place_of_any (is_me u) nodes some in let same : Some place.0 ≡ None = sym place.1 ∙ none in absurd (cc)
    go false no_one = none_there nodes u no_one

-- they don't know what became of it
pub without_is_same : (nodes : List NodeState) (u : NodeId) (new : NodeState) → is_me u new ≡ true
    → without_node (with_node nodes u new) u ≡ without_node nodes u
without_is_same [] u new me = refl
without_is_same (n ∷ nodes) u new me = go (is_me u n) refl (without_is_same nodes u new me)
  where
    go : (t : Bool) → is_me u n ≡ t → without_node (with_node nodes u new) u ≡ without_node nodes u
        → without_node (with_node (n ∷ nodes) u new) u ≡ without_node (n ∷ nodes) u
    go true is rest = rw (is, me) refl
    go false is rest = rw (is, is) (ap (λ (ns : List NodeState). n ∷ ns) rest)
