-- A version of the topology that follows another: what of it is the same.
use Rattle.std.proofs.Common.{ap, ap₂, arith, Bool, ◌&&◌, ◌==◌, ◌≡◌, ◌<◌, ℕ, suc, true, false, not, List, [], ◌∷◌, length, refl, sym, ◌∙◌}
use Rattle.std.specs.Prelude.{nat_eq, nat_lt}
use Rattle.std.specs.Cmp.Lexicographic.{pointwise}
use Rattle.std.specs.List.{list_any}
use Rattle.std.proofs.lemmas.Bool.{eqb-true}
use Rattle.std.proofs.lemmas.Bool.Decides.{nat_tests}
use Rattle.sp_base.specs.declared.id.NodeId.{NodeId}
use Rattle.sp_rules.specs.Topologies.{has_same_ends, is_same_height, is_same_node, returns, succeeds, under, weighted, weights_in}
use Rattle.sp_topology.specs.declared.topology.Edge.{Edge}
use Rattle.sp_topology.specs.declared.topology.LmsHeight.{LmsHeight}
use Rattle.sp_topology.specs.declared.topology.LmsHeight.TheVariants as heights
use Rattle.sp_topology.specs.declared.topology.NodeKey.{NodeKey}
use Rattle.sp_topology.specs.declared.topology.Topology.{Topology}

both : (a b : Bool) → (a && b) ≡ true → (a ≡ true) × (b ≡ true)
both true true e = (refl, refl)
both true false e = absurd (cc)
both false b e = absurd (cc)

-- ---- lengths

same_length : {X : Type 0} (same : X → X → Bool) (xs ys : List X) → pointwise same xs ys ≡ true → length xs ≡ length ys
same_length same [] [] e = refl
same_length same [] (y ∷ ys) e = absurd (cc)
same_length same (x ∷ xs) [] e = absurd (cc)
same_length same (x ∷ xs) (y ∷ ys) e = ap suc (same_length same xs ys (both (same x y) (pointwise same xs ys) e).1)

-- there is a weight for each edge
pub length_weights : (edges : List Edge) → length (weights_in edges) ≡ length edges
length_weights [] = refl
length_weights (e ∷ edges) = ap suc (length_weights edges)

length_under : (edges : List Edge) (weights : List ℕ) → length weights ≡ length edges → length (under edges weights) ≡ length edges
length_under [] weights e = refl
length_under (e ∷ edges) [] same = absurd (cc)
length_under (e ∷ edges) (w ∷ weights) same =
    let less : suc (length weights) ≡ suc (length edges) = same in ap suc (length_under edges weights (omega (arith, less)))

-- ---- what is equal by its tests

same_id : (u v : NodeId) → (u.0 == v.0) ≡ true → u ≡ v
same_id u v e = ap (λ (n : ℕ). record { 0 = n }) (eqb-true u.0 v.0 e)

same_bytes : (xs ys : List ℕ) → pointwise nat_eq xs ys ≡ true → xs ≡ ys
same_bytes [] [] e = refl
same_bytes [] (y ∷ ys) e = absurd (cc)
same_bytes (x ∷ xs) [] e = absurd (cc)
same_bytes (x ∷ xs) (y ∷ ys) e =
    let two = both (nat_eq x y) (pointwise nat_eq xs ys) e in
    ap₂ (λ (a : ℕ) (rest : List ℕ). a ∷ rest) (eqb-true x y two.0) (same_bytes xs ys two.1)

same_nodes : (xs ys : List NodeKey) → pointwise is_same_node xs ys ≡ true → xs ≡ ys
same_nodes [] [] e = refl
same_nodes [] (y ∷ ys) e = absurd (cc)
same_nodes (x ∷ xs) [] e = absurd (cc)
same_nodes (x ∷ xs) (y ∷ ys) e =
    let two = both (is_same_node x y) (pointwise is_same_node xs ys) e in
    let one = both (x.id.0 == y.id.0) (pointwise nat_eq x.key y.key) two.0 in
    let same : x ≡ y = ap₂ (λ (u : NodeId) (key : List ℕ). record { id = u; key = key }) (same_id x.id y.id one.0) (same_bytes x.key y.key one.1) in
    ap₂ (λ (a : NodeKey) (rest : List NodeKey). a ∷ rest) same (same_nodes xs ys two.1)

same_height : (a b : LmsHeight) → is_same_height a b ≡ true → a ≡ b
same_height heights.Five heights.Five e = refl
same_height heights.Ten heights.Ten e = refl
same_height heights.Five heights.Ten e = absurd (cc)
same_height heights.Ten heights.Five e = absurd (cc)

-- the first edges under the weights of the later version are its edges
pub under_later : (es : List Edge) (ws : List ℕ) (ds : List Edge) → length ws ≡ length es → pointwise has_same_ends (under es ws) ds ≡ true
    → under es (weights_in ds) ≡ ds
under_later [] ws [] count e = refl
under_later [] ws (d ∷ ds) count e = absurd (cc)
under_later (x ∷ es) [] ds count e = absurd (cc)
under_later (x ∷ es) (w ∷ ws) [] count e = absurd (cc)
under_later (x ∷ es) (w ∷ ws) (d ∷ ds) count e =
    let two = both (has_same_ends (weighted (x, w)) d) (pointwise has_same_ends (under es ws) ds) e in
    let one = both (x.low.0 == d.low.0) (x.high.0 == d.high.0) two.0 in
    let same : weighted (x, d.weight) ≡ d =
    ap₂ (λ (u v : NodeId). record { low = u; high = v; weight = d.weight }) (same_id x.low d.low one.0) (same_id x.high d.high one.1) in
    let less : suc (length ws) ≡ suc (length es) = count in
    ap₂ (λ (a : Edge) (rest : List Edge). a ∷ rest) same (under_later es ws ds (omega (arith, less)) two.1)

-- ---- the later version

pub record Later (old new : Topology) : Type 0 where
  pub above : old.version < new.version
  pub format : old.format ≡ new.format
  pub height : old.height ≡ new.height
  pub nodes : old.nodes ≡ new.nodes
  pub ends : pointwise has_same_ends old.edges new.edges ≡ true
  pub stay : list_any (returns old.edges new.edges) old.nodes ≡ false

-- a topology that succeeds another is a later one of the same nodes and edges
pub later : (old new : Topology) → succeeds old new ≡ true → Later old new
later old new e =
    let above = nat_lt old.version new.version in
    let format = old.format == new.format in
    let height = is_same_height old.height new.height in
    let nodes = pointwise is_same_node old.nodes new.nodes in
    let ends = pointwise has_same_ends old.edges new.edges in
    let a = both (above && format && height && nodes && ends) (not (list_any (returns old.edges new.edges) old.nodes)) e in
    let b = both (above && format && height && nodes) ends a.0 in
    let c = both (above && format && height) nodes b.0 in
    let d = both (above && format) height c.0 in
    let f = both above format d.0 in
    record {
      above = grind (arith, nat_tests, f.0);
      format = eqb-true old.format new.format f.1;
      height = same_height old.height new.height d.1;
      nodes = same_nodes old.nodes new.nodes c.1;
      ends = b.1;
      stay = not_false (list_any (returns old.edges new.edges) old.nodes) a.1;
    }
  where
    not_false : (t : Bool) → not t ≡ true → t ≡ false
    not_false false e = refl
    not_false true e = absurd (cc)

-- it has as many edges as the first had
pub same_count : (es : List Edge) (ws : List ℕ) (ds : List Edge) → length ws ≡ length es → pointwise has_same_ends (under es ws) ds ≡ true
    → length (weights_in ds) ≡ length es
same_count es ws ds count ends = length_weights ds ∙ (sym (same_length has_same_ends (under es ws) ds ends) ∙ length_under es ws count)
