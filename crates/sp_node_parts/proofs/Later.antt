-- The tests of a version that may follow, joined.
use Rattle.std.proofs.Common.{◌≡◌, ◌∙◌, ◌&&◌, ◌==◌, ℕ, Bool, true, false, not, List, [], ◌∷◌, length, refl, sym, ap, arith}
use Rattle.std.specs.Prelude.{nat_lt}
use Rattle.std.specs.Cmp.Lexicographic.{pointwise}
use Rattle.std.specs.List.{list_any}
use Rattle.sp_rules.specs.Topologies.{has_same_ends, is_same_height, is_same_node, returns, succeeds, under}
use Rattle.sp_rules.specs.Versions.{Live}
use Rattle.sp_topology.specs.declared.topology.Edge.{Edge}
use Rattle.sp_topology.specs.declared.topology.Topology.{Topology}
use Rattle.sp_node_parts.specs.Closing.{now_under}

-- the ends of edges don't go by weights
same_ends : (es : List Edge) (ws : List ℕ) (ds : List Edge) → length ws ≡ length es
    → pointwise has_same_ends (under es ws) ds ≡ pointwise has_same_ends es ds
same_ends [] ws ds count = refl
same_ends (e ∷ es) [] ds count = absurd (omega (arith, count))
same_ends (e ∷ es) (w ∷ ws) [] count = refl
same_ends (e ∷ es) (w ∷ ws) (d ∷ ds) count =
    ap (λ (t : Bool). has_same_ends e d && t) (same_ends es ws ds (omega (arith, count)))

pub joined : (t u : Topology) (l : Live) (later nodes ends back : Bool) → length l.weights ≡ length t.edges
    → later ≡ (nat_lt l.version u.version && (t.format == u.format) && is_same_height t.height u.height)
    → nodes ≡ pointwise is_same_node t.nodes u.nodes → ends ≡ pointwise has_same_ends t.edges u.edges
    → back ≡ list_any (returns (under t.edges l.weights) u.edges) t.nodes
    → (later && nodes && ends && not back) ≡ succeeds (now_under t l) u
joined t u l later nodes ends back count one two three four =
    let same : ends ≡ pointwise has_same_ends (under t.edges l.weights) u.edges = three ∙ sym (same_ends t.edges l.weights u.edges count) in
    ap (λ (x : Bool). x && nodes && ends && not back) one
    ∙ ap (λ (x : Bool). (nat_lt l.version u.version && (t.format == u.format) && is_same_height t.height u.height) && x && ends && not back) two
    ∙ ap (λ (x : Bool). (nat_lt l.version u.version && (t.format == u.format) && is_same_height t.height u.height)
    && pointwise is_same_node t.nodes u.nodes && x && not back) same
    ∙ ap (λ (x : Bool). (nat_lt l.version u.version && (t.format == u.format) && is_same_height t.height u.height)
    && pointwise is_same_node t.nodes u.nodes && pointwise has_same_ends (under t.edges l.weights) u.edges && not x) four

-- where the first three hold the fourth says it, and where the third fails it isn't so
pub by_last : (a b c d : Bool) → a ≡ true → b ≡ true → c ≡ true → d ≡ (a && b && c && d)
by_last true true true d one two three = refl
by_last false b c d one two three = absurd (cc)
by_last true false c d one two three = absurd (cc)
by_last true true false d one two three = absurd (cc)

pub by_third : (a b c d : Bool) → c ≡ false → false ≡ (a && b && c && d)
by_third a b true d three = absurd (cc)
by_third true true false d three = refl
by_third true false false d three = refl
by_third false b false d three = refl
