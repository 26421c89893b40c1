-- A graph has one edge between two nodes, and the edges of the steps of a path make its mask.
use Rattle.std.proofs.Common.{◌≡◌, ◌≢◌, ◌⊎◌, ℕ, zero, suc, max, ◌+◌, ◌-◌, ◌==◌, ◌||◌, ◌<◌, ◌≤◌, ◌^◌, inl, inr, cond, Bool, true, false, Option, Some, None}
use Rattle.std.proofs.Common.{List, [], ◌∷◌, length, drop, take, refl, sym, ap, subst, ◌∙◌, arith}
use Rattle.std.specs.Prelude.{nat_lt, position, slice_get, slice_index_or}
use Rattle.std.specs.Int.{bit_at}
use Rattle.std.specs.Int.RustNames.{bit_or}
use Rattle.std.specs.List.{position_or_len}
use Rattle.std.proofs.Math.Seq.{take-length}
use Rattle.std.proofs.lemmas.Bool.{cases_eq, cases_lt}
use Rattle.std.proofs.lemmas.Bool.Decides.{nat_tests}
use Rattle.std.proofs.lemmas.List.Quantifiers.{position-Some}
use Rattle.std.proofs.lemmas.List.Sums.{fails_before_first}
use Rattle.std.proofs.lemmas.Nat.Bits.{bit_at-lt, bit_at-pow_other, bit_at-pow_same, bit_at-zero, bit_at_or}
use Rattle.std.proofs.lemmas.Option.{slice_get-get_or, slice_get_cases}
use Rattle.sp_base.specs.declared.id.NodeId.{NodeId}
use Rattle.sp_base.specs.declared.limits.TheConstants.{MAX_EDGES}
use Rattle.sp_msg.specs.Views.{names_edge}
use Rattle.sp_topology.specs.declared.topology.Edge.{Edge}
use Rattle.sp_graph.proofs.GraphLemmas.{HasEnds, between_ends}
use Rattle.sp_graph.specs.declared.graph.Graph.{Graph}
use Rattle.sp_graph.specs.Edges.{IsEdge, IsGraph, IsLower}
use Rattle.sp_graph.specs.Masks.{is_walked_at, mask_at}
use Rattle.sp_graph.specs.Walks.{is_between}

-- ---- the edge of one step

-- a graph has one edge between two nodes
one_between : (nodes : ℕ) (u v : NodeId) (e f : Edge) → IsEdge nodes e → IsEdge nodes f → IsLower e f → is_between u v e ≡ true
    → is_between u v f ≡ true → ⊥
one_between nodes u v e f one two lower at also = go (between_ends u v e at) (between_ends u v f also) lower
  where
    go : HasEnds u v e → HasEnds u v f → IsLower e f → ⊥
    go (inl a) (inl b) (inl less) = omega (arith, a.0, b.0, less)
    go (inl a) (inl b) (inr less) = omega (arith, a.1, b.1, less.1)
    go (inl a) (inr b) less = omega (arith, a.0, a.1, b.0, b.1, one.1, two.1)
    go (inr a) (inl b) less = omega (arith, a.0, a.1, b.0, b.1, one.1, two.1)
    go (inr a) (inr b) (inl less) = omega (arith, a.0, b.0, less)
    go (inr a) (inr b) (inr less) = omega (arith, a.1, b.1, less.1)

-- whether there is an edge at this place, and it joins the two nodes
abbrev joins_at : NodeId → NodeId → Option Edge → Bool
joins_at u v None = false
joins_at u v (Some e) = is_between u v e

no_bit : (place : ℕ) → names_edge 0 place ≡ false
no_bit place = ap (λ (q : ℕ). q == 1) (bit_at-zero place)

no_edge : Edge
no_edge = record { low = record { 0 = 0 }; high = record { 0 = 0 }; weight = 0 }

absent : (test : Edge → Bool) (edges : List Edge) → position test edges ≡ None → (k : ℕ) (d : Edge) → k < length edges
    → test (slice_index_or edges k d) ≡ false
absent test edges none k d inside = fails_before_first test edges k d (go (nat_lt (position_or_len test edges) (length edges)) refl none)
  where
    go : (b : Bool) → nat_lt (position_or_len test edges) (length edges) ≡ b → cond b (Some (position_or_len test edges)) None ≡ None
        → k < position_or_len test edges
    go true is e = absurd cc
    go false is e = grind (arith, nat_tests)

-- where no edge at this place joins the two
not_at : (u v : NodeId) (edges : List Edge) (place : ℕ) → ((x : Edge) → place < length edges → slice_index_or edges place x ≡ x → is_between u v x ≡ false)
    → joins_at u v (slice_get edges place) ≡ false
not_at u v edges place apart = go (slice_get_cases edges place).1
  where
    go : ((x : Edge) × (place < length edges) × (slice_get edges place ≡ Some x) × (slice_index_or edges place x ≡ x))
        ⊎ ((length edges ≤ place) × (slice_get edges place ≡ None))
        → joins_at u v (slice_get edges place) ≡ false
    go (inl (x, within, got, read)) = ap (joins_at u v) got ∙ apart x within read
    go (inr (far, none)) = ap (joins_at u v) none

-- a mask of the edge between two nodes has that one alone
step_named : (g : Graph) → IsGraph g → (u v : NodeId) (place : ℕ)
    → names_edge (mask_at (position (is_between u v) g.edges)) place ≡ joins_at u v (slice_get g.edges place)
step_named g good u v place = go (position (is_between u v) g.edges) refl
  where
    go : (o : Option ℕ) → position (is_between u v) g.edges ≡ o → names_edge (mask_at o) place ≡ joins_at u v (slice_get g.edges place)
    go None none =
        no_bit place ∙ sym (not_at u v g.edges place (λ x within read. ap (is_between u v) (sym read) ∙ absent (is_between u v) g.edges none place x within))
    go (Some i) at = here (cases_eq place i)
      where
        facts : (d : Edge) → (i < length g.edges) × (is_between u v (slice_index_or g.edges i d) ≡ true)
        facts d = let all = position-Some (is_between u v) g.edges i d at in (all.0, all.1)

        other : place ≢ i → (x : Edge) → place < length g.edges → slice_index_or g.edges place x ≡ x → is_between u v x ≡ false
        other apart x within read = by (is_between u v x) refl
          where
            first : Edge
            first = slice_index_or g.edges i x

            good_first : IsEdge g.nodes first
            good_first = good.edges i x (facts x).0

            good_x : IsEdge g.nodes x
            good_x = subst (IsEdge g.nodes) read (good.edges place x within)

            by : (b : Bool) → is_between u v x ≡ b → is_between u v x ≡ false
            by false is = is
            by true is = absurd (order (cases_lt place i))
              where
                order : (place < i) ⊎ (i ≤ place) → ⊥
                order (inl before) =
                    one_between g.nodes u v x first good_x good_first
                    (subst (λ (e : Edge). IsLower e first) read (good.ascend place i x before (facts x).0)) is (facts x).1
                order (inr after) =
                    one_between g.nodes u v first x good_first good_x
                    (subst (IsLower first) read (good.ascend i place x (omega (arith, after, apart)) within)) (facts x).1 is

        here : (place ≡ i) ⊎ (place ≢ i) → names_edge (2 ^ i) place ≡ joins_at u v (slice_get g.edges place)
        here (inl same) =
            let named : names_edge (2 ^ i) i ≡ true = ap (λ (q : ℕ). q == 1) (bit_at-pow_same i) in
            let joins : joins_at u v (slice_get g.edges i) ≡ true =
            ap (joins_at u v) (slice_get-get_or g.edges i no_edge (facts no_edge).0) ∙ (facts no_edge).1 in
            rw same (named ∙ sym joins)
        here (inr apart) = ap (λ (q : ℕ). q == 1) (bit_at-pow_other i place apart) ∙ sym (not_at u v g.edges place (other apart))

-- ---- the edges of all steps

either : (x y : ℕ) → x < 2 → y < 2 → (max x y == 1) ≡ ((x == 1) || (y == 1))
either zero zero low high = refl
either zero (suc zero) low high = refl
either (suc zero) zero low high = refl
either (suc zero) (suc zero) low high = refl
either (suc (suc x)) y low high = absurd (omega (arith, low))
either zero (suc (suc y)) low high = absurd (omega (arith, high))
either (suc zero) (suc (suc y)) low high = absurd (omega (arith, high))

-- an edge is in one of two masks
pub named_or : (a b edge : ℕ) → names_edge (bit_or a b) edge ≡ (names_edge a edge || names_edge b edge)
named_or a b edge =
    ap (λ (n : ℕ). n == 1) (bit_at_or a b edge) ∙ either (bit_at a edge) (bit_at b edge) (bit_at-lt a edge) (bit_at-lt b edge)

-- either of three is so, however they are grouped
pub regroup : (a b c : Bool) → ((a || b) || c) ≡ (a || (b || c))
regroup true b c = refl
regroup false b c = refl

-- with the edges of the rest of the path the mask has those of the whole
abbrev pub IsMaskWith : List Edge → List NodeId → List NodeId → ℕ → Type 0
IsMaskWith edges rest path mask = (place : ℕ) → (names_edge mask place || is_walked_at (slice_get edges place) rest) ≡ is_walked_at (slice_get edges place) path

pub none_so_far : (edges : List Edge) (path : List NodeId) → IsMaskWith edges path path 0
none_so_far edges path place = ap (λ (b : Bool). b || is_walked_at (slice_get edges place) path) (no_bit place)

walked_more : (u v : NodeId) (more : List NodeId) (o : Option Edge) → is_walked_at o (u ∷ v ∷ more) ≡ (joins_at u v o || is_walked_at o (v ∷ more))
walked_more u v more None = refl
walked_more u v more (Some e) = refl

pub one_step : (g : Graph) → IsGraph g → (rest path : List NodeId) (mask : ℕ) (d e : NodeId) → 2 ≤ length rest → IsMaskWith g.edges rest path mask
    → IsMaskWith g.edges (drop 1 rest) path (bit_or mask (mask_at (position (is_between (slice_index_or rest 0 d) (slice_index_or rest 1 e)) g.edges)))
one_step g good [] path mask d e long so_far place = absurd (omega (arith, long))
one_step g good (u ∷ []) path mask d e long so_far place = absurd (omega (arith, long))
one_step g good (u ∷ v ∷ more) path mask d e long so_far place =
    let at = slice_get g.edges place in
    let one = mask_at (position (is_between u v) g.edges) in
    ap (λ (b : Bool). b || is_walked_at at (v ∷ more)) (named_or mask one place)
    ∙ regroup (names_edge mask place) (names_edge one place) (is_walked_at at (v ∷ more))
    ∙ ap (λ (b : Bool). names_edge mask place || (b || is_walked_at at (v ∷ more))) (step_named g good u v place)
    ∙ ap (λ (b : Bool). names_edge mask place || b) (sym (walked_more u v more at))
    ∙ so_far place

take_rest : (rest : List NodeId) → take (length rest - 1) (drop 1 rest) ≡ drop 1 rest
take_rest [] = refl
take_rest (u ∷ more) = let one_less : length (u ∷ more) - 1 ≡ length more = omega arith in rw one_less (take-length more)

-- as the code has it: a mask is put to that of the steps so far, and the first node is left behind
pub next_step : (g : Graph) → IsGraph g → (edges : List Edge) → edges ≡ g.edges → (rest path : List NodeId) (mask one : ℕ) (d e : NodeId) → 2 ≤ length rest
    → one ≡ mask_at (position (is_between (slice_index_or rest 0 d) (slice_index_or rest 1 e)) edges) → IsMaskWith edges rest path mask
    → IsMaskWith edges (take (length rest - 1) (drop 1 rest)) path (bit_or mask one)
next_step g good edges same rest path mask one d e long is so_far =
    rw (take_rest rest, is, same) (one_step g good rest path mask d e long (rw same at so_far))

none_left : (rest : List NodeId) (o : Option Edge) → length rest < 2 → is_walked_at o rest ≡ false
none_left rest None few = refl
none_left [] (Some e) few = refl
none_left (u ∷ []) (Some e) few = refl
none_left (u ∷ v ∷ more) (Some e) few = absurd (omega (arith, few))

or_false : (b : Bool) → (b || false) ≡ b
or_false true = refl
or_false false = refl

-- no step is left
pub all_steps : (edges : List Edge) (rest path : List NodeId) (mask : ℕ) → length rest < 2 → IsMaskWith edges rest path mask
    → (place : ℕ) → names_edge mask place ≡ is_walked_at (slice_get edges place) path
all_steps edges rest path mask few so_far place =
    sym (or_false (names_edge mask place)) ∙ ap (λ (b : Bool). names_edge mask place || b) (sym (none_left rest (slice_get edges place) few)) ∙ so_far place
