-- Edges and their lines.
use Rattle.std.proofs.Common.{◌≡◌, ℕ, ◌<◌, ◌^◌, List, refl, sym, ◌∙◌, subst, arith}
use Rattle.std.specs.Fmt.{decimal}
use Rattle.sp_text.specs.Spelling.{Word}
use Rattle.sp_text.proofs.FieldLemmas.{one_number}
use Rattle.sp_topology.specs.declared.topology.Edge.{Edge}
use Rattle.sp_graph.specs.declared.graph.Graph.{Graph}
use Rattle.sp_graph.specs.Edges.{IsAmong, IsNextEdge, IsWeight}
use Rattle.sp_graph.specs.Spelling.{edge_words}

-- the numbers of an edge are small
abbrev pub IsSmall : Edge → Type 0
IsSmall e = (e.low.0 < 2 ^ 64) × (e.high.0 < 2 ^ 64) × (e.weight < 2 ^ 64)

-- a line is of one edge
pub one_edge : (words : List Word) (e f : Edge) → IsSmall e → IsSmall f → words ≡ edge_words e → words ≡ edge_words f → e ≡ f
one_edge words e f small_e small_f is_e is_f =
    let same : edge_words e ≡ edge_words f = sym is_e ∙ is_f in
    let low : e.low.0 ≡ f.low.0 = one_number (decimal e.low.0) e.low.0 f.low.0 small_e.0 small_f.0 refl cc in
    let high : e.high.0 ≡ f.high.0 = one_number (decimal e.high.0) e.high.0 f.high.0 small_e.1 small_f.1 refl cc in
    let weight : e.weight ≡ f.weight = one_number (decimal e.weight) e.weight f.weight small_e.2 small_f.2 refl cc in
    let parts : Edge → Edge = λ x. record { low = record { 0 = x.low.0 }; high = record { 0 = x.high.0 }; weight = x.weight } in
    let all : parts e ≡ parts f = rw (low, high, weight) refl in
    all

-- an edge that isn't the next one makes its line no good line
pub not_next : (format : ℕ) → (g : Graph) (words : List Word) (e : Edge) → g.nodes < 2 ^ 64 → IsAmong g.nodes e → IsWeight e → words ≡ edge_words e
    → (IsNextEdge format g e → ⊥)
    → (x : Edge) → IsNextEdge format g x × (words ≡ edge_words x) → ⊥
not_next format g words e few among weight is wrong x right =
    let same : x ≡ e = one_edge words x e (omega arith, omega arith, omega arith) (omega arith, omega arith, omega arith) right.1 is in
    wrong (subst (λ (y : Edge). IsNextEdge format g y) same right.0)
