use Rattle.std.proofs.Common.{◌≡◌, ℕ, ap}
use Rattle.std.specs.Bool.{Decides}
use Rattle.std.proofs.lemmas.Bool.Decides.{Decides-and, Decides-eqb, Decides-like}
use Rattle.std.proofs.lemmas.Slice.Eq.{slice_eq-Decides}
use Rattle.sp_topology.specs.declared.topology.Edge.{Edge}
use Rattle.sp_topology.specs.contracts.topology.EdgePartialEq.TheImpl.{eq-value}
use Rattle.sp_routes.proofs.book.are_same.Goals as goal

abbrev edge : ℕ → ℕ → ℕ → Edge
edge low high weight = record { low = record { 0 = low }; high = record { 0 = high }; weight = weight }

same_edge : (a b w c d v : ℕ) → a ≡ c → b ≡ d → w ≡ v → edge a b w ≡ edge c d v
same_edge a b w c d v low high weight = cc

edges_decide : (e f : Edge) → Decides (eq-value.it e f) (e ≡ f)
edges_decide e f =
    Decides-like _ (λ same. same_edge e.low.0 e.high.0 e.weight f.low.0 f.high.0 f.weight same.0 same.1.0 same.1.1)
    (λ same. (ap (λ (x : Edge). x.low.0) same, (ap (λ (x : Edge). x.high.0) same, ap (λ (x : Edge). x.weight) same)))
    (Decides-and _ _ (Decides-eqb e.low.0 f.low.0) (Decides-and _ _ (Decides-eqb e.high.0 f.high.0) (Decides-eqb e.weight f.weight)))

pub returns : goal.returns
returns c = slice_eq-Decides edges_decide c.args.edges.now c.args.others.now c.eq.result c.eq.ensures
