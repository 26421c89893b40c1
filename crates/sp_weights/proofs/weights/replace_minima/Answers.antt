use Rattle.std.proofs.Common.{◌≡◌, ◌+◌, ◌++◌, ℕ, suc, ap, ◌∙◌, arith, drop, get_or, set, take, List}
use Rattle.sp_topology.specs.declared.topology.Edge.{Edge}
use Rattle.sp_rules.specs.Topologies.{weights_in}
use Rattle.sp_weights.proofs.EffectLemmas.{minima_set}
use Rattle.sp_weights.proofs.weights.replace_minima.Goals as goal

pub edges-preserved : goal.edges-preserved
edges-preserved c =
    let edges = c.args.edges.now in
    let old : List ℕ = c.args.least.now.items in
    let place = c.edges.place in
    let d : Edge = record { low = record { 0 = 0 }; high = record { 0 = 0 }; weight = 0 } in
    ap (λ (xs : List ℕ). set xs place (get_or edges place d).weight) c.edges.invariant
    ∙ minima_set edges old place d (omega (arith, c.edges-test.true)) (omega (arith, c.requires))
    ∙ ap (λ (n : ℕ). weights_in (take n edges) ++ drop n old) (let e : suc place ≡ place + 1 = omega arith in e)
