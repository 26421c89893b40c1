use Rattle.std.proofs.Common.{◌≡◌, ◌*◌, List, ap, arith, length, ◌∙◌, sym}
use Rattle.sp_base.proofs.FormatLemmas.{few_edges}
use Rattle.sp_topology.specs.declared.topology.Edge.{Edge}
use Rattle.sp_rules.specs.Topologies.{weights_in}
use Rattle.sp_weights.proofs.SoundLemmas.{sound_at_start}
use Rattle.sp_weights.proofs.weights.Weights.new.Goals as goal

pub invariant_of-result : goal.invariant_of-result
invariant_of-result c =
    let edges = c.in_ok-edges.edges.items in
    let same : edges ≡ c.args.topology.now.edges = c.in_ok-edges.ensures.items ∙ c.as_slice.ensures in
    let few = few_edges c.args.topology.now.format in
    let least : c.in_ok-least.least.items ≡ weights_in edges = rw c.as_slice-3.ensures.value at c.in_ok-least.ensures in
    let weights : c.in_ok-in_effect.in_effect.items ≡ weights_in edges = rw c.as_slice-4.ensures.value at c.in_ok-in_effect.ensures in
    sound_at_start edges c.in_ok-least.least.items c.in_ok-rows.rows.items c.in_ok-active.active.items c.in_ok-in_effect.in_effect.items
    (2 * c.len-count.result)
    (omega (arith, ap (λ (es : List Edge). length es) same, c.requires.graph.edge_count, few))
    (omega (arith, c.len-count.ensures, c.in_ok-edges.ensures.len, ap length c.in_ok-edges.ensures.items))
    c.in_ok-rows.ensures c.in_ok-active.ensures least (weights ∙ sym least)
