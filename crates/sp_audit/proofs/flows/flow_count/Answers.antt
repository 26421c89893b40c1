use Rattle.std.proofs.Common.{◌≡◌, ℕ, ◌+◌, max, Bool, List, count_by, flat_map, map, sym, ap, ap₂, ◌∙◌, arith}
use Rattle.std.specs.List.{range_with_len}
use Rattle.sp_base.specs.declared.id.Flow.{Flow}
use Rattle.sp_base.specs.declared.id.NodeId.{NodeId}
use Rattle.sp_rules.specs.Parts.{nodes_of}
use Rattle.sp_rules.specs.Rel.{flows_from, pairs_of}
use Rattle.sp_runs.specs.Scenarios.{numbered, setting_of, topology_of}
use Rattle.sp_audit.specs.Counted.{may_wait}
use Rattle.sp_audit.proofs.FlowLemmas.{all_more, in_two, nodes_more, nodes_numbered}
use Rattle.sp_audit.proofs.flows.flow_count.Goals as goal

pub ids-preserved : goal.ids-preserved
ids-preserved c =
    let p : Flow → Bool = may_wait (setting_of c.args.scenario.now) c.args.events.now in
    let f : NodeId → List Flow = λ src. flows_from src (nodes_of (topology_of c.args.scenario.now)) in
    record {
      few = omega (arith, c.ids.invariant.few, c.count_from-count.ensures.few);
      counted = ap₂ (λ (a b : ℕ). a + b) c.ids.invariant.counted c.count_from-count.ensures.counted
          ∙ sym (all_more p f (map numbered (range_with_len 1 c.ids.id)) (numbered (c.ids.id + 1)))
          ∙ ap (λ (us : List NodeId). count_by p (flat_map f us)) (sym (nodes_more c.ids.id));
    }

pub returns-clause-counted : goal.returns-clause-counted
returns-clause-counted c =
    let x = setting_of c.args.scenario.now in
    let p : Flow → Bool = may_wait x c.args.events.now in
    let f : NodeId → List Flow = λ src. flows_from src (nodes_of (topology_of c.args.scenario.now)) in
    let all : c.ids.id ≡ c.args.scenario.now.graph.nodes = omega (arith, c.ids.auto.id-end, c.ids-test.false) in
    let counted : c.ids.count ≡ count_by p (pairs_of (nodes_of (topology_of c.args.scenario.now))) =
    c.ids.invariant.counted ∙ ap (λ (n : ℕ). count_by p (flat_map f (map numbered (range_with_len 1 n)))) all
    ∙ ap (λ (us : List NodeId). count_by p (flat_map f us)) (sym (nodes_numbered c.args.scenario.now)) in
    c.max.ensures ∙ ap (λ (n : ℕ). max 1 n) (counted ∙ in_two x c.args.events.now (pairs_of (nodes_of (topology_of c.args.scenario.now))))
