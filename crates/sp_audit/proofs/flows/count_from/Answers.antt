use Rattle.std.proofs.Common.{◌≡◌, ℕ, ◌+◌, Bool, not, ◌&&◌, List, count_by, map, sym, ap, ap₂, ◌∙◌, arith}
use Rattle.std.specs.Prelude.{◌==◌}
use Rattle.std.specs.List.{range_with_len}
use Rattle.sp_base.specs.declared.id.Flow.{Flow}
use Rattle.sp_base.specs.declared.id.NodeId.{NodeId}
use Rattle.sp_rules.specs.Rel.{flows_from}
use Rattle.sp_runs.specs.Scenarios.{numbered, setting_of}
use Rattle.sp_audit.specs.Counted.{may_wait}
use Rattle.sp_audit.proofs.FlowLemmas.{from_more, nodes_more, nodes_numbered}
use Rattle.sp_audit.proofs.ShareLemmas.{one_at_most}
use Rattle.sp_audit.proofs.flows.count_from.Goals as goal

pub ids-preserved : goal.ids-preserved
ids-preserved c =
    let p : Flow → Bool = may_wait (setting_of c.args.scenario.now) c.args.events.now in
    let most = one_at_most (not ((c.ids.id + 1) == c.args.src.0) && p (record { src = c.args.src; dst = numbered (c.ids.id + 1) })) in
    record {
      few = omega (arith, c.ids.invariant.few, c.one_if-count.ensures, most);
      counted = ap₂ (λ (a b : ℕ). a + b) c.ids.invariant.counted c.one_if-count.ensures
          ∙ sym (from_more p c.args.src (map numbered (range_with_len 1 c.ids.id)) (numbered (c.ids.id + 1)))
          ∙ ap (λ (us : List NodeId). count_by p (flows_from c.args.src us)) (sym (nodes_more c.ids.id));
    }

pub returns-clause-counted : goal.returns-clause-counted
returns-clause-counted c =
    let p : Flow → Bool = may_wait (setting_of c.args.scenario.now) c.args.events.now in
    let all : c.ids.id ≡ c.args.scenario.now.graph.nodes = omega (arith, c.ids.auto.id-end, c.ids-test.false) in
    c.ids.invariant.counted ∙ ap (λ (n : ℕ). count_by p (flows_from c.args.src (map numbered (range_with_len 1 n)))) all
    ∙ ap (λ (us : List NodeId). count_by p (flows_from c.args.src us)) (sym (nodes_numbered c.args.scenario.now))
