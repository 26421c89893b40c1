use Rattle.std.proofs.Common.{◌-◌, ◌+◌, All, List, get_or, refl, sym, arith, drop, take, subst}
use Rattle.sp_base.specs.declared.id.NodeId.{NodeId}
use Rattle.sp_graph.specs.Walks.{steps}
use Rattle.sp_rules.specs.declared.kflow.FlowKind.TheVariants.{Plain}
use Rattle.sp_runs.specs.Rounds.{IsHopServed}
use Rattle.sp_audit.specs.Ends.{IsFirstEnd}
use Rattle.sp_audit.proofs.Hops.{count_steps, hops_more}
use Rattle.sp_audit.proofs.Walks.{take_all}
use Rattle.sp_audit.proofs.counted.round_end.Goals as goal

pub hops-preserved : goal.hops-preserved
hops-preserved c =
    subst (IsFirstEnd
    (λ xs. All (λ hop. IsHopServed Plain c.args.least c.args.flow.src c.args.flow.dst hop.0 hop.1 (take c.args.from c.args.events.now) xs)
    (take (c.hops.place + 1 - 1) (steps c.args.path.now)))
    (drop c.args.from c.args.events.now)) (sym c.max-end.ensures)
    (hops_more c.args.least c.args.flow.src c.args.flow.dst (take c.args.from c.args.events.now) (drop c.args.from c.args.events.now) c.args.path.now
    c.hops.place c.hops.end c.hop_end-served.result
    (get_or c.args.path.now (c.hops.place - 1) (record { 0 = 0 })) (get_or c.args.path.now c.hops.place (record { 0 = 0 })) (record { 0 = 0 }) c.hops.auto.place
    c.hops-test.true refl refl c.hops.invariant c.hop_end-served.ensures)

pub returns : goal.returns
returns c =
    let long = count_steps c.args.path.now in
    subst (λ (hs : List (NodeId × NodeId)). IsFirstEnd
    (λ xs. All (λ hop. IsHopServed Plain c.args.least c.args.flow.src c.args.flow.dst hop.0 hop.1 (take c.args.from c.args.events.now) xs) hs)
    (drop c.args.from c.args.events.now) c.hops.end)
    (take_all (steps c.args.path.now) (c.hops.place - 1) (omega (arith, long, c.hops-test.false))) c.hops.invariant
