use Rattle.std.proofs.Common.{◌-◌, take, drop, All}
use Rattle.sp_graph.specs.Walks.{steps}
use Rattle.sp_rules.specs.declared.kflow.FlowKind.TheVariants.{Plain}
use Rattle.sp_runs.specs.Rounds.{IsHopServed}
use Rattle.sp_audit.specs.Ends.{IsFirstEnd}
use Rattle.sp_audit.proofs.counted.round_end.Given as goal

abbrev pub invariant-hops : goal.invariant-hops
invariant-hops l =
    IsFirstEnd (λ xs. All (λ hop. IsHopServed Plain l.least l.flow.src l.flow.dst hop.0 hop.1 (take l.from l.events) xs) (take (l.place - 1) (steps l.path)))
    (drop l.from l.events) l.end
