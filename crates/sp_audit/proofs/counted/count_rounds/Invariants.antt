use Rattle.std.proofs.Common.{ℕ, ◌≤◌, ◌+◌, length, drop, take}
use Rattle.sp_rules.specs.declared.kflow.FlowKind.TheVariants.{Plain}
use Rattle.sp_runs.specs.Rounds.{CompleteRounds}
use Rattle.sp_audit.specs.Ends.{AreMade}
use Rattle.sp_audit.proofs.counted.count_rounds.Given as goal

abbrev pub invariant-rounds : goal.invariant-rounds
invariant-rounds l = record {
  there : l.at ≤ length l.events;
  past : l.round ≤ l.at;
  made : AreMade l.made.forth l.made.back l.path (take l.at l.events);
  on : (n : ℕ) → CompleteRounds Plain l.least l.flow.src l.flow.dst l.path n (take l.at l.events) (drop l.at l.events)
      → CompleteRounds Plain l.least l.flow.src l.flow.dst l.path (l.round + n) (take l.from l.events) (drop l.from l.events);
  back : (n : ℕ) → CompleteRounds Plain l.least l.flow.src l.flow.dst l.path (l.round + n) (take l.from l.events) (drop l.from l.events)
      → CompleteRounds Plain l.least l.flow.src l.flow.dst l.path n (take l.at l.events) (drop l.at l.events);
}
