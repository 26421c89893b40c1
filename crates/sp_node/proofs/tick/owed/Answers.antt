use Rattle.sp_rules.specs.declared.kflow.FlowKind.TheVariants as kinds
use Rattle.sp_node.proofs.tick.owed.Goals as goal

pub returns-in_err-plain-clause-none : goal.returns-in_err-plain-clause-none
returns-in_err-plain-clause-none c = λ none. let no = c.in_err-plain.ensures.none (none kinds.Plain) in absurd (cc)

pub returns-in_err-paths-clause-none : goal.returns-in_err-paths-clause-none
returns-in_err-paths-clause-none c = λ none. let no = c.in_err-paths.ensures.none (none kinds.Paths) in absurd (cc)
