use Rattle.std.proofs.Common.{◌∙◌, ap, length}
use Rattle.sp_rules.specs.Rel.{RelState, restart_effects}
use Rattle.sp_rel.proofs.table.RelTable.ended_count.Goals as goal

pub returns-clause-count : goal.returns-clause-count
returns-clause-count c kind = c.end_count.ensures.count kind ∙ ap (λ (r : RelState). length (restart_effects kind r c.args.node)) c.self.view_is
