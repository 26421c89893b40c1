use Rattle.std.proofs.Common.{sym, subst}
use Rattle.sp_rel.specs.Places.{IsPlace}
use Rattle.sp_rel.specs.Tables.{FlowsState}
use Rattle.sp_rel.specs.declared.fate.Fate.TheVariants as fates
use Rattle.sp_rules.specs.Rel.{RelState}
use Rattle.sp_rel.proofs.FateLemmas.{places_stay}
use Rattle.sp_rel.proofs.table.RelTable.restart.Goals as goal

pub returns-clause-places : goal.returns-clause-places
returns-clause-places c place at =
    subst (λ (t : FlowsState). IsPlace t.flows place) (sym c.meet.ensures.flows)
    (places_stay (fates.Restarted c.args.node) c.self.inside.flows.flows place (subst (λ (r : RelState). IsPlace r.flows place) (sym c.self.view_is) at))
