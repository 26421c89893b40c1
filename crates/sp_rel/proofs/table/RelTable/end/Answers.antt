use Rattle.std.proofs.Common.{ap, arith, sym, subst}
use Rattle.std.specs.Prelude.{count_by}
use Rattle.sp_rel.specs.Places.{IsPlace}
use Rattle.sp_rel.specs.Tables.{FlowsState}
use Rattle.sp_rel.specs.declared.fate.Fate.TheVariants as fates
use Rattle.sp_rules.specs.Rel.{RelState}
use Rattle.sp_rel.proofs.FateLemmas.{few_end, places_stay}
use Rattle.sp_rel.proofs.table.RelTable.end.Goals as goal

pub meet-requires : goal.meet-requires
meet-requires c =
    let few = few_end c.args.kind (fates.Removed c.args.removed) c.self.inside.flows.flows in
    let view = ap (λ (r : RelState). count_by (λ f. f.active) r.flows) c.self.view_is in
    omega (arith, few, view, c.requires.room)

pub returns-clause-places : goal.returns-clause-places
returns-clause-places c place at =
    subst (λ (t : FlowsState). IsPlace t.flows place) (sym c.meet.ensures.flows)
    (places_stay (fates.Removed c.args.removed) c.self.inside.flows.flows place (subst (λ (r : RelState). IsPlace r.flows place) (sym c.self.view_is) at))
