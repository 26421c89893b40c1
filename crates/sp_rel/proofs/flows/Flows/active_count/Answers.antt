use Rattle.std.proofs.Common.{◌∙◌, List, Bool, ap}
use Rattle.std.specs.Prelude.{count_by}
use Rattle.sp_rel.specs.Tables.{FlowsState}
use Rattle.sp_rel.proofs.FateLemmas.{active_count_of}
use Rattle.sp_rel.proofs.flows.Flows.active_count.Goals as goal

pub returns-clause-count : goal.returns-clause-count
returns-clause-count c =
    c.number_on.ensures.count ∙ ap (λ (flags : List Bool). count_by (λ flag. flag) flags) (c.as_slice.ensures.value ∙ c.self.invariant.active_flags)
    ∙ active_count_of c.self.inside.rows.items ∙ ap (λ (t : FlowsState). count_by (λ f. f.active) t.flows) c.self.view_is
