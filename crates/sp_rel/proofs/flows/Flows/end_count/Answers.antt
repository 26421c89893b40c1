use Rattle.std.proofs.Common.{◌∙◌, ap, length}
use Rattle.std.specs.Prelude.{count_by}
use Rattle.std.specs.List.{flat_map}
use Rattle.sp_rel.specs.Fates.{end_of, is_ended}
use Rattle.sp_rel.specs.Tables.{FlowsState}
use Rattle.sp_rel.proofs.FateLemmas.{end_count_of}
use Rattle.sp_rel.proofs.flows.Flows.end_count.Goals as goal

pub returns-clause-count : goal.returns-clause-count
returns-clause-count c kind =
    let fate = c.args.fate.now in
    c.ended_in.ensures.count ∙ ap (count_by (is_ended fate)) c.as_slice.ensures.value ∙ end_count_of kind fate c.self.inside.rows.items
    ∙ ap (λ (t : FlowsState). length (flat_map (end_of kind fate) t.flows)) c.self.view_is
