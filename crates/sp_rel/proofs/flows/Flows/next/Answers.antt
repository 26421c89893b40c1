use Rattle.std.proofs.Common.{◌∙◌, ap, map}
use Rattle.sp_base.specs.Cursor.{next_after}
use Rattle.sp_rel.proofs.FlowLemmas.{active_in}
use Rattle.sp_rel.proofs.flows.Flows.next.Goals as goal

pub returns : goal.returns
returns c =
    c.next.ensures ∙ ap (next_after c.args.cursor) (c.as_slice.ensures.value
    ∙ active_in c.self.inside.rows.items c.self.inside.active.items c.self.invariant.active_flags)
    ∙ ap (λ v. next_after c.args.cursor (map (λ f. f.active) v.flows)) c.self.view_is
