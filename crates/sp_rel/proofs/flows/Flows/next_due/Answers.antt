use Rattle.std.proofs.Common.{◌∙◌, ap, map}
use Rattle.sp_base.specs.Cursor.{next_after}
use Rattle.sp_rules.specs.Rel.{is_due}
use Rattle.sp_rel.proofs.FlowLemmas.{due_in}
use Rattle.sp_rel.proofs.flows.Flows.next_due.Goals as goal

pub returns : goal.returns
returns c =
    c.next.ensures ∙ ap (next_after c.args.cursor) (c.as_slice.ensures.value
    ∙ due_in c.self.inside.me c.self.inside.rows.items c.self.inside.due.items c.self.invariant.due_flags)
    ∙ ap (λ v. next_after c.args.cursor (map (is_due v.me) v.flows)) c.self.view_is
