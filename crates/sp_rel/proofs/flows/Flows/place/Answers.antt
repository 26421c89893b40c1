use Rattle.std.proofs.Common.{◌∙◌, ap, ℕ, Option}
use Rattle.std.specs.List.{position}
use Rattle.sp_rules.specs.Flow.{is_flow}
use Rattle.sp_rel.proofs.FlowLemmas.{position_states}
use Rattle.sp_rel.specs.declared.place.Place.{Place}
use Rattle.sp_rel.proofs.flows.Flows.place.Goals as goal

pub returns : goal.returns
returns c =
    ap (λ (at : Option ℕ). let p : Place = record { flow = c.args.flow; at = at } in p)
    (c.seek.ensures ∙ ap (position (λ row. is_flow c.args.flow row.state)) c.as_slice.ensures.value
    ∙ position_states (is_flow c.args.flow) c.self.inside.rows.items ∙ ap (λ v. position (is_flow c.args.flow) v.flows) c.self.view_is)
