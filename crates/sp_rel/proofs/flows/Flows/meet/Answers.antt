use Rattle.std.proofs.Common.{◌≤◌, ◌∙◌, List, ap, sym, subst, length, map}
use Rattle.std.specs.List.{flat_map}
use Rattle.sp_msg.specs.declared.effect.Effect.{Effect}
use Rattle.sp_rel.specs.Fates.{end_of, ended_row, flow_after}
use Rattle.sp_rel.specs.Rows.{RowState}
use Rattle.sp_rel.specs.Tables.{FlowsState, states}
use Rattle.sp_rules.specs.Flow.{FlowState}
use Rattle.sp_rules.specs.Told.{told}
use Rattle.sp_rel.proofs.FateLemmas.{ended_of_rows, states_after}
use Rattle.sp_rel.proofs.flows.Flows.meet.Goals as goal

pub tell_ended-requires : goal.tell_ended-requires
tell_ended-requires c =
    let fate = c.args.fate.now in
    subst (λ (es : List Effect). length es ≤ c.args.effects.now.room)
    (ap (λ (t : FlowsState). flat_map (end_of c.args.kind fate) t.flows) (sym c.self.view_is) ∙ ended_of_rows c.args.kind fate c.self.inside.rows.items
    ∙ ap (flat_map (ended_row c.args.kind fate)) (sym c.as_slice.ensures.value)) c.requires

pub invariant_of-self : goal.invariant_of-self
invariant_of-self c = c.meet_rows.ensures.sound c.self.inside.me c.self.inside.bound c.self.invariant

pub returns-clause-flows : goal.returns-clause-flows
returns-clause-flows c =
    let f = c.self.inside in
    let fate = c.args.fate.now in
    ap (λ (flows : List FlowState). let t : FlowsState = record { me = f.me; bound = f.bound; flows = flows } in t)
    (ap states c.meet_rows.ensures.rows ∙ states_after fate f.rows.items)
    ∙ ap (λ (t : FlowsState). let new : FlowsState = record { me = t.me; bound = t.bound; flows = map (flow_after fate) t.flows } in new) c.self.view_is

pub returns-clause-told : goal.returns-clause-told
returns-clause-told c =
    let fate = c.args.fate.now in
    c.tell_ended.ensures ∙ ap (λ (rows : List RowState). told c.args.effects.now (flat_map (ended_row c.args.kind fate) rows)) c.as_slice.ensures.value
    ∙ ap (told c.args.effects.now) (sym (ended_of_rows c.args.kind fate c.self.inside.rows.items))
    ∙ ap (λ (t : FlowsState). told c.args.effects.now (flat_map (end_of c.args.kind fate) t.flows)) c.self.view_is
