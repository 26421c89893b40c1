use Rattle.std.proofs.Common.{◌∙◌, ap, sym, subst}
use Rattle.std.specs.List.{position}
use Rattle.sp_rel.specs.Changes.{CanChange, changed}
use Rattle.sp_rel.specs.Rows.{IsSeated}
use Rattle.sp_rules.specs.Flow.{is_flow}
use Rattle.sp_rules.specs.Rel.{flow_in}
use Rattle.sp_rel.specs.Tables.{FlowsState, put_in}
use Rattle.sp_rel.proofs.FlowLemmas.{put_in_none, read_there}
use Rattle.sp_rel.proofs.SoundLemmas.{flows_changed, place_changed, row_at, row_can_change, row_is_seated, sound_changed}
use Rattle.sp_rel.proofs.flows.Flows.change.Goals as goal

pub change-requires-clause-can : goal.change-requires-clause-can
change-requires-clause-can c =
    let f = c.self.inside in
    let at = row_at f.me f.bound f.rows.items f.active.items f.due.items c.args.place.flow c.in-Some.at c.index_mut-row.result.now c.self.invariant
    (ap (λ v. position (is_flow c.args.place.flow) v.flows) c.self.view_is ∙ sym c.requires.place ∙ c.in-Some.is) c.index_mut-row.ensures.value in
    row_can_change f.me f.bound f.rows.items c.args.place.flow c.in-Some.at c.index_mut-row.result.now c.args.change at
    (subst (λ (v : FlowsState). CanChange v.me v.bound (flow_in v.flows c.args.place.flow) c.args.change) (sym c.self.view_is) c.requires.can)

pub change-requires-clause-seat : goal.change-requires-clause-seat
change-requires-clause-seat c =
    let f = c.self.inside in
    let at = row_at f.me f.bound f.rows.items f.active.items f.due.items c.args.place.flow c.in-Some.at c.index_mut-row.result.now c.self.invariant
    (ap (λ v. position (is_flow c.args.place.flow) v.flows) c.self.view_is ∙ sym c.requires.place ∙ c.in-Some.is) c.index_mut-row.ensures.value in
    row_is_seated f.me f.bound f.rows.items c.args.place.flow c.in-Some.at c.index_mut-row.result.now c.args.seat at
    (subst (λ (v : FlowsState). IsSeated v.me v.bound (flow_in v.flows c.args.place.flow) c.args.seat) (sym c.self.view_is) c.requires.seat)

pub invariant_of-self : goal.invariant_of-self
invariant_of-self c =
    let f = c.self.inside in
    let at = row_at f.me f.bound f.rows.items f.active.items f.due.items c.args.place.flow c.in-Some.at c.index_mut-row.result.now c.self.invariant
    (ap (λ v. position (is_flow c.args.place.flow) v.flows) c.self.view_is ∙ sym c.requires.place ∙ c.in-Some.is) c.index_mut-row.ensures.value in
    let can = subst (λ (v : FlowsState). CanChange v.me v.bound (flow_in v.flows c.args.place.flow) c.args.change) (sym c.self.view_is) c.requires.can in
    sound_changed f.me f.bound f.rows.items f.active.items f.due.items c.args.place.flow c.in-Some.at c.index_mut-row.result.now c.change.new.self c.args.change
    c.is_active.result c.is_due.result c.self.invariant at can c.change.ensures c.is_active.ensures c.is_due.ensures

pub returns-in-Some-clause-changed : goal.returns-in-Some-clause-changed
returns-in-Some-clause-changed c =
    let f = c.self.inside in
    let place = ap (λ v. position (is_flow c.args.place.flow) v.flows) c.self.view_is ∙ sym c.requires.place ∙ c.in-Some.is in
    let read = read_there f.rows.items c.args.place.flow c.in-Some.at c.index_mut-row.result.now place c.index_mut-row.ensures.value in
    ap (λ flows. record {
      me = f.me;
      bound = f.bound;
      flows =
          flows;
    }) (flows_changed f.rows.items c.args.place.flow c.in-Some.at c.index_mut-row.result.now c.change.new.self c.args.change place read c.change.ensures)
    ∙ ap (λ v. put_in v c.args.place.flow (changed c.args.change (flow_in v.flows c.args.place.flow))) c.self.view_is

pub returns-in-Some-clause-place : goal.returns-in-Some-clause-place
returns-in-Some-clause-place c =
    let f = c.self.inside in
    let place = ap (λ v. position (is_flow c.args.place.flow) v.flows) c.self.view_is ∙ sym c.requires.place ∙ c.in-Some.is in
    c.requires.place ∙ ap (λ v. position (is_flow c.args.place.flow) v.flows) (sym c.self.view_is)
    ∙ sym (place_changed f.rows.items c.args.place.flow c.in-Some.at c.index_mut-row.result.now c.change.new.self c.args.change place
    c.index_mut-row.ensures.value c.change.ensures)

pub returns-in_default-clause-changed : goal.returns-in_default-clause-changed
returns-in_default-clause-changed c = put_in_none c.args.self.now c.args.place.flow (changed c.args.change (flow_in c.args.self.now.flows c.args.place.flow))
    (sym c.requires.place ∙ c.in_default.is)
