use Rattle.std.proofs.Common.{◌∙◌, ap, sym}
use Rattle.std.specs.List.{position, slice_get}
use Rattle.sp_base.proofs.RowLemmas.{first_where-no_position}
use Rattle.sp_rules.specs.Flow.{after_take, is_flow, no_flow}
use Rattle.sp_rules.specs.Rel.{flow_in}
use Rattle.sp_rel.specs.Tables.{put_in}
use Rattle.sp_rel.proofs.FlowLemmas.{put_in_none, read_there}
use Rattle.sp_rel.proofs.SoundLemmas.{flows_taken, row_at, sound_taken}
use Rattle.sp_rel.proofs.flows.Flows.take.Goals as goal

pub invariant_of-self : goal.invariant_of-self
invariant_of-self c =
    let f = c.self.inside in
    let at = row_at f.me f.bound f.rows.items f.active.items f.due.items c.args.place.flow c.in-Some.at c.index_mut-row.result.now c.self.invariant
    (ap (λ v. position (is_flow c.args.place.flow) v.flows) c.self.view_is ∙ sym c.requires.place ∙ c.in-Some.is) c.index_mut-row.ensures.value in
    sound_taken f.me f.bound f.rows.items f.active.items f.due.items c.args.place.flow c.in-Some.at c.index_mut-row.result.now c.take.new.self c.self.invariant
    at
    c.index_mut-row.ensures.value c.take.ensures.rest

pub returns-in-Some-clause-taken : goal.returns-in-Some-clause-taken
returns-in-Some-clause-taken c =
    let f = c.self.inside in
    let place = ap (λ v. position (is_flow c.args.place.flow) v.flows) c.self.view_is ∙ sym c.requires.place ∙ c.in-Some.is in
    let read = read_there f.rows.items c.args.place.flow c.in-Some.at c.index_mut-row.result.now place c.index_mut-row.ensures.value in
    c.take.ensures.taken ∙ ap (λ g. slice_get g.inbox 0) (sym read ∙ ap (λ v. flow_in v.flows c.args.place.flow) c.self.view_is)

pub returns-in-Some-clause-rest : goal.returns-in-Some-clause-rest
returns-in-Some-clause-rest c =
    let f = c.self.inside in
    let place = ap (λ v. position (is_flow c.args.place.flow) v.flows) c.self.view_is ∙ sym c.requires.place ∙ c.in-Some.is in
    let read = read_there f.rows.items c.args.place.flow c.in-Some.at c.index_mut-row.result.now place c.index_mut-row.ensures.value in
    ap (λ flows. record {
      me = f.me;
      bound = f.bound;
      flows =
          flows;
    }) (flows_taken f.rows.items c.args.place.flow c.in-Some.at c.index_mut-row.result.now c.take.new.self place read c.take.ensures.rest)
    ∙ ap (λ v. put_in v c.args.place.flow (after_take (flow_in v.flows c.args.place.flow))) c.self.view_is

pub returns-in-None-clause-taken : goal.returns-in-None-clause-taken
returns-in-None-clause-taken c = ap (λ g. slice_get g.inbox 0) (sym (first_where-no_position (is_flow c.args.place.flow)
    (no_flow c.args.place.flow) c.args.self.now.flows (sym c.requires.place ∙ c.in-None.is)))

pub returns-in-None-clause-rest : goal.returns-in-None-clause-rest
returns-in-None-clause-rest c = put_in_none c.args.self.now c.args.place.flow (after_take (flow_in c.args.self.now.flows c.args.place.flow))
    (sym c.requires.place ∙ c.in-None.is)
