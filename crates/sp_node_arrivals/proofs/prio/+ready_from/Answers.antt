use Rattle.std.proofs.Common.{ℕ, length, length-drop, ap, sym, ◌∙◌, arith}
use Rattle.std.specs.Option.{option_copied}
use Rattle.sp_base.proofs.FewLemmas.{at_place, drop_past}
use Rattle.sp_frame.specs.OfFormat.{IsOf}
use Rattle.sp_frame.specs.declared.object.ObjectRef.{ObjectRef}
use Rattle.sp_node_arrivals.specs.Arrival.{as_arrival}
use Rattle.sp_node_arrivals.proofs.WorkLemmas.{prios_from}
use Rattle.sp_node_arrivals.proofs.prio.+ready_from.Goals as goal

pub returns-in_default-clause-ready : goal.returns-in_default-clause-ready
returns-in_default-clause-ready t c =
    let none = sym c.get.ensures.value ∙ ap option_copied c.in_default.is in
    rw (drop_past c.args.prios.now c.args.place none) c.new.ensures

pub returns-in_default-clause-many : goal.returns-in_default-clause-many
returns-in_default-clause-many t c =
    let none = sym c.get.ensures.value ∙ ap option_copied c.in_default.is in
    ap length c.new.ensures ∙ sym (ap length (drop_past c.args.prios.now c.args.place none)) ∙ length-drop c.args.place c.args.prios.now

pub ready_one-requires-clause-format : goal.ready_one-requires-clause-format
ready_one-requires-clause-format t c =
    at_place (λ (p : ℕ × ObjectRef). IsOf c.args.at.now.fixed.now.topology.format p.1) c.args.prios.now c.args.place c.in-Some.field-0.now c.requires.formats
    (sym c.get.ensures.value ∙ ap option_copied c.in-Some.is)

pub returns-in_err-first-clause-work : goal.returns-in_err-first-clause-work
returns-in_err-first-clause-work t c =
    let at = sym c.get.ensures.value ∙ ap option_copied c.in-Some.is in
    omega (
      arith,
      prios_from (as_arrival c.args.at.now) c.args.parts.now.lives c.args.parts.now.prio c.args.prios.now c.args.place c.in-Some.field-0.now at,
      c.ready_one.ensures.work,
    )

pub returns-in_err-others-clause-work : goal.returns-in_err-others-clause-work
returns-in_err-others-clause-work t c =
    let at = sym c.get.ensures.value ∙ ap option_copied c.in-Some.is in
    omega (
      arith,
      prios_from (as_arrival c.args.at.now) c.args.parts.now.lives c.args.parts.now.prio c.args.prios.now c.args.place c.in-Some.field-0.now at,
      c.ready_one.ensures.work,
      c.ready_from.ensures.work,
    )
