use Rattle.std.proofs.Common.{◌≤◌, ◌+◌, ◌∙◌, ℕ, [], ap, sym, subst}
use Rattle.sp_base.specs.declared.limits.TheConstants.{MAX_MESSAGES}
use Rattle.sp_msg.specs.Caused.{Caused}
use Rattle.sp_rules.specs.Parts.{Parts}
use Rattle.sp_node_arrivals.proofs.GreetLemmas.{greeted_ids, greeted_ready, greeted_room}
use Rattle.sp_node_arrivals.proofs.WorkLemmas.{as_pieces}
use Rattle.sp_node_arrivals.specs.Arrival.{as_arrival}
use Rattle.sp_node_arrivals.specs.Prio.{HasIds}
use Rattle.sp_node_arrivals.specs.Ready.{IsReady}
use Rattle.sp_node_arrivals.specs.Rooms.{frame_room}
use Rattle.sp_node_arrivals.proofs.arriving.arrive.Goals as goal

pub taken-requires-clause-ready : goal.taken-requires-clause-ready
taken-requires-clause-ready c =
    let at = c.args.at.now in
    subst (λ (p : Parts). IsReady (as_arrival at) p c.args.sections.now c.in_ok-ready.ready) (sym c.greet.ensures)
    (greeted_ready at.fixed.now.epochs at.risen at.from (as_arrival at) c.args.parts.now c.args.sections.now c.in_ok-ready.ready c.in_ok-ready.ensures.ready)

pub taken-requires-clause-ids : goal.taken-requires-clause-ids
taken-requires-clause-ids c =
    let at = c.args.at.now in
    subst (λ (p : Parts). HasIds MAX_MESSAGES p.prio) (sym c.greet.ensures)
    (greeted_ids MAX_MESSAGES at.fixed.now.epochs at.risen at.from c.args.parts.now c.requires.ids)

pub taken-requires-clause-effects : goal.taken-requires-clause-effects
taken-requires-clause-effects c =
    let at = c.args.at.now in
    let room = ap (λ (p : Parts). frame_room (as_arrival at) p c.args.sections.now) c.greet.ensures
    ∙ greeted_room at.fixed.now.epochs at.risen at.from (as_arrival at) c.args.parts.now c.args.sections.now in
    c.in_ok-room.ensures.effects ∙ ap (λ (n : ℕ). let e : Caused = record { list = []; room = n } in e) (sym room)

pub returns-in_err-ready-clause-work : goal.returns-in_err-ready-clause-work
returns-in_err-ready-clause-work c =
    subst (λ (n : ℕ). c.make_ready.new.checker.checks ≤ c.args.checker.now.checks + n)
    (as_pieces (as_arrival c.args.at.now) c.args.parts.now c.args.sections.now) c.make_ready.ensures.work

pub returns-clause-work : goal.returns-clause-work
returns-clause-work c =
    subst (λ (n : ℕ). c.make_ready.new.checker.checks ≤ c.args.checker.now.checks + n)
    (as_pieces (as_arrival c.args.at.now) c.args.parts.now c.args.sections.now) c.make_ready.ensures.work
