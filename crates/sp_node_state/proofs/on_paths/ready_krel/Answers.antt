use Rattle.std.proofs.Common.{◌≡◌, ◌∙◌, sym, subst, arith}
use Rattle.sp_msg.specs.Bodies.{HasGoodFieldsIn}
use Rattle.sp_msg.specs.declared.body.Body.{Body}
use Rattle.sp_rel.specs.Seated.{IsSeated}
use Rattle.sp_rules.specs.Flow.{flow_said}
use Rattle.sp_rules.specs.Kflow.{IsNextOwn}
use Rattle.sp_rules.specs.KflowSends.{krel_body}
use Rattle.sp_rules.specs.Messages.{as_ksend}
use Rattle.sp_node_state.proofs.PathsSent.{krel_fields, krel_next, krel_signed}
use Rattle.sp_node_state.proofs.on_paths.ready_krel.Goals as goal

pub blank-requires-clause-fields : goal.blank-requires-clause-fields
blank-requires-clause-fields c =
    subst (HasGoodFieldsIn c.args.state.now.fixed.topology.format) (sym c.in_ok-body.ensures)
    (krel_fields c.args.state.now (as_ksend c.args.message.now) c.args.mask (omega arith) c.requires.short c.requires.free c.requires.mask c.requires.kept)

pub blank-requires-clause-free : goal.blank-requires-clause-free
blank-requires-clause-free c = krel_signed c.args.state.now (as_ksend c.args.message.now) c.requires.free

pub returns-clause-ready : goal.returns-clause-ready
returns-clause-ready c =
    let n = c.args.state.now in
    let m = as_ksend c.args.message.now in
    let body : c.in_ok-blank.blank.kept.body ≡ krel_body n m c.args.mask = c.in_ok-blank.ensures.body ∙ c.in_ok-body.ensures in
    record {
      blank = c.in_ok-blank.ensures.ready;
      next = subst (IsNextOwn n.parts.kflow m.paths) (sym body) (krel_next n m c.args.mask c.requires.free c.requires.mask c.requires.kept);
      seat = subst (λ (b : Body). IsSeated n.parts.kflow.flows (flow_said b) c.in_ok-seat.seat) (sym body) c.in_ok-seat.ensures;
      room = c.in-Ok.ensures.empty;
    }
