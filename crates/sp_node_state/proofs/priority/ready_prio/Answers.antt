use Rattle.std.proofs.Common.{sym, subst}
use Rattle.sp_msg.specs.Bodies.{HasGoodFieldsIn}
use Rattle.sp_msg.specs.Masks.{bits}
use Rattle.sp_node_state.proofs.Sent.{prio_sent}
use Rattle.sp_rules.specs.Messages.{as_send}
use Rattle.sp_node_state.proofs.priority.ready_prio.Goals as goal

pub blank-requires-clause-fields : goal.blank-requires-clause-fields
blank-requires-clause-fields c =
    subst (HasGoodFieldsIn c.args.state.now.fixed.topology.format) (sym c.in_ok-body.ensures)
    (prio_sent c.args.state.now (as_send c.args.message.now) (bits c.args.mask) c.requires.fits c.requires.free c.requires.mask c.requires.kept)
