use Rattle.std.proofs.Common.{sym, subst}
use Rattle.sp_msg.specs.Bodies.{HasGoodFieldsIn}
use Rattle.sp_node_state.proofs.Sent.{rel_sent, signer_free}
use Rattle.sp_node_state.proofs.reliable.ready_rel.Goals as goal

pub blank-requires-clause-fields : goal.blank-requires-clause-fields
blank-requires-clause-fields c =
    subst (HasGoodFieldsIn c.args.state.now.fixed.topology.format) (sym c.in_ok-body.ensures)
    (rel_sent c.args.state.now c.args.dst c.args.payload.now c.requires.short c.requires.free c.requires.kept).fields

pub blank-requires-clause-free : goal.blank-requires-clause-free
blank-requires-clause-free c = signer_free c.args.state.now c.args.dst c.requires.free
