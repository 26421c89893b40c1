use Rattle.std.proofs.Common.{ap}
use Rattle.sp_node_format.specs.Format.{format_of}
use Rattle.sp_sign.specs.declared.blank.Blank.{Blank}
use Rattle.sp_node_state.proofs.Spares.{spare_for_signed}
use Rattle.sp_node_state.proofs.priority.admit_own.Goals as goal

pub place_own-requires-clause-spare : goal.place_own-requires-clause-spare
place_own-requires-clause-spare c =
    let n = c.args.state.now in
    spare_for_signed (format_of n.fixed) n c.args.ready.blank.kept c.sign-kept.result.kept c.args.ready.spare
    c.recall.ensures (ap (λ (b : Blank). b.kept.signature) c.requires.blank.blank_is) c.requires.spare c.sign-kept.ensures.kept
