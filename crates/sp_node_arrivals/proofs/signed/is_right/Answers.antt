use Rattle.std.proofs.Common.{◌∙◌}
use Rattle.sp_frame.specs.Views.{as_object}
use Rattle.sp_node_arrivals.proofs.SignedLemmas.{right_of}
use Rattle.sp_node_arrivals.proofs.signed.is_right.Goals as goal

pub returns-clause-right : goal.returns-clause-right
returns-clause-right c =
    c.bears.ensures.right
    ∙ right_of c.args._at.now.fixed.now c.args.object.now.format c.args.checker.now.nodes (as_object c.args.object.now) c.requires.format c.requires.keys
