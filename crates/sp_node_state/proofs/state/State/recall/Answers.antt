use Rattle.std.proofs.Common.{subst}
use Rattle.laws_node.specs.Inputs.{ArtsFit}
use Rattle.sp_node_format.specs.Format.{format_of}
use Rattle.sp_rules.specs.Node.{NodeState}
use Rattle.sp_node_state.proofs.Fitted.{fitted}
use Rattle.sp_node_state.proofs.state.State.recall.Goals as goal

pub returns : goal.returns
returns c =
    subst (λ (n : NodeState). ArtsFit (format_of n.fixed) n.fixed n.signer) c.self.view_is
    (fitted c.self.inside.fixed c.self.inside.signer c.self.invariant)
