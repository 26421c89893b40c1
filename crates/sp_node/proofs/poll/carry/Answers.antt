use Rattle.std.proofs.Common.{◌≤◌, ◌+◌, ◌^◌, sym, subst}
use Rattle.sp_base.specs.declared.limits.TheConstants.{MAX_MESSAGES}
use Rattle.sp_rules.specs.Node.{NodeState}
use Rattle.sp_rules.specs.Prio.{peer_in}
use Rattle.sp_node.proofs.Kept.{number_low}
use Rattle.sp_node.proofs.poll.carry.Goals as goal

pub moved-requires : goal.moved-requires
moved-requires c =
    subst (λ (n : NodeState). (peer_in n.parts.prio c.args.v.0).number + MAX_MESSAGES ≤ 2 ^ 63) (sym c.state.view_is)
    (number_low c.args.state.now c.args.v c.requires)
