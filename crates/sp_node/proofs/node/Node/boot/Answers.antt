use Rattle.std.proofs.Common.{sym, subst, ap, arith}
use Rattle.laws_node.specs.Nodes.{IsKept, SignerHolds}
use Rattle.laws_node.specs.Withdrawals.{Obeys}
use Rattle.sp_base.specs.Spelling.{AreBytes}
use Rattle.sp_node_format.specs.Format.{format_of}
use Rattle.sp_rules.specs.Node.{NodeState}
use Rattle.sp_sign.specs.Checker.{Checking}
use Rattle.sp_node.proofs.Starts.{kept_at_start, obeys_at_start}
use Rattle.sp_node.proofs.node.Node.boot.Goals as goal

pub invariant_of-node : goal.invariant_of-node
invariant_of-node c =
    let is = c.in_ok-state.ensures.state in
    record {
      kept = subst (λ (n : NodeState). IsKept (format_of n.fixed) n) (sym is)
          (kept_at_start c.args.config c.args.signer c.args.boot (omega arith)
          (subst (λ (n : NodeState). AreBytes n.live.document) is c.in_ok-state.ensures.document) c.requires
          (subst (λ (n : NodeState). SignerHolds n.signer) is c.in_ok-state.ensures.signer));
      obeys = subst Obeys (sym is) (obeys_at_start c.args.config c.args.signer c.args.boot);
      known = ap (λ (k : Checking). k.nodes) c.in-Ok.ensures.checker;
    }
