use Rattle.std.proofs.Common.{◌∙◌, sym, subst, ap, arith, cond}
use Rattle.sp_base.specs.Spelling.{AreBytes}
use Rattle.laws_node.specs.Nodes.{IsKept, SignerHolds}
use Rattle.sp_node_format.specs.Format.{format_of}
use Rattle.sp_rules.specs.Node.{NodeState, announced}
use Rattle.sp_node_state.proofs.Started.{booted_kept, started_kept}
use Rattle.sp_node_state.proofs.state.State.start.Goals as goal

pub begin-requires-clause-kept : goal.begin-requires-clause-kept
begin-requires-clause-kept c =
    let is = c.in_ok-state.ensures.state in
    subst (λ (n : NodeState). IsKept (format_of n.fixed) n) (sym is)
    (booted_kept c.args.config c.args.signer c.args.boot (omega arith) (subst (λ (n : NodeState). AreBytes n.live.document) is c.in_ok-state.ensures.document)
    c.requires
    (subst (λ (n : NodeState). SignerHolds n.signer) is c.in_ok-state.ensures.signer))

pub returns-in-Ok-clause-signer : goal.returns-in-Ok-clause-signer
returns-in-Ok-clause-signer c =
    let is = c.in_ok-state.ensures.state in
    let begun = c.in-Ok.ensures.state ∙ ap (λ (n : NodeState). cond n.fixed.epochs (announced (format_of n.fixed) n) n) is in
    subst (λ (n : NodeState). SignerHolds n.signer) (sym begun)
    (started_kept c.args.config c.args.signer c.args.boot (omega arith) (subst (λ (n : NodeState). AreBytes n.live.document) is c.in_ok-state.ensures.document)
    c.requires (subst (λ (n : NodeState). SignerHolds n.signer) is c.in_ok-state.ensures.signer)).signer

pub returns-in-Ok-clause-document : goal.returns-in-Ok-clause-document
returns-in-Ok-clause-document c =
    let is = c.in_ok-state.ensures.state in
    let begun = c.in-Ok.ensures.state ∙ ap (λ (n : NodeState). cond n.fixed.epochs (announced (format_of n.fixed) n) n) is in
    subst (λ (n : NodeState). AreBytes n.live.document) (sym begun)
    (started_kept c.args.config c.args.signer c.args.boot (omega arith) (subst (λ (n : NodeState). AreBytes n.live.document) is c.in_ok-state.ensures.document)
    c.requires (subst (λ (n : NodeState). SignerHolds n.signer) is c.in_ok-state.ensures.signer)).live.document.0
