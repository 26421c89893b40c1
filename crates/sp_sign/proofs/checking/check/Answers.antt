use Rattle.std.proofs.Common.{◌≡◌, Some, refl, sym, ap, ◌∙◌}
use Rattle.sp_base.specs.declared.id.NodeId.{NodeId}
use Rattle.sp_hss.specs.Validity.{IsValid}
use Rattle.sp_msg.specs.Views.{as_body, signer_of}
use Rattle.sp_topology.specs.Keys.{key_of}
use Rattle.sp_sign.proofs.checking.check.Goals as goal

pub returns-then-verify-clause-ok : goal.returns-then-verify-clause-ok
returns-then-verify-clause-ok c =
    let nodes = c.args.topology.now.nodes in
    let valid : IsValid c.in-Some.key.now c.args.bytes.now c.args.signature.now = rw c.as_slice.ensures at (c.verify.ensures.0 c.if-verify.true) in
    let known : key_of (signer_of (as_body c.args.body.now)).0 nodes ≡ Some c.in-Some.key.now =
    ap (λ (id : NodeId). key_of id.0 nodes) (sym c.signer.ensures) ∙ sym c.in-Some.ensures in
    rw known (λ _. valid, λ _. refl)
