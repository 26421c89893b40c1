use Rattle.std.proofs.Common.{◌≡◌, List, Some, map, slice_index_or, refl, sym, ap, ◌∙◌}
use Rattle.sp_base.specs.declared.id.NodeId.{NodeId}
use Rattle.sp_hss.specs.Validity.{IsValid}
use Rattle.sp_msg.specs.Views.{as_body, signer_of}
use Rattle.sp_topology.specs.Keys.{key_of}
use Rattle.sp_sign.specs.Checker.{Checking, as_key}
use Rattle.sp_sign.specs.declared.checker.NodeVerifier.{NodeVerifier}
use Rattle.sp_sign.proofs.checker.Checker.check.Goals as goal

pub returns-clause-ok : goal.returns-clause-ok
returns-clause-ok c =
    let key = c.index_mut.result.now in
    let valid : IsValid key.key c.args.bytes.now c.args.signature.now = c.if-not-is_valid.ensures.answer.0 refl in
    let at : key ≡ slice_index_or c.deref.result.now c.in-Some.place key =
    c.index_mut.ensures.value ∙ ap (λ (ns : List NodeVerifier). slice_index_or ns c.in-Some.place key) (sym c.deref.ensures.value) in
    let known : key_of (signer_of (as_body c.args.body.now)).0 c.args.self.now.nodes ≡ Some key.key =
    ap (λ (id : NodeId). key_of id.0 c.args.self.now.nodes) (sym c.signer.ensures)
    ∙ ap (λ (checking : Checking). key_of c.signer.result.0 checking.nodes) (sym c.self.view_is)
    ∙ ap (λ (ns : List NodeVerifier). key_of c.signer.result.0 (map as_key ns)) (sym c.deref.ensures.value) ∙ c.in-Some.ensures.some.key key
    ∙ sym (ap (λ (n : NodeVerifier). Some n.key) at) in
    rw known (λ _. valid, λ _. refl)
