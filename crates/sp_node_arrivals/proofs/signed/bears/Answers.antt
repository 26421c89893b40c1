use Rattle.std.proofs.Common.{◌≡◌, false, true, refl}
use Rattle.sp_base.proofs.NumberLemmas.{AreBytes-from_places}
use Rattle.sp_msg.specs.Views.{as_body, signer_of}
use Rattle.sp_topology.specs.Keys.{key_of}
use Rattle.sp_node_arrivals.proofs.SignedLemmas.{is_signed, isnt_signed}
use Rattle.sp_node_arrivals.proofs.signed.bears.Goals as goal

pub returns-in_default-clause-right : goal.returns-in_default-clause-right
returns-in_default-clause-right c =
    isnt_signed c.args._format (key_of (signer_of (as_body c.args.body.now)).0 c.args.checker.now.nodes) c.args.bytes.now c.args.signature.now
    (as_body c.args.body.now)
    (AreBytes-from_places c.args.bytes.now (λ i. (c.type_inv.bytes i).fits)) c.requires (λ is. let no : false ≡ true = c.in_default.ensures.ok.1 is in cc)

pub returns-clause-right : goal.returns-clause-right
returns-clause-right c =
    is_signed c.args._format (key_of (signer_of (as_body c.args.body.now)).0 c.args.checker.now.nodes) c.args.bytes.now c.args.signature.now
    (as_body c.args.body.now)
    (AreBytes-from_places c.args.bytes.now (λ i. (c.type_inv.bytes i).fits)) c.requires (c.in-Ok.ensures.ok.0 refl)
