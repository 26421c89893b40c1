use Rattle.std.proofs.Common.{◌≡◌, ◌∙◌, refl}
use Rattle.sp_ots.specs.Signature.{signature}
use Rattle.sp_ots.proofs.Validity.{signature-valid}
use Rattle.sp_ots.proofs.signing.sign.Goals as goal

pub returns-clause-valid : goal.returns-clause-valid
unfolding signature
returns-clause-valid c =
    let id = c.args.id.now in
    let q = c.args.q in
    let seed = c.args.seed.now in
    let written : c.join.new.out ≡ signature c.args.param id q seed c.args.msg.now =
    c.join.ensures ∙ rw (c.signed_elements.ensures, c.message_hash-hash.ensures, c.randomizer-randomizer.ensures) refl in
    rw written (signature-valid c.args.param id q seed c.args.msg.now)
