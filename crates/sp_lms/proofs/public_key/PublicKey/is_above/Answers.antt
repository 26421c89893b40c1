use Rattle.std.proofs.Common.{◌≡◌, ◌∙◌, sym}
use Rattle.sp_lms.specs.Form.{root_above}
use Rattle.sp_lms.proofs.Candidates.{root_found}
use Rattle.sp_lms.proofs.public_key.PublicKey.is_above.Goals as goal

pub returns : goal.returns
returns c =
    let k = c.args.self.now in
    let found : c.ancestor.result ≡ root_above k.lms k.ots k.id c.args.key.now c.args.sig.now =
    root_found k.lms k.ots k.id c.args.key.now c.args.sig.now c.args.leaf c.sig_len.result c.leaf_count.result c.as_chunks.result.0.now
    c.leaf_hash.result c.ancestor.result c.requires.form.length_is c.requires.leaf c.sig_len.ensures c.leaf_count.ensures.value
    c.as_chunks.ensures.front c.leaf_hash.ensures c.ancestor.ensures in
    (λ same. c.is_same.ensures.0 same ∙ found, λ right. c.is_same.ensures.1 (right ∙ sym found))
