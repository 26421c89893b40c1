use Rattle.sp_lms.proofs.Candidates.{valid_by_key}
use Rattle.sp_lms.proofs.public_key.PublicKey.verify.Goals as goal

pub returns-in-Ok : goal.returns-in-Ok
returns-in-Ok c =
    let k = c.args.self.now in
    let leaf = c.in-Some.ensures.some in
    let by_key =
    valid_by_key k.lms k.ots k.id k.root c.args.msg.now c.args.sig.now c.in-Some.leaf c.in-Ok.key leaf.1 leaf.0
    (rw c.one_time_of.ensures at c.in-Ok.ensures.key) in
    (λ right. by_key.0 (c.is_above.ensures.0 right), λ valid. c.is_above.ensures.1 (by_key.1 valid))
