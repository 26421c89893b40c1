use Rattle.std.proofs.Common.{◌≡◌, ◌∙◌, length, sym, ap, arith}
use Rattle.sp_lms.specs.Key.{Key}
use Rattle.sp_lms.specs.Parameters.{leaf_count}
use Rattle.sp_lms.proofs.Validity.{seed_signatures_are_valid}
use Rattle.sp_lms.proofs.key.LmsKey.sign.Goals as goal

pub returns-clause-valid : goal.returns-clause-valid
returns-clause-valid c =
    let k = c.self.inside in
    let key = c.args.self.now in
    let same : leaf_count k.lms ≡ leaf_count key.lms = ap (λ (v : Key). leaf_count v.lms) c.self.view_is in
    let long : length key.id ≡ 16 = sym (ap (λ (v : Key). length v.id) c.self.view_is) ∙ c.self.told.0 in
    rw c.write_signature.ensures (seed_signatures_are_valid key.lms key.ots key.id key.seed c.args.msg.now k.used long
    (omega (arith, same, c.self.invariant.within, c.leaf_count.ensures.value)))
