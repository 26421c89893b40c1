use Rattle.std.proofs.Common.{◌≡◌, ◌+◌, ◌-◌, ◌∙◌, length, ap, refl, arith}
use Rattle.sp_ots.specs.Strings.{u32str}
use Rattle.sp_lms.proofs.Validity.{length-signature}
use Rattle.sp_ots.proofs.Written.{three_written_to_end}
use Rattle.sp_hss.proofs.front.write_front.Goals as goal

pub returns-clause-front : goal.returns-clause-front
unfolding u32str
returns-clause-front c =
    let key = c.args.upper.now in
    let n = c.signature_len-behind.result in
    let code = c.copy_from_slice.ensures.after ∙ c.to_be_bytes.ensures in
    let first : length c.copy_from_slice.new.self ≡ 4 = ap length code in
    let second : 4 + length c.sign_next.new.out ≡ 4 + n =
    omega (
      arith,
      ap length c.sign_next.ensures.signature,
      length-signature key.lms key.ots key.id key.seed key.used c.args.lower_key.now,
      c.signature_len-behind.ensures,
    ) in
    three_written_to_end c.copy_from_slice.new.self c.sign_next.new.out c.copy_from_slice-2.new.self c.args.front.now 4 (4 + n) (4 + n - 4) first second
    ∙ rw (code, c.sign_next.ensures.signature, c.copy_from_slice-2.ensures.after) refl
