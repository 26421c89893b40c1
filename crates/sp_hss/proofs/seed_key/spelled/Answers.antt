use Rattle.std.proofs.Common.{◌≡◌, ◌∙◌, length, replicate, ap, refl, arith}
use Rattle.sp_ots.specs.Strings.{u32str}
use Rattle.sp_ots.proofs.Written.{last_written}
use Rattle.sp_hss.proofs.seed_key.spelled.Goals as goal

pub returns : goal.returns
unfolding u32str
returns c =
    let code = c.copy_from_slice.ensures.after ∙ c.to_be_bytes.ensures in
    let first : length c.copy_from_slice.new.self ≡ 4 = ap length code in
    last_written c.copy_from_slice.new.self c.copy_from_slice-2.new.self (replicate 56 0) 4 56 first (omega arith)
    ∙ rw (code, c.copy_from_slice-2.ensures.after) refl
