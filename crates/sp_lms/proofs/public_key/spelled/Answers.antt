use Rattle.std.proofs.Common.{ℕ, ◌+◌, ◌∙◌, length, replicate, ap, refl, arith}
use Rattle.std.specs.Int.{w32, to_be_bytes}
use Rattle.sp_ots.specs.Strings.{u32str}
use Rattle.sp_lms.proofs.Written.{four_written}
use Rattle.sp_lms.proofs.public_key.spelled.Goals as goal

pub returns : goal.returns
unfolding u32str
returns c =
    let tree = c.copy_from_slice.ensures.after ∙ c.to_be_bytes.ensures ∙ ap (λ (n : ℕ). to_be_bytes w32 n) c.typecode.ensures in
    let one_time = c.copy_from_slice-2.ensures.after ∙ c.to_be_bytes-2.ensures ∙ ap (λ (n : ℕ). to_be_bytes w32 n) c.typecode-2.ensures in
    let id = c.copy_from_slice-3.ensures.after in
    let root = c.copy_from_slice-4.ensures.after in
    four_written c.copy_from_slice.new.self c.copy_from_slice-2.new.self c.copy_from_slice-3.new.self c.copy_from_slice-4.new.self (replicate 56 0)
    4 8 24 4 16 32 (ap length tree) (ap (λ (n : ℕ). 4 + n) (ap length one_time)) (ap (λ (n : ℕ). 8 + n) (ap length id ∙ c.told-id)) (omega arith)
    ∙ rw (tree, one_time, id, root) refl
