use Rattle.std.proofs.Common.{ℕ, List, ◌++◌, ◌∙◌, ap}
use Rattle.std.specs.Int.{w16, to_be_bytes}
use Rattle.sp_ots.specs.Strings.{u16str}
use Rattle.sp_ots.proofs.Messages.{checksum_behind}
use Rattle.sp_ots.proofs.digits.with_checksum.Goals as goal

pub returns : goal.returns
unfolding u16str
returns c =
    checksum_behind c.copy_from_slice.new.self c.copy_from_slice-2.new.self c.copy_from_slice.ensures.len
    ∙ ap (λ (hash : List ℕ). hash ++ c.copy_from_slice-2.new.self) c.copy_from_slice.ensures.after
    ∙ ap (λ (check : List ℕ). c.args.hash.now ++ check)
    (c.copy_from_slice-2.ensures.after ∙ c.to_be_bytes.ensures ∙ ap (λ (n : ℕ). to_be_bytes w16 n) c.checksum.ensures)
