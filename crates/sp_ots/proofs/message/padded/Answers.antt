use Rattle.std.proofs.Common.{◌++◌, sym, ap, ◌∙◌}
use Rattle.sp_ots.specs.Blocks.{block_digest}
use Rattle.sp_ots.proofs.Padding.{padding_behind, sha256_of_55}
use Rattle.sp_ots.proofs.message.padded.Goals as goal

pub returns : goal.returns
returns c =
    let message = c.args.message.now in
    let behind = padding_behind c.copy_from_slice.new.self c.copy_from_slice-2.new.self c.copy_from_slice.ensures.len in
    let parts = behind ∙ (λ i. c.copy_from_slice.ensures.after i ++ c.copy_from_slice-2.ensures.after i) in
    ap block_digest parts ∙ sym (sha256_of_55 message c.told-message)
