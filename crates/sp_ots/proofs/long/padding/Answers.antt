use Rattle.std.proofs.Common.{ap, ◌∙◌, arith}
use Rattle.std.specs.Int.{w64, to_be_bytes}
use Rattle.sp_ots.proofs.Padding.{padding_laid}
use Rattle.sp_ots.proofs.long.padding.Goals as goal

pub returns : goal.returns
returns c = padding_laid c.args.len c.padding_len-end.result c.copy_from_slice.new.self c.padding_len-end.ensures
    (c.copy_from_slice.ensures.after ∙ c.to_be_bytes.ensures ∙ ap (to_be_bytes w64) (omega (arith, c.requires)))
