use Rattle.std.proofs.Common.{◌≡◌, ◌==◌, true, sym, arith, append-nil}
use Rattle.std.proofs.lemmas.Bool.Decides.{nat_tests}
use Rattle.sp_base.specs.declared.format.TheConstants.{FORMAT_1}
use Rattle.sp_frame.proofs.LengthLemmas.{no_epoch_is}
use Rattle.sp_frame.proofs.writing.push_epoch.Goals as goal

pub returns-else-format-ne-FORMAT_1-clause-bytes : goal.returns-else-format-ne-FORMAT_1-clause-bytes
returns-else-format-ne-FORMAT_1-clause-bytes c =
    let is : (c.args.format == FORMAT_1) ≡ true = grind (arith, nat_tests) in
    rw (no_epoch_is c.args.format _ is) (sym (append-nil c.args.out.now.items))
