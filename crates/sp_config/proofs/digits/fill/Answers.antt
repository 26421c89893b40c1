use Rattle.std.proofs.Common.{◌≡◌, Ok, Err, length}
use Rattle.sp_config.proofs.DigitLemmas.{filled}
use Rattle.sp_config.proofs.digits.fill.Goals as goal

pub returns : goal.returns
returns c =
    (filled c.args.text.now (length c.args.bytes.now) (λ bytes. (c.decode_to_slice.result ≡ Ok tt) × (c.decode_to_slice.new.out ≡ bytes))
    (λ e. c.decode_to_slice.result ≡ Err e) c.requires c.decode_to_slice.ensures.value).1
