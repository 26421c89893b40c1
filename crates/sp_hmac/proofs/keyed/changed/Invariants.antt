use Rattle.std.proofs.Common.{◌≡◌, ◌++◌, take, drop}
use Rattle.sp_hmac.specs.Hmac.{changed}
use Rattle.sp_hmac.proofs.keyed.changed.Given as goal

abbrev pub invariant-bytes : goal.invariant-bytes
invariant-bytes l = l.byte-items ≡ changed l.pad (take l.byte-index l.block) ++ drop l.byte-index l.block
