use Rattle.std.proofs.Common.{◌≡◌, None}
use Rattle.sp_service_ask.specs.Listening.{Listened}
use Rattle.sp_service_ask.proofs.listen.listen.Given as goal

abbrev pub invariant-turns : goal.invariant-turns
invariant-turns g l = record {
  listened : Listened l.port l.front l._made (g.W.Wire.told l.fn.wire) (g.W.Wire.told l.wire) None;
  opens : g.W.Wire.failed_opens l.wire ≡ g.W.Wire.failed_opens l.fn.wire;
}
