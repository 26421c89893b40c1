use Rattle.std.proofs.Common.{◌≡◌, ◌<◌, ◌≤◌, ◌+◌, ◌-◌, length}
use Rattle.std.specs.Io.KnownBytes.{Consumes}
use Rattle.sp_outside.proofs.streams.read_up_to.Given as goal

abbrev pub invariant-pieces : goal.invariant-pieces
invariant-pieces g l = record {
  within : length l.bytes.items ≤ l.most + 1;
  room : 0 < length l.buffer.items;
  given : Consumes (g.S.Source.left l.fn.source) (g.S.Source.left l.source) l.bytes.items;
  same : g.S.Source.faults l.source ≡ g.S.Source.faults l.fn.source;
  later : g.S.Source.faults l.fn.source ≤ g.S.Source.faults l.source;
}

abbrev pub decreases-pieces : goal.decreases-pieces
decreases-pieces g l = l.most + 1 - length l.bytes.items
