use Rattle.std.proofs.Common.{◌≤◌, take}
use Rattle.sp_service_turns.specs.Verified.{Agrees}
use Rattle.sp_service_turns.proofs.verified.verify_lines.Given as goal

abbrev pub invariant-lines : goal.invariant-lines
invariant-lines g l = record {
  agrees : Agrees g.N.Core.steps l.fn.node (take l.place l.lines) l.node l.count;
  few : l.count ≤ l.place;
}
