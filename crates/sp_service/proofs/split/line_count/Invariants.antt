use Rattle.std.proofs.Common.{◌≡◌, ◌≤◌, ◌+◌, drop}
use Rattle.sp_service.specs.Splits.{line_count}
use Rattle.sp_service.proofs.split.line_count.Given as goal

abbrev pub invariant-bytes : goal.invariant-bytes
invariant-bytes l = record {
  rest : l.count + line_count (drop l.place l.text) ≡ line_count l.text;
  few : l.count ≤ l.place;
}
