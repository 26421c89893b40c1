use Rattle.std.proofs.Common.{◌≡◌, replicate, None}
use Rattle.sp_weights.proofs.weights.empty_rows.Given as goal

abbrev pub invariant-rows : goal.invariant-rows
invariant-rows l = l.rows.items ≡ replicate l.counter None
