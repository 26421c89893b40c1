use Rattle.std.proofs.Common.{ℕ, ◌<◌, ◌≤◌, slice_index}
use Rattle.sp_ots.proofs.chains.greatest.Given as goal

abbrev pub invariant-numbers : goal.invariant-numbers
invariant-numbers l = (i : ℕ) → i < l.number-index → slice_index l.numbers i ≤ l.most
