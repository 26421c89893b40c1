use Rattle.std.proofs.Common.{◌≡◌, ◌<◌, ℕ, length}
use Rattle.std.specs.Prelude.{slice_index_or}
use Rattle.sp_weights.specs.Sound.{effective_by}
use Rattle.sp_weights.proofs.weights.weigh_anew.Given as goal

abbrev pub invariant-edges : goal.invariant-edges
invariant-edges l = record {
  enough : length l.in_effect.items ≡ length l.least;
  so_far : (edge : ℕ) → edge < l.place → slice_index_or l.in_effect.items edge 0 ≡ effective_by l.least l.rows edge;
}
