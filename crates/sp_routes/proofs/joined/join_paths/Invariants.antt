use Rattle.std.proofs.Common.{◌≡◌, Some, drop, length}
use Rattle.sp_rules.specs.Masks.{is_used}
use Rattle.sp_routes.proofs.JoinedLemmas.{AddsAll}
use Rattle.sp_routes.specs.declared.joined.TheConstants.{FLAGS}
use Rattle.sp_routes.proofs.joined.join_paths.Given as goal

abbrev pub invariant-paths : goal.invariant-paths
invariant-paths l = record {
  long : length l.flags ≡ FLAGS;
  so_far : AddsAll l.fn.flags l.flags (λ e. is_used (drop l.path-index l.paths) (Some e)) (λ e. is_used l.paths (Some e));
}
