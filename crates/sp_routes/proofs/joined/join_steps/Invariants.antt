use Rattle.std.proofs.Common.{◌≡◌, length}
use Rattle.sp_graph.specs.Masks.{is_walked}
use Rattle.sp_routes.proofs.JoinedLemmas.{AddsAll}
use Rattle.sp_routes.specs.declared.joined.TheConstants.{FLAGS}
use Rattle.sp_routes.proofs.joined.join_steps.Given as goal

abbrev pub invariant-steps : goal.invariant-steps
invariant-steps l = record {
  long : length l.flags ≡ FLAGS;
  so_far : AddsAll l.fn.flags l.flags (λ e. is_walked e l.rest) (λ e. is_walked e l.path);
}

abbrev pub decreases-steps : goal.decreases-steps
decreases-steps l = length l.rest
