use Rattle.std.proofs.Common.{◌≡◌, ◌++◌, map, take, drop}
use Rattle.sp_rules.specs.Rel.{no_view, viewed}
use Rattle.sp_rel.proofs.peers.clear_views.Given as goal

abbrev pub invariant-views : goal.invariant-views
invariant-views l = l.views ≡ map (λ w. no_view (viewed w)) (take l.view-index l.fn.views) ++ drop l.view-index l.fn.views
