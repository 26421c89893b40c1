use Rattle.std.proofs.Common.{◌≡◌, ◌++◌, map, take, drop}
use Rattle.sp_rules.specs.Rel.{view_less}
use Rattle.sp_rel.proofs.peers.restart_views.Given as goal

abbrev pub invariant-views : goal.invariant-views
invariant-views l = l.views ≡ map (view_less l.node) (take l.view-index l.fn.views) ++ drop l.view-index l.fn.views
