use Rattle.std.proofs.Common.{◌≡◌, ◌++◌, map, take, drop}
use Rattle.sp_rules.specs.Rel.{views_less}
use Rattle.sp_rel.proofs.peers.restart_peers.Given as goal

abbrev pub invariant-rows : goal.invariant-rows
invariant-rows l = l.rows ≡ map (views_less l.node) (take l.row-index l.fn.rows) ++ drop l.row-index l.fn.rows
