use Rattle.std.proofs.Common.{◌≡◌, map}
use Rattle.std.specs.List.{range_with_len}
use Rattle.sp_runs.specs.Scenarios.{numbered}
use Rattle.sp_world.specs.Boots.{first_of}
use Rattle.sp_world.proofs.home.Home.first_nodes.Given as goal

abbrev pub invariant-each : goal.invariant-each
invariant-each l = l.nodes.items ≡ first_of l.scenario (map numbered (range_with_len 1 l.before))
