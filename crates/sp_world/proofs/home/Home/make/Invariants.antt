use Rattle.std.proofs.Common.{◌≡◌, map}
use Rattle.std.specs.List.{range_with_len}
use Rattle.sp_runs.specs.Scenarios.{node_key}
use Rattle.sp_world.specs.Boots.{seed_key}
use Rattle.sp_world.proofs.home.Home.make.Given as goal

abbrev pub invariant-nodes : goal.invariant-nodes
invariant-nodes l =
    (l.seeds.items ≡ map (seed_key l.scenario) (range_with_len 1 l.before))
    × (l.keys.items ≡ map (node_key l.scenario.height l.scenario.seed) (range_with_len 1 l.before))
