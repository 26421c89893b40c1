use Rattle.std.proofs.Common.{◌≡◌, ◌-◌, ◌++◌}
use Rattle.std.specs.List.{flat_map, range_with_len}
use Rattle.sp_generate.specs.Generated.{both_ways}
use Rattle.sp_generate.proofs.happenings.push_both_ways.Given as goal

abbrev pub invariant-turns : goal.invariant-turns
invariant-turns l =
    l.events.items ++ flat_map (both_ways l.number) (range_with_len l.turn (17 - l.turn)) ≡ l.fn.events.items
    ++ flat_map (both_ways l.number) (range_with_len 1 16)
