use Rattle.std.proofs.Common.{◌≡◌, ◌-◌, ◌++◌}
use Rattle.std.specs.List.{flat_map, range_with_len}
use Rattle.sp_generate.specs.Generated.{by_priority}
use Rattle.sp_generate.proofs.happenings.push_by_priority.Given as goal

abbrev pub invariant-turns : goal.invariant-turns
invariant-turns l =
    l.events.items ++ flat_map (by_priority l.number) (range_with_len l.turn (5 - l.turn)) ≡ l.fn.events.items
    ++ flat_map (by_priority l.number) (range_with_len 1 4)
