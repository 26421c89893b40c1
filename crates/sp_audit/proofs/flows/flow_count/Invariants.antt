use Rattle.std.proofs.Common.{◌≡◌, ◌≤◌, ◌*◌, count_by, flat_map, map}
use Rattle.std.specs.List.{range_with_len}
use Rattle.sp_rules.specs.Parts.{nodes_of}
use Rattle.sp_rules.specs.Rel.{flows_from}
use Rattle.sp_runs.specs.Scenarios.{numbered, setting_of}
use Rattle.sp_audit.specs.Counted.{may_wait}
use Rattle.sp_audit.proofs.flows.flow_count.Given as goal

abbrev pub invariant-ids : goal.invariant-ids
invariant-ids l = record {
  few : l.count ≤ l.id * 255;
  counted : l.count ≡ count_by (may_wait (setting_of l.scenario) l.events)
      (flat_map (λ src. flows_from src (nodes_of (setting_of l.scenario).topology)) (map numbered (range_with_len 1 l.id)));
}
