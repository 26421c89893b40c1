use Rattle.std.proofs.Common.{◌-◌, map}
use Rattle.sp_paths.specs.Flows.{Flow}
use Rattle.sp_paths.specs.Taken.{IsApart}
use Rattle.sp_paths.proofs.walks.walks.Given as goal

abbrev pub invariant-loop-taken : goal.invariant-loop-taken
invariant-loop-taken l = record {
  flow : Flow l.s l.t (l.count - l._taken) l.lanes;
  apart : IsApart l.fn.lanes l.lanes l.s l.t l._taken (map (λ walk. walk.items) l.walks.items);
}
