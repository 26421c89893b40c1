use Rattle.std.proofs.Common.{arith}
use Rattle.std.proofs.lemmas.List.Sums.{count_by-le-length, length-filter}
use Rattle.sp_store.specs.Leaving.{leaves}
use Rattle.sp_store.specs.Places.{live}
use Rattle.sp_store.proofs.store.count_of.Goals as goal

pub returns-clause-within : goal.returns-clause-within
returns-clause-within c = omega (
  arith,
  c.slots.invariant.all,
  length-filter (leaves c.args.leaving.now) (live c.args.slots.now),
  count_by-le-length (leaves c.args.leaving.now) (live c.args.slots.now),
)
