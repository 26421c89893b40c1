use Rattle.std.proofs.Common.{arith}
use Rattle.sp_store.proofs.CountLemmas.{none_counted}
use Rattle.sp_store.proofs.store.Store.new.Goals as goal

pub invariant_of-result : goal.invariant_of-result
invariant_of-result c = rw c.in_ok-new.ensures (record { bounded = omega arith; counted = none_counted })
