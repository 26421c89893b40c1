use Rattle.std.proofs.Common.{arith}
use Rattle.sp_rules.specs.Store.{has_id}
use Rattle.sp_store.proofs.LeftLemmas.{no_more}
use Rattle.sp_store.proofs.store.Store.remove.Goals as goal

pub invariant_of-self : goal.invariant_of-self
invariant_of-self c = record {
  bounded = rw c.remove.ensures.store (omega (arith, no_more (has_id c.args.id) c.self.inside.places.entries, c.self.invariant.bounded));
  counted = c.remove.ensures.counted;
}
