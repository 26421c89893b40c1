use Rattle.std.proofs.Common.{arith}
use Rattle.sp_store.specs.Places.{live}
use Rattle.sp_store.proofs.CountLemmas.{fuller_no, fuller_yes, fullest_has, fullest_of_all}
use Rattle.sp_store.proofs.choice.fullest.Goals as goal
use Rattle.sp_store.proofs.choice.fullest.Goals.{then-counts-id, else-counts-id}

pub ids-preserved : goal.ids-preserved
ids-preserved c =
    elim c.if-counts-id.branch [
      | then-counts-id w ↦ rw w.most-is (record {
        within = omega arith;
        first = fuller_yes (live c.args.slots.now) c.ids.id c.ids.most c.ids.invariant.first (omega (
          arith,
          c.requires.counted.each c.ids.id (omega arith),
          c.requires.counted.each c.ids.most (omega (arith, c.ids.invariant.within)),
          w.if-counts-id.true,
        ));
      })
      | else-counts-id w ↦ rw w.most-is (record {
        within = omega (arith, c.ids.invariant.within);
        first = fuller_no (live c.args.slots.now) c.ids.id c.ids.most c.ids.invariant.first (omega (
          arith,
          c.requires.counted.each c.ids.id (omega arith),
          c.requires.counted.each c.ids.most (omega (arith, c.ids.invariant.within)),
          w.if-counts-id.false,
        ));
      })
    ]

pub returns-clause-source : goal.returns-clause-source
returns-clause-source c = fullest_of_all (live c.args.slots.now) c.ids.id c.ids.most (omega arith) c.ids.invariant.first

pub returns-clause-some : goal.returns-clause-some
returns-clause-some c =
    fullest_has (live c.args.slots.now) c.args.counts.now c.ids.id c.ids.most (omega arith) c.requires.counted.each c.requires.counted.all (omega
    arith) c.ids.invariant.first
