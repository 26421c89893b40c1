use Rattle.std.proofs.Common.{◌≡◌, ◌≤◌, length}
use Rattle.sp_rules.specs.PrioPeer.{gone_effects}
use Rattle.sp_rules.specs.Store.{leavers, less_leavers}
use Rattle.sp_rules.specs.Told.{told}
use Rattle.sp_store.specs.Leaving.{leaves}
use Rattle.sp_prio.proofs.place.leave_all.Given as goal

abbrev pub invariant-entries : goal.invariant-entries
invariant-entries l = record {
  store : less_leavers (leaves l.leaving) l.store ≡ less_leavers (leaves l.leaving) l.fn.store;
  told : told l.out (gone_effects l.place l.why (leavers (leaves l.leaving) l.store))
      ≡ told l.fn.out (gone_effects l.place l.why (leavers (leaves l.leaving) l.fn.store));
  room : length (leavers (leaves l.leaving) l.store) ≤ l.out.room;
}

abbrev pub decreases-entries : goal.decreases-entries
decreases-entries l = length (leavers (leaves l.leaving) l.store)
