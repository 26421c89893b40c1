use Rattle.std.proofs.Common.{take}
use Rattle.sp_store.specs.Places.{live}
use Rattle.sp_rules.specs.Store.{free}
use Rattle.sp_store.proofs.CountLemmas.{IsFlagged}
use Rattle.sp_store.proofs.choice.active.Given as goal

abbrev pub invariant-slots : goal.invariant-slots
invariant-slots l = IsFlagged (free l.flight (live (take l.slot-index l.slots))) l.active
