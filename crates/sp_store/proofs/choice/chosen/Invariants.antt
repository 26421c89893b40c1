use Rattle.std.proofs.Common.{◌≡◌, take}
use Rattle.std.specs.Option.{option_copied}
use Rattle.sp_store.specs.Places.{live}
use Rattle.sp_rules.specs.Store.{free}
use Rattle.sp_store.specs.Wanted.{choice}
use Rattle.sp_store.proofs.choice.chosen.Given as goal

abbrev pub invariant-slots : goal.invariant-slots
invariant-slots l = option_copied l.best ≡ choice l.wanted (free l.flight (live (take l.slot-index l.slots))) l.src
