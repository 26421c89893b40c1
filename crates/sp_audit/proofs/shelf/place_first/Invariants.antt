use Rattle.std.proofs.Common.{◌≡◌, ◌≤◌, ℕ}
use Rattle.sp_audit.specs.Firsts.{KeepsPlace, effects_to}
use Rattle.sp_audit.specs.Shelves.{shelf_of}
use Rattle.sp_audit.proofs.shelf.place_first.Given as goal

abbrev pub invariant-events : goal.invariant-events
invariant-events l = record {
  shelf : l.shelf ≡ shelf_of l.p (effects_to l.events l.journal l.u l.place);
  kept : (m : ℕ) → m ≤ l.place → KeepsPlace l.capacity l.events l.journal l.u l.p m;
}
