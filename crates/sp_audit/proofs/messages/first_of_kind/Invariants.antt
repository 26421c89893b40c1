use Rattle.std.proofs.Common.{◌≡◌, ◌≤◌, ℕ, length, take}
use Rattle.std.specs.List.{flat_map}
use Rattle.sp_audit.specs.Firsts.{KeepsOrder, effects_to}
use Rattle.sp_runs.specs.Told.{delivered_by, sent}
use Rattle.sp_audit.proofs.messages.first_of_kind.Given as goal

abbrev pub invariant-events : goal.invariant-events
invariant-events l = record {
  sent : l.sent.items ≡ sent l.kind (take l.place l.events) (take l.place l.journal) l.s l.d;
  count : l.count ≡ length (flat_map (delivered_by l.kind l.s) (effects_to l.events l.journal l.d l.place));
  kept : (m : ℕ) → m ≤ l.place → KeepsOrder l.kind l.events l.journal l.s l.d m;
}
