use Rattle.std.proofs.Common.{◌≡◌, length, take}
use Rattle.std.specs.List.{flat_map}
use Rattle.sp_journal.specs.JournalText.{delivered_in, priority_in}
use Rattle.sp_journal.proofs.whole_text.delivered.Given as goal

abbrev pub invariant-entries : goal.invariant-entries
invariant-entries l = record {
  reliable : l.reliable ≡ length (flat_map delivered_in (take l.entry-index l.journal));
  priority : l.priority ≡ length (flat_map priority_in (take l.entry-index l.journal));
}
