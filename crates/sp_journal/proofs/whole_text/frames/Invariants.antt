use Rattle.std.proofs.Common.{◌≡◌, ◌≤◌, filter, length, take}
use Rattle.sp_journal.specs.JournalText.{is_frame}
use Rattle.sp_journal.proofs.whole_text.frames.Given as goal

abbrev pub invariant-entries : goal.invariant-entries
invariant-entries l = record {
  counted : l.count ≡ length (filter is_frame (take l.entry-index l.journal));
  few : l.count ≤ l.entry-index;
}
