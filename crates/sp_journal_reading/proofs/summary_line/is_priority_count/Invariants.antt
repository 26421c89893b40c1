use Rattle.std.proofs.Common.{◌≡◌, ◌+◌, length, take}
use Rattle.std.specs.List.{flat_map}
use Rattle.sp_journal.specs.JournalText.{priority_in}
use Rattle.sp_journal_reading.proofs.summary_line.is_priority_count.Given as goal

-- what is left, and what was taken off
abbrev pub invariant-entries : goal.invariant-entries
invariant-entries l = l.left + length (flat_map priority_in (take l.entry-index l.journal)) ≡ l.fn.n
