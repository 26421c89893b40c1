use Rattle.std.proofs.Common.{◌≡◌, ◌+◌, ◌≤◌, length}
use Rattle.sp_lines.proofs.LeadLemmas.{GoesOn}
use Rattle.sp_journal_reading.specs.Reading.{says}
use Rattle.sp_journal_reading.specs.declared.stage.Stage.TheVariants as stages
use Rattle.sp_journal_reading.proofs.reader.read.Given as goal

abbrev pub invariant-lines : goal.invariant-lines
invariant-lines l = record {
  given : l.lines.given ≡ l.count;
  fits : l.count + length l.lines.rest ≤ length l.text;
  goes_on : GoesOn says stages.Start l.text l.stage l.count l.lines.rest;
}

abbrev pub decreases-lines : goal.decreases-lines
decreases-lines l = length l.lines.rest
