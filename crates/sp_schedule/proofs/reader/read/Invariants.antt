use Rattle.std.proofs.Common.{◌≡◌, ◌+◌, ◌≤◌, length}
use Rattle.sp_base.specs.declared.limits.TheConstants.{MAX_INPUT_BYTES}
use Rattle.sp_lines.proofs.LeadLemmas.{GoesOn}
use Rattle.sp_schedule.specs.Lines.{says}
use Rattle.sp_schedule.specs.declared.stage.Stage.TheVariants as stages
use Rattle.sp_schedule.proofs.reader.read.Given as goal

abbrev pub invariant-lines : goal.invariant-lines
invariant-lines l = record {
  given : l.lines.given ≡ l.count;
  fits : l.count + length l.lines.rest ≤ MAX_INPUT_BYTES;
  goes_on : GoesOn says stages.Start l.text l.stage l.count l.lines.rest;
}

abbrev pub decreases-lines : goal.decreases-lines
decreases-lines l = length l.lines.rest
