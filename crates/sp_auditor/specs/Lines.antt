-- The lines that the auditor writes, and the status that goes with each.
--
--     kept                             no event of the run breaks a promise                       0
--     broken EVENT                     the event of this number is the first that breaks one     14
--     rounds N                         so many complete rounds follow one after another           0
--     path refused                     the nodes are no path of correct nodes                     3
--     schedule refused LINE KIND       the schedule's first bad line, 0 where it is too long      3
--     journal refused LINE Form        the journal's first bad line                               3
--     journal refused 0 TooBig         the journal is too long                                    3
--     unread epochs                    the schedule's nodes start and stop by events              3
--     unread events M entries N        the journal hasn't one entry for each event                3
--     schedule unreadable              reading the schedule failed                                5
--     journal unreadable               reading the journal failed                                 5
--     usage                            the words are no command                                   2
use Rattle.std.specs.Prelude.{ℕ, List, [], ◌∷◌, ◌++◌, codes}
use Rattle.std.specs.Fmt.{decimal}
use Rattle.sp_journal.specs.JournalText.{journal_text}
use Rattle.sp_lines.specs.Rows.{line_text}
use Rattle.sp_schedule.specs.Refusals.{refused_line}
use Rattle.sp_schedule.specs.Spelling.{schedule_text}
use Rattle.sp_words.specs.declared.audit_status.AuditStatus.{AuditStatus}
use Rattle.sp_words.specs.declared.audit_status.AuditStatus.TheVariants as statuses
use Rattle.sp_auditor.specs.declared.cause.Cause.{Cause}
use Rattle.sp_auditor.specs.declared.cause.Cause.TheVariants as causes
use Rattle.sp_auditor.specs.declared.cause.Unfit.{Unfit}
use Rattle.sp_auditor.specs.declared.cause.Unfit.TheVariants as unfits
use Rattle.sp_auditor.specs.declared.count.Count.{Count}
use Rattle.sp_auditor.specs.declared.count.Count.TheVariants as counts
use Rattle.sp_auditor.specs.declared.journal.Told.{Told}
use Rattle.sp_auditor.specs.declared.journal.Told.TheVariants as tellings
use Rattle.sp_auditor.specs.declared.schedule.Whole.{Whole}
use Rattle.sp_auditor.specs.declared.schedule.Whole.TheVariants as wholes
use Rattle.sp_auditor.specs.declared.verdict.Verdict.{Verdict}
use Rattle.sp_auditor.specs.declared.verdict.Verdict.TheVariants as verdicts

-- ---- causes

abbrev pub unfit_line : Unfit → List ℕ
unfit_line (unfits.Bad line kind) = codes "schedule " ++ refused_line line kind
unfit_line unfits.Epochs = codes "unread epochs\n"

-- the line of a journal's first bad line
abbrev pub bad_line : ℕ → List ℕ
bad_line line = line_text (codes "journal" ∷ codes "refused" ∷ decimal line ∷ codes "Form" ∷ [])

-- the line of a journal with too many bytes
abbrev pub long_line : List ℕ
long_line = codes "journal refused 0 TooBig\n"

-- the line of a cause
abbrev pub cause_line : Cause → List ℕ
cause_line (causes.Schedule unfit) = unfit_line unfit
cause_line (causes.Journal line) = bad_line line
cause_line causes.LongJournal = long_line
cause_line (causes.Unequal events entries) = line_text (codes "unread" ∷ codes "events" ∷ decimal events ∷ codes "entries" ∷ decimal entries ∷ [])

-- ---- verdicts

-- the line of a verdict
abbrev pub verdict_line : Verdict → List ℕ
verdict_line verdicts.Kept = codes "kept\n"
verdict_line (verdicts.Broken event) = line_text (codes "broken" ∷ decimal event ∷ [])
verdict_line (verdicts.Unjudged cause) = cause_line cause

-- the status of a verdict
abbrev pub verdict_status : Verdict → AuditStatus
verdict_status verdicts.Kept = statuses.Done
verdict_status (verdicts.Broken event) = statuses.Broken
verdict_status (verdicts.Unjudged cause) = statuses.Refused

-- ---- counts

-- the line of a count
abbrev pub count_line : Count → List ℕ
count_line (counts.Rounds n) = line_text (codes "rounds" ∷ decimal n ∷ [])
count_line counts.NoPath = codes "path refused\n"
count_line (counts.Unjudged unfit) = unfit_line unfit

-- the status of a count
abbrev pub count_status : Count → AuditStatus
count_status (counts.Rounds n) = statuses.Done
count_status counts.NoPath = statuses.Refused
count_status (counts.Unjudged unfit) = statuses.Refused

-- ---- texts that are written back

-- the text of a schedule that was read, or the line of why it is none
abbrev pub whole_text : Whole → List ℕ
whole_text (wholes.Schedule s es) = schedule_text s es
whole_text (wholes.Bad line kind) = codes "schedule " ++ refused_line line kind

-- the status of a schedule that was read
abbrev pub whole_status : Whole → AuditStatus
whole_status (wholes.Schedule s es) = statuses.Done
whole_status (wholes.Bad line kind) = statuses.Refused

-- the text of a journal that was read, or the line of why it is none
abbrev pub told_text : Told → List ℕ
told_text (tellings.Journal js) = journal_text js
told_text (tellings.Bad line) = bad_line line
told_text tellings.Long = long_line

-- the status of a journal that was read
abbrev pub told_status : Told → AuditStatus
told_status (tellings.Journal js) = statuses.Done
told_status (tellings.Bad line) = statuses.Refused
told_status tellings.Long = statuses.Refused

-- ---- the outside

-- the line of words that are no command
abbrev pub usage_line : List ℕ
usage_line = codes "usage\n"

-- the line of a schedule that can't be read
abbrev pub unreadable_schedule : List ℕ
unreadable_schedule = codes "schedule unreadable\n"

-- the line of a journal that can't be read
abbrev pub unreadable_journal : List ℕ
unreadable_journal = codes "journal unreadable\n"
