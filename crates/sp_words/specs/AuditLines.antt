-- The auditor's command lines: each command with just its files and options, each number in its range and in its one spelling.
--
--     run SCHEDULE JOURNAL
--     rounds SCHEDULE --path U,V,W --from N
--     schedule SCHEDULE
--     journal JOURNAL
use Rattle.std.specs.Prelude.{ℕ, ◌≡◌, ◌≤◌, List, Some, None, codes, length, map}
use Rattle.std.specs.Fmt.{decimal}
use Rattle.std.specs.List.{All, join_with_byte}
use Rattle.clap.specs.Walk.{Text}
use Rattle.sp_base.specs.declared.id.NodeId.{NodeId}
use Rattle.sp_words.specs.AuditParse.{AuditTexts, GivesAudit}
use Rattle.sp_words.specs.declared.audit_line.AuditLine.{AuditLine}
use Rattle.sp_words.specs.declared.audit_line.AuditLine.TheVariants as lines
use Rattle.sp_words.specs.declared.audit_line.RoundsQuery.{RoundsQuery}

-- ---- texts

-- nodes with commas between them
abbrev pub path_text : List NodeId → Text
path_text path = join_with_byte 44 (map (λ u. decimal u.0) path)

-- a command without files and options
abbrev pub alone : Text → AuditTexts
alone name = record { command = Some name; first = None; second = None; path = None; from = None }

-- the texts of `run`
abbrev pub run_texts : (schedule journal : Text) → AuditTexts
run_texts schedule journal = record (alone (codes "run")) { first = Some schedule; second = Some journal }

-- a command with one file
abbrev pub file_texts : (name file : Text) → AuditTexts
file_texts name file = record (alone name) { first = Some file }

-- the texts of `rounds`, as they stand in words
abbrev pub words_texts : (schedule path from : Text) → AuditTexts
words_texts schedule path from = record (alone (codes "rounds")) { first = Some schedule; path = Some path; from = Some from }

-- the texts of `rounds` for a question
abbrev pub rounds_texts : RoundsQuery → AuditTexts
rounds_texts q = words_texts q.schedule.now (path_text q.path.items) (decimal q.from)

-- what a command line gives to the command, to each file and to each option
abbrev pub texts_for : AuditLine → AuditTexts
texts_for (lines.Run schedule journal) = run_texts schedule.now journal.now
texts_for (lines.Rounds q) = rounds_texts q
texts_for (lines.Schedule schedule) = file_texts (codes "schedule") schedule.now
texts_for (lines.Journal journal) = file_texts (codes "journal") journal.now

-- ---- ranges

-- the number of an event, counted from 1
abbrev pub IsFrom : ℕ → Type 0
IsFrom from = (1 ≤ from) × (from ≤ 4294967295)

-- nodes, one at least, of this word
pub record IsPathOf (word : Text) (path : List NodeId) : Type 0 where
  pub some : 1 ≤ length path
  pub range : All (λ u. u.0 ≤ 255) path
  pub word_is : word ≡ path_text path

-- a question about rounds whose numbers are in their ranges
pub record IsRoundsQuery (q : RoundsQuery) : Type 0 where
  pub some : 1 ≤ length q.path.items
  pub range : All (λ u. u.0 ≤ 255) q.path.items
  pub from : IsFrom q.from

-- a command line whose numbers are in their ranges
abbrev pub IsInRange : AuditLine → Type 0
IsInRange (lines.Rounds q) = IsRoundsQuery q
IsInRange _ = Unit {0}

-- ---- command lines

-- texts of this command line
pub record AreAuditTextsOf (texts : AuditTexts) (line : AuditLine) : Type 0 where
  pub range : IsInRange line
  pub are : texts ≡ texts_for line

-- words of this command line
pub record IsAuditLine (words : List Text) (line : AuditLine) : Type 0 where
  pub texts : AuditTexts
  pub given : GivesAudit words texts
  pub of_line : AreAuditTextsOf texts line
