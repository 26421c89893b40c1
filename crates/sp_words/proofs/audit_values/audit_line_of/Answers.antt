use Rattle.std.proofs.Common.{◌≡◌, List, ℕ}
use Rattle.std.specs.Prelude.{codes}
use Rattle.std.specs.Borrow.{Bor}
use Rattle.sp_words.specs.AuditLines.{AreAuditTextsOf, IsRoundsQuery, file_texts, rounds_texts, run_texts}
use Rattle.sp_words.specs.AuditParse.{AuditTexts}
use Rattle.sp_words.specs.AuditViews.{audit_texts_in}
use Rattle.sp_words.specs.declared.audit_line.AuditLine.{AuditLine}
use Rattle.sp_words.specs.declared.audit_line.AuditLine.TheVariants as lines
use Rattle.sp_words.specs.declared.audit_line.RoundsQuery.{RoundsQuery}
use Rattle.sp_words.proofs.audit_values.audit_line_of.Goals as goal

-- texts of no form are of no command line
none_of : (t : AuditTexts) → ((files : Bor (List ℕ) × Bor (List ℕ)) → t ≡ run_texts files.0.now files.1.now → ⊥)
    → ((file : Bor (List ℕ)) → t ≡ file_texts (codes "schedule") file.now → ⊥) → ((file : Bor (List ℕ)) → t ≡ file_texts (codes "journal") file.now → ⊥)
    → ((q : RoundsQuery) → IsRoundsQuery q × (t ≡ rounds_texts q) → ⊥) → (line : AuditLine) → AreAuditTextsOf t line → ⊥
none_of t run schedule journal rounds (lines.Run s j) is = run (s, j) is.are
none_of t run schedule journal rounds (lines.Rounds q) is = rounds q (is.range, is.are)
none_of t run schedule journal rounds (lines.Schedule file) is = schedule file is.are
none_of t run schedule journal rounds (lines.Journal file) is = journal file is.are

pub returns-in-None : goal.returns-in-None
returns-in-None c =
    none_of (audit_texts_in c.args.given.now) c.in_default.ensures c.in_default-file.ensures c.in_default-file-2.ensures
    (rw c.in-None.is at c.in_ok-query.ensures)
