-- The laws of journals that are read.
use Rattle.std.proofs.Common.{◌≡◌, ℕ, ◌+◌, true, List, [], ◌++◌, length, Ok, Err, refl, sym, ap, subst, append-nil}
use Rattle.sp_lines.specs.Texts.{At_end, Leads, Nothing_left, Stop}
use Rattle.sp_lines.specs.declared.fault.Fault.{Fault}
use Rattle.sp_lines.specs.declared.fault.Fault.TheVariants as faults
use Rattle.sp_lines.proofs.LeadLemmas.{leads_on, one_lead, stops_there}
use Rattle.sp_journal.specs.JournalText.{journal_text}
use Rattle.sp_journal_reading.specs.Reading.{IsBadAt, IsJournal, IsWhole, is_early, says}
use Rattle.sp_journal_reading.specs.TextLaws.{GoodJournalsAreRead, NoOtherBeginsThere, OneReading}
use Rattle.sp_journal.specs.declared.entry.Entry.{Entry}
use Rattle.sp_journal_reading.specs.declared.stage.JournalRefused.TheVariants as refusals
use Rattle.sp_journal_reading.specs.declared.stage.Stage.{Stage}
use Rattle.sp_journal_reading.specs.declared.stage.Stage.TheVariants as stages
use Rattle.sp_journal_reading.proofs.StageLemmas.{journal_of_lines}
use Rattle.sp_journal_reading.proofs.TextLemmas.{journal_spelled}
use Rattle.sp_journal_reading.proofs.WalkLemmas.{journal_follows}

-- the lines of a journal, whatever follows
from_lines : (journal : List Entry) (rest : List ℕ) (stop : Stop Fault) → IsJournal journal
    → Leads says (stages.End journal) (1 + length (journal_of_lines journal)) rest (stages.End journal) (1 + length (journal_of_lines journal)) stop
    → Leads says stages.Start 1 (journal_text journal ++ rest) (stages.End journal) (1 + length (journal_of_lines journal)) stop
from_lines journal rest stop good on =
    let follows = journal_follows journal good in
    subst (λ (t : List ℕ). Leads says stages.Start 1 (t ++ rest) (stages.End journal) (1 + length (journal_of_lines journal)) stop) (journal_spelled journal)
    (leads_on says (journal_of_lines journal) stages.Start (stages.End journal) follows.follows follows.good rest (stages.End journal) stop
    (1 + length (journal_of_lines journal)) 1 on)

pub good_journals_are_read : GoodJournalsAreRead
good_journals_are_read journal good =
    let all = from_lines journal [] Nothing_left good At_end in
    record {
      line = 1 + length (journal_of_lines journal);
      leads = subst (λ (t : List ℕ). Leads says stages.Start 1 t (stages.End journal) (1 + length (journal_of_lines journal)) Nothing_left)
          (append-nil (journal_text journal)) all;
    }

late : (journal : List Entry) (stage : Stage) (stop : Stop Fault) → stages.End journal ≡ stage → Nothing_left ≡ stop → is_early stage stop ≡ true → ⊥
late journal stage stop is_end is_stop early =
    let at_end : is_early (stages.End journal) Nothing_left ≡ true =
    subst (λ (z : Stage). is_early z Nothing_left ≡ true) (sym is_end) (subst (λ (z : Stop Fault). is_early stage z ≡ true) (sym is_stop) early) in
    cc

not_both : (text : List ℕ) (journal : List Entry) (line : ℕ) → IsWhole text journal → IsBadAt text line → ⊥
not_both text journal line whole bad =
    let same = one_lead says whole.leads bad.leads in
    late journal bad.stage bad.stop same.stage same.stop bad.early

pub one_reading : OneReading
one_reading text (Ok journal) (Ok other) a_told b_told a b =
    let same : stages.End journal ≡ stages.End other = (one_lead says a.leads b.leads).stage in
    let is : journal ≡ other = cc in
    ap (λ (j : List Entry). Ok j) is
one_reading text (Ok journal) (Err (refusals.Form line)) a_told b_told a b = absurd (not_both text journal line a b)
one_reading text (Err (refusals.Form line)) (Ok journal) a_told b_told a b = absurd (not_both text journal line b a)
one_reading text (Err (refusals.Form line)) (Err (refusals.Form other)) a_told b_told a b =
    ap (λ (n : ℕ). Err (refusals.Form n)) (one_lead says a.leads b.leads).line
one_reading text (Err refusals.Memory) b a_told b_told is_a is_b = absurd (a_told refl)
one_reading text (Ok journal) (Err refusals.Memory) a_told b_told a b = absurd (b_told refl)
one_reading text (Err (refusals.Form line)) (Err refusals.Memory) a_told b_told a b = absurd (b_told refl)

pub no_other_begins_there : NoOtherBeginsThere
no_other_begins_there journal other rest others good good_other same =
    let after = stops_there says (stages.End journal) faults.Form (λ words. refl) (1 + length (journal_of_lines journal)) rest in
    let after_other = stops_there says (stages.End other) faults.Form (λ words. refl) (1 + length (journal_of_lines other)) others in
    let first = from_lines journal rest after.stop good after.leads in
    let second = from_lines other others after_other.stop good_other after_other.leads in
    let again = subst (λ (text : List ℕ). Leads says stages.Start 1 text (stages.End other) (1 + length (journal_of_lines other)) after_other.stop) (sym same)
    second in
    let one : stages.End journal ≡ stages.End other = (one_lead says first again).stage in
    cc
