-- How a reading ends.
use Rattle.std.proofs.Common.{◌≡◌, ◌≢◌, ◌+◌, ℕ, true, List, [], Result, Ok, Err, refl}
use Rattle.sp_text.specs.Spelling.{Word}
use Rattle.sp_text.specs.Unread.{Unread}
use Rattle.sp_text.specs.declared.place.TextRefused.{TextRefused}
use Rattle.sp_text.specs.declared.place.TextRefused.TheVariants as texts
use Rattle.sp_lines.specs.Texts.{At_end, At_line, At_words, Bad_words, No_words, NoLine, Nothing_left, first_words}
use Rattle.sp_lines.specs.declared.fault.Fault.{Fault}
use Rattle.sp_lines.proofs.LeadLemmas.{GoesOn, goes_on}
use Rattle.sp_journal_reading.specs.Reading.{IsBadAt, IsRead, ended, is_early, no_words, says}
use Rattle.sp_journal.specs.declared.entry.Entry.{Entry}
use Rattle.sp_journal_reading.specs.declared.stage.JournalRefused.{JournalRefused}
use Rattle.sp_journal_reading.specs.declared.stage.Stage.{Stage}
use Rattle.sp_journal_reading.specs.declared.stage.Stage.TheVariants as stages

abbrev pub SoFar : List ℕ → Stage → ℕ → List ℕ → Type 0
SoFar text stage count rest = GoesOn says stages.Start text stage count rest

-- nothing is left
pub ends_at_end : (text : List ℕ) (stage : Stage) (count : ℕ) (rest : List ℕ) (answer : Result (List Entry) JournalRefused) → SoFar text stage count rest
    → rest ≡ [] → answer ≡ ended stage (count + 1)
    → IsRead text answer
ends_at_end text (stages.End journal) count rest answer so_far none is =
    rw is (record { line = count + 1; leads = so_far (stages.End journal) (count + 1) Nothing_left (rw none At_end) })
ends_at_end text stages.Start count rest answer so_far none is =
    rw is (record { stage = stages.Start; stop = Nothing_left; leads = so_far stages.Start (count + 1) Nothing_left (rw none At_end); early = refl })
ends_at_end text (stages.Entries done last) count rest answer so_far none is =
    rw is (record {
      stage = stages.Entries done last;
      stop = Nothing_left;
      leads = so_far (stages.Entries done last) (count + 1) Nothing_left (rw none At_end);
      early =
          refl;
    })

-- no text ends at a line that stands there
early_line : (stage : Stage) (refused : TextRefused) → is_early stage (No_words refused) ≡ true
early_line stages.Start refused = refl
early_line (stages.Entries done last) refused = refl
early_line (stages.End journal) refused = refl

early_words : (stage : Stage) (fault : Fault) → is_early stage (Bad_words fault) ≡ true
early_words stages.Start fault = refl
early_words (stages.Entries done last) fault = refl
early_words (stages.End journal) fault = refl

at_line : (text : List ℕ) (stage : Stage) (count : ℕ) (old : Unread) (refused : TextRefused) → SoFar text stage count old.rest → old.given ≡ count
    → (old.rest ≢ []) × (first_words (old.given + 1) old.rest ≡ Err refused) → IsBadAt text (count + 1)
at_line text stage count old refused so_far given line = record {
  stage = stage;
  stop = No_words refused;
  leads = so_far stage (count + 1) (No_words refused) (At_line refused line.0 (rw given at line.1));
  early = early_line stage refused;
}

-- the next line isn't words
pub ends_at_line : (text : List ℕ) (stage : Stage) (count : ℕ) (old : Unread) (refused : TextRefused) (answer : JournalRefused)
    → SoFar text stage count old.rest → old.given ≡ count
    → NoLine old refused → answer ≡ no_words refused (count + 1) → IsRead text (Err answer)
ends_at_line text stage count old texts.Memory answer so_far given takes is = rw is tt
ends_at_line text stage count old (texts.LineLong place) answer so_far given takes is =
    rw is (at_line text stage count old (texts.LineLong place) so_far given takes)
ends_at_line text stage count old (texts.Cut place) answer so_far given takes is = rw is (at_line text stage count old (texts.Cut place) so_far given takes)
ends_at_line text stage count old (texts.BadWord place) answer so_far given takes is =
    rw is (at_line text stage count old (texts.BadWord place) so_far given takes)
ends_at_line text stage count old (texts.BadNumber place) answer so_far given takes is =
    rw is (at_line text stage count old (texts.BadNumber place) so_far given takes)
ends_at_line text stage count old (texts.BadHex place) answer so_far given takes is =
    rw is (at_line text stage count old (texts.BadHex place) so_far given takes)

-- the next line may not stand there
pub ends_at_words : (text : List ℕ) (stage : Stage) (fault : Fault) (count : ℕ) (old rest : List ℕ) (words : List Word) → SoFar text stage count old
    → first_words (count + 1) old ≡ Ok (words, rest) → says stage words ≡ Err fault → IsBadAt text (count + 1)
ends_at_words text stage fault count old rest words so_far first bad = record {
  stage = stage;
  stop = Bad_words fault;
  leads = so_far stage (count + 1) (Bad_words fault) (At_words words rest fault first bad);
  early = early_words stage fault;
}

-- the next line is good
pub leads_on_from : (text : List ℕ) (stage next : Stage) (count : ℕ) (old rest : List ℕ) (words : List Word) → SoFar text stage count old
    → first_words (count + 1) old ≡ Ok (words, rest) → says stage words ≡ Ok next → SoFar text next (count + 1) rest
leads_on_from text stage next count old rest words so_far first good = goes_on says stages.Start text stage next count old rest words so_far first good
