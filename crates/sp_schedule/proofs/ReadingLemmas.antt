-- How a reading ends.
use Rattle.std.proofs.Common.{◌≡◌, ◌≢◌, ◌+◌, ℕ, Bool, List, [], Ok, Err, refl, sym, subst}
use Rattle.sp_text.specs.Spelling.{Word}
use Rattle.sp_text.specs.Unread.{Unread}
use Rattle.sp_text.specs.declared.place.TextRefused.{TextRefused}
use Rattle.sp_text.specs.declared.place.TextRefused.TheVariants as texts
use Rattle.sp_lines.specs.Texts.{At_end, At_line, At_words, Bad_words, No_words, NoLine, Nothing_left, first_words}
use Rattle.sp_lines.proofs.LeadLemmas.{GoesOn, goes_on}
use Rattle.sp_schedule.specs.Lines.{IsLead, says}
use Rattle.sp_schedule.specs.Readings.{IsReading, no_words, nothing_left}
use Rattle.sp_schedule.specs.declared.lead.Lead.{Lead}
use Rattle.sp_schedule.specs.declared.lead.Lead.TheVariants as leads
use Rattle.sp_schedule.specs.declared.parsed.Parsed.{Parsed}
use Rattle.sp_schedule.specs.declared.refused.Kind.{Kind}
use Rattle.sp_schedule.specs.declared.stage.Ending.{Ending}
use Rattle.sp_schedule.specs.declared.stage.Ending.TheVariants as endings
use Rattle.sp_schedule.specs.declared.stage.Stage.{Stage}
use Rattle.sp_schedule.specs.declared.stage.Stage.TheVariants as stages

abbrev pub SoFar : List ℕ → Stage → ℕ → List ℕ → Type 0
SoFar text stage count rest = GoesOn says stages.Start text stage count rest

-- nothing is left
pub ends_at_end : (text : List ℕ) (is_cut : Bool) (stage : Stage) (count : ℕ) (rest : List ℕ) (ending : Ending) → SoFar text stage count rest → rest ≡ []
    → ending ≡ nothing_left is_cut stage (count + 1)
    → IsReading text is_cut (record { stage = stage; ending = ending })
ends_at_end text is_cut stage count rest ending so_far none is = record {
  line = count + 1;
  stop = Nothing_left;
  leads = so_far stage (count + 1) Nothing_left (rw none At_end);
  ends = is;
}

-- what a refused call says of the next line
no_line : (old : Unread) (refused : TextRefused) → NoLine old refused → refused ≢ texts.Memory
    → (old.rest ≢ []) × (first_words (old.given + 1) old.rest ≡ Err refused)
no_line old texts.Memory line other = absurd (other refl)
no_line old (texts.LineLong place) line other = line
no_line old (texts.Cut place) line other = line
no_line old (texts.BadWord place) line other = line
no_line old (texts.BadNumber place) line other = line
no_line old (texts.BadHex place) line other = line

-- the next line isn't words
pub ends_at_line : (text : List ℕ) (is_cut : Bool) (stage : Stage) (count : ℕ) (old : Unread) (refused : TextRefused) (ending : Ending)
    → SoFar text stage count old.rest → old.given ≡ count → NoLine old refused → (refused ≢ texts.Memory) × (ending ≡ no_words is_cut (count + 1) refused)
    → IsReading text is_cut (record { stage = stage; ending = ending })
ends_at_line text is_cut stage count old refused ending so_far given takes is =
    let line = no_line old refused takes is.0 in
    record {
      line = count + 1;
      stop = No_words refused;
      leads = so_far stage (count + 1) (No_words refused) (At_line refused line.0 (rw given at line.1));
      ends = is.1;
    }

-- the next line may not stand there
pub ends_at_words : (text : List ℕ) (is_cut : Bool) (stage back : Stage) (kind : Kind) (count : ℕ) (old rest : List ℕ) (words : List Word) (lead : Lead)
    → SoFar text stage count old
    → first_words (count + 1) old ≡ Ok (words, rest) → IsLead stage words lead → lead ≡ leads.Bad back kind
    → IsReading text is_cut (record { stage = back; ending = endings.Refused (count + 1) kind })
ends_at_words text is_cut stage back kind count old rest words lead so_far first judged is =
    let bad : IsLead stage words (leads.Bad back kind) = subst (IsLead stage words) is judged in
    subst (λ (z : Stage). IsReading text is_cut (record { stage = z; ending = endings.Refused (count + 1) kind })) (sym bad.0)
    (record {
      line = count + 1;
      stop = Bad_words kind;
      leads = so_far stage (count + 1) (Bad_words kind) (At_words words rest kind first bad.1);
      ends = refl;
    })

-- the next line is good
pub leads_on_from : (text : List ℕ) (stage next : Stage) (count : ℕ) (old rest : List ℕ) (words : List Word) (lead : Lead) (parsed : Parsed)
    → SoFar text stage count old
    → first_words (count + 1) old ≡ Ok (words, rest) → IsLead stage words lead → lead ≡ leads.To next parsed → SoFar text next (count + 1) rest
leads_on_from text stage next count old rest words lead parsed so_far first judged is =
    let good : IsLead stage words (leads.To next parsed) = subst (IsLead stage words) is judged in
    goes_on says stages.Start text stage next count old rest words so_far first good.0
