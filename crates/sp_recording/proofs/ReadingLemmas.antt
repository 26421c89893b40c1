-- How a reading ends.
use Rattle.std.proofs.Common.{◌≡◌, ◌≢◌, ◌+◌, ℕ, List, [], Result, Ok, Err, refl, sym, subst, ap, ◌∙◌}
use Rattle.std.specs.Prelude.{IsErr}
use Rattle.sp_base.specs.declared.id.NodeId.{NodeId}
use Rattle.sp_text.specs.Spelling.{Word}
use Rattle.sp_text.specs.Unread.{Unread}
use Rattle.sp_text.specs.declared.place.TextRefused.{TextRefused}
use Rattle.sp_text.specs.declared.place.TextRefused.TheVariants as texts
use Rattle.sp_lines.specs.Texts.{At_end, At_line, At_words, Bad_words, No_words, NoLine, Nothing_left, first_words}
use Rattle.sp_lines.specs.declared.fault.Fault.{Fault}
use Rattle.sp_lines.proofs.LeadLemmas.{GoesOn, goes_on}
use Rattle.sp_recording.specs.Reading.{IsLead, IsReading, at_end, says}
use Rattle.sp_recording.specs.declared.lead.Lead.{Lead}
use Rattle.sp_recording.specs.declared.lead.Lead.TheVariants as leads
use Rattle.sp_recording.specs.declared.stage.Ending.{Ending}
use Rattle.sp_recording.specs.declared.stage.Ending.TheVariants as endings
use Rattle.sp_recording.specs.declared.stage.Stage.{Stage}
use Rattle.sp_recording.specs.declared.stage.Stage.TheVariants as stages

abbrev pub SoFar : ℕ → List NodeId → List ℕ → Stage → ℕ → List ℕ → Type 0
SoFar total near text stage count rest = GoesOn (says total near) stages.Start text stage count rest

module _ (total : ℕ) (near : List NodeId) (before : ℕ) (text : List ℕ) (stage : Stage) (count : ℕ) where
  -- nothing is left
  pub ends_at_end : (rest : List ℕ) (ending : Ending) (line : ℕ) → SoFar total near text stage count rest → rest ≡ [] → line ≡ before + (count + 1)
      → ending ≡ at_end stage line
      → IsReading total near before text (record { stage = stage; ending = ending })
  ends_at_end rest ending line so_far none at is = record {
    line = count + 1;
    stop = Nothing_left;
    leads = so_far stage (count + 1) Nothing_left (rw none At_end);
    ends = is ∙ ap (at_end stage) at;
  }

  -- what a refused call says of the next line
  no_line : (old : Unread) (refused : TextRefused) → NoLine old refused → refused ≢ texts.Memory
      → (old.rest ≢ []) × (first_words (old.given + 1) old.rest ≡ Err refused)
  no_line old texts.Memory line other = absurd (other refl)
  no_line old (texts.LineLong place) line other = line
  no_line old (texts.Cut place) line other = line
  no_line old (texts.BadWord place) line other = line
  no_line old (texts.BadNumber place) line other = line
  no_line old (texts.BadHex place) line other = line

  -- the next line isn't words
  pub ends_at_line : (old : Unread) (refused : TextRefused) (line : ℕ) → SoFar total near text stage count old.rest → old.given ≡ count → NoLine old refused
      → refused ≢ texts.Memory
      → line ≡ before + (count + 1) → IsReading total near before text (record { stage = stage; ending = endings.Form line })
  ends_at_line old refused line so_far given takes other at =
      let bad = no_line old refused takes other in
      record {
        line = count + 1;
        stop = No_words refused;
        leads = so_far stage (count + 1) (No_words refused) (At_line refused bad.0 (rw given at bad.1));
        ends = ap (λ (n : ℕ). endings.Form n) at;
      }

  err_of : (r : Result Stage Fault) → IsErr r → (fault : Fault) × (r ≡ Err fault)
  err_of (Ok x) is = absurd cc
  err_of (Err fault) is = (fault, refl)

  -- the next line may not stand there
  pub ends_at_words : (back : Stage) (old rest : List ℕ) (words : List Word) (lead : Lead) (line : ℕ) → SoFar total near text stage count old
      → first_words (count + 1) old ≡ Ok (words, rest) → IsLead total near stage words lead → lead ≡ leads.Bad back → line ≡ before + (count + 1)
      → IsReading total near before text (record { stage = back; ending = endings.Form line })
  ends_at_words back old rest words lead line so_far first judged is at =
      let bad : IsLead total near stage words (leads.Bad back) = subst (IsLead total near stage words) is judged in
      let fault = err_of (says total near stage words) bad.1 in
      let all : IsReading total near before text (record { stage = stage; ending = endings.Form line }) =
      record {
        line = count + 1;
        stop = Bad_words fault.0;
        leads = so_far stage (count + 1) (Bad_words fault.0) (At_words words rest fault.0 first fault.1);
        ends = ap (λ (n : ℕ). endings.Form n) at;
      } in
      subst (λ (z : Stage). IsReading total near before text (record { stage = z; ending = endings.Form line })) (sym bad.0) all

  -- the next line is good
  pub leads_on_from : (next : Stage) (old rest : List ℕ) (words : List Word) (lead : Lead) → SoFar total near text stage count old
      → first_words (count + 1) old ≡ Ok (words, rest) → IsLead total near stage words lead → lead ≡ leads.To next → SoFar total near text next (count + 1) rest
  leads_on_from next old rest words lead so_far first judged is =
      goes_on (says total near) stages.Start text stage next count old rest words so_far first (subst (IsLead total near stage words) is judged)
