-- What holds at each stage of a recording, and which lines led to it.
use Rattle.std.proofs.Common.{◌≡◌, ◌<◌, ◌^◌, ℕ, List, [], ◌∷◌, ◌++◌, map, Result, Ok, Err, refl, sym, ap, ◌∙◌, subst, append_assoc, append-nil}
use Rattle.std.proofs.lemmas.List.{map-append}
use Rattle.sp_base.specs.Refusals.{◌>>=◌}
use Rattle.sp_base.proofs.RefusalLemmas.{then_ok}
use Rattle.sp_base.specs.declared.id.NodeId.{NodeId}
use Rattle.sp_text.specs.Spelling.{Word}
use Rattle.sp_lines.specs.declared.fault.Fault.{Fault}
use Rattle.sp_lines.specs.Texts.{follow_all}
use Rattle.sp_recording.specs.LineTable.{IsInRange, read_line}
use Rattle.sp_recording.specs.OuterRows.{read_closing, read_opening}
use Rattle.sp_recording.specs.Reading.{AreInRange, IsGoodStage, end_or_line, held_after, held_with, line_more, lines_to, says}
use Rattle.sp_recording.specs.RecordingText.{line_words, opening_words}
use Rattle.sp_recording.specs.declared.line.Closing.{Closing}
use Rattle.sp_recording.specs.declared.line.Line.{Line}
use Rattle.sp_recording.specs.declared.line.Opening.{Opening}
use Rattle.sp_recording.specs.declared.stage.Stage.{Stage}
use Rattle.sp_recording.specs.declared.stage.Stage.TheVariants as stages
use Rattle.sp_recording.proofs.LineLemmas.{lines_have_one_spelling}
use Rattle.sp_recording.proofs.OuterLemmas.{closing_read, opening_read}

-- the bound that is held after one line more
pub held_push : (held : ℕ) (ls : List Line) (line : Line) → held_after held (ls ++ line ∷ []) ≡ held_with (held_after held ls) line
held_push held [] line = refl
held_push held (l ∷ ls) line = held_push (held_with held l) ls line

module _ (total : ℕ) (near : List NodeId) where
  pub in_range_push : (held : ℕ) (ls : List Line) (line : Line) → AreInRange total near held ls → IsInRange total near (held_after held ls) line
      → AreInRange total near held (ls ++ line ∷ [])
  in_range_push held [] line each is = (is, tt)
  in_range_push held (l ∷ ls) line each is = (each.0, in_range_push (held_with held l) ls line each.1 is)

  abbrev Grows : Stage → List Word → Stage → Type 0
  Grows stage words next = (lines_to next ≡ lines_to stage ++ words ∷ []) × IsGoodStage total near next

  begins : (words : List Word) (next : Stage) → says total near stages.Start words ≡ Ok next → Grows stages.Start words next
  begins words next is =
      let step = then_ok (read_opening total words) (λ o. Ok (stages.Lines o [] o.bound)) next is in
      let read = opening_read total words step.0 step.1 in
      let to : stages.Lines step.0 [] step.0.bound ≡ next = let oks : Ok (stages.Lines step.0 [] step.0.bound) ≡ Ok next = step.2 in cc in
      let all : Grows stages.Start words (stages.Lines step.0 [] step.0.bound) =
      (ap (λ (ws : List Word). ws ∷ []) (sym read.1), (record { opening = read.0; each = tt; closing = tt }, refl)) in
      subst (Grows stages.Start words) to all

  closes : (o : Opening) (ls : List Line) (held : ℕ) (words : List Word) (c : Closing) (next : Stage) → IsGoodStage total near (stages.Lines o ls held)
      → read_closing words ≡ Ok c
      → stages.End o ls c ≡ next → Grows (stages.Lines o ls held) words next
  closes o ls held words c next good is to =
      let read = closing_read words c is in
      let all : Grows (stages.Lines o ls held) words (stages.End o ls c) = (
        ap (λ (ws : List Word). opening_words o ∷ (map line_words ls ++ ws ∷ [])) (sym read.1),
        record { opening = good.0.opening; each = good.0.each; closing = read.0 },
      ) in
      subst (Grows (stages.Lines o ls held) words) to all

  one_more : (o : Opening) (ls : List Line) (held : ℕ) (words : List Word) (next : Stage) → total < 2 ^ 64 → IsGoodStage total near (stages.Lines o ls held)
      → (read_line total near held words >>= λ line. Ok (line_more o ls held line)) ≡ Ok next → Grows (stages.Lines o ls held) words next
  one_more o ls held words next few good is =
      let step = then_ok (read_line total near held words) (λ line. Ok (line_more o ls held line)) next is in
      let line = step.0 in
      let read = (lines_have_one_spelling total near held words line few).0 step.1 in
      let in_range : IsInRange total near (held_after o.bound ls) line = subst (λ (n : ℕ). IsInRange total near n line) good.1 read.0 in
      let after : held_with held line ≡ held_after o.bound (ls ++ line ∷ []) = ap (λ (n : ℕ). held_with n line) good.1 ∙ sym (held_push o.bound ls line) in
      let to : line_more o ls held line ≡ next = let oks : Ok (line_more o ls held line) ≡ Ok next = step.2 in cc in
      let all : Grows (stages.Lines o ls held) words (line_more o ls held line) = (
        ap (λ (xs : List (List Word)). opening_words o ∷ xs) (map-append line_words ls (line ∷ []))
            ∙ ap (λ (ws : List Word). opening_words o ∷ (map line_words ls ++ ws ∷ [])) (sym read.1),
        (record { opening = good.0.opening; each = in_range_push o.bound ls line good.0.each in_range; closing = tt }, after),
      ) in
      subst (Grows (stages.Lines o ls held) words) to all

  after_lines : (o : Opening) (ls : List Line) (held : ℕ) (words : List Word) (end : Result Closing Fault) (next : Stage) → total < 2 ^ 64
      → IsGoodStage total near (stages.Lines o ls held)
      → read_closing words ≡ end → end_or_line o ls held end (read_line total near held words) ≡ Ok next → Grows (stages.Lines o ls held) words next
  after_lines o ls held words (Ok c) next few good end is = closes o ls held words c next good end (let oks : Ok (stages.End o ls c) ≡ Ok next = is in cc)
  after_lines o ls held words (Err fault) next few good end is = one_more o ls held words next few good is

  pub says_more : (stage : Stage) (words : List Word) (next : Stage) → total < 2 ^ 64 → IsGoodStage total near stage → says total near stage words ≡ Ok next
      → Grows stage words next
  says_more stages.Start words next few good is = begins words next is
  says_more (stages.Lines o ls held) words next few good is = after_lines o ls held words (read_closing words) next few good refl is
  says_more (stages.End o ls c) words next few good is = absurd cc

  -- all lines that were read
  pub all_lines : (all : List (List Word)) (stage last : Stage) → total < 2 ^ 64 → IsGoodStage total near stage
      → follow_all (says total near) stage all ≡ Ok last
      → (lines_to last ≡ lines_to stage ++ all) × IsGoodStage total near last
  all_lines [] stage last few good is =
      let same_stage : stage ≡ last = cc in
      subst (λ (z : Stage). (lines_to z ≡ lines_to stage ++ []) × IsGoodStage total near z) same_stage (sym (append-nil (lines_to stage)), good)
  all_lines (words ∷ all) stage last few good is =
      let step = then_ok (says total near stage words) (λ next. follow_all (says total near) next all) last is in
      let one = says_more stage words step.0 few good step.1 in
      let more = all_lines all step.0 last few one.1 step.2 in
      (more.0 ∙ ap (λ (xs : List (List Word)). xs ++ all) one.0 ∙ append_assoc (lines_to stage) (words ∷ []) all, more.1)
