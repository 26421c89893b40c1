-- The lines of a recording lead to its end, each good in its place.
use Rattle.std.proofs.Common.{◌≡◌, ◌<◌, ◌^◌, ℕ, List, [], ◌∷◌, ◌++◌, map, Option, Some, None, Result, Ok, Err, refl, sym, subst, append_assoc, append-nil}
use Rattle.std.specs.Prelude.{All}
use Rattle.std.proofs.lemmas.List.Elements.{All-append, All-cons, All-nil}
use Rattle.sp_base.specs.declared.id.NodeId.{NodeId}
use Rattle.sp_base.proofs.RefusalLemmas.{then_ok}
use Rattle.sp_text.specs.Spelling.{Word}
use Rattle.sp_lines.specs.Texts.{follow_all}
use Rattle.sp_lines.specs.declared.fault.Fault.{Fault}
use Rattle.sp_lines.specs.declared.fault.Fault.TheVariants as faults
use Rattle.sp_lines.proofs.TextLemmas.{IsGoodLine}
use Rattle.sp_recording.specs.LineTable.{IsInRange, read_line}
use Rattle.sp_recording.specs.OuterRows.{read_closing}
use Rattle.sp_recording.specs.Reading.{AreInRange, IsRecording, end_or_line, held_after, held_with, line_more, says, stage_of}
use Rattle.sp_recording.specs.RecordingText.{closing_words, line_words, opening_words, recording_lines}
use Rattle.sp_recording.specs.declared.line.Closing.{Closing}
use Rattle.sp_recording.specs.declared.line.Line.{Line}
use Rattle.sp_recording.specs.declared.line.Line.TheVariants as lines
use Rattle.sp_recording.specs.declared.line.Opening.{Opening}
use Rattle.sp_recording.specs.declared.stage.Stage.{Stage}
use Rattle.sp_recording.specs.declared.stage.Stage.TheVariants as stages
use Rattle.sp_recording.proofs.LineLemmas.{good_line, lines_have_one_spelling}
use Rattle.sp_recording.proofs.OuterLemmas.{closing_back, good_closing, good_opening, opening_back}

-- the words of a line aren't those of an end line
end_not : (line : Line) → read_closing (line_words line) ≡ Err faults.Form
end_not (lines.Reserve upto) = refl
end_not (lines.Tick now told) = refl
end_not (lines.Overlay node bytes told) = refl
end_not (lines.Stray from) = refl
end_not (lines.Client from bytes told) = refl
end_not (lines.Poll node told) = refl

module _ (total : ℕ) (near : List NodeId) (few : total < 2 ^ 64) where
  -- these lines, which can be read, lead from one stage to another
  pub record Follows (stage : Stage) (all : List (List Word)) (last : Stage) : Type 0 where
    pub good : All IsGoodLine all
    pub follows : follow_all (says total near) stage all ≡ Ok last

  none : (stage : Stage) → Follows stage [] stage
  none stage = record { good = All-nil IsGoodLine; follows = refl }

  one : (stage next : Stage) (words : List Word) → IsGoodLine words → says total near stage words ≡ Ok next → Follows stage (words ∷ []) next
  one stage next words good is = record { good = All-cons IsGoodLine words [] good (All-nil IsGoodLine); follows = rw is refl }

  follow_then : (front back : List (List Word)) (stage mid last : Stage) → follow_all (says total near) stage front ≡ Ok mid
      → follow_all (says total near) mid back ≡ Ok last
      → follow_all (says total near) stage (front ++ back) ≡ Ok last
  follow_then [] back stage mid last first second = let at : stage ≡ mid = cc in
      subst (λ (z : Stage). follow_all (says total near) z back ≡ Ok last) (sym at) second
  follow_then (words ∷ front) back stage mid last first second =
      let step = then_ok (says total near stage words) (λ next. follow_all (says total near) next front) mid first in
      rw step.1 (follow_then front back step.0 mid last step.2 second)

  both : (front back : List (List Word)) (stage mid last : Stage) → Follows stage front mid → Follows mid back last → Follows stage (front ++ back) last
  both front back stage mid last first second = record {
    good = All-append IsGoodLine front back first.good second.good;
    follows = follow_then front back stage mid last first.follows second.follows;
  }

  one_line : (o : Opening) (ls : List Line) (held : ℕ) (line : Line) → IsInRange total near held line
      → says total near (stages.Lines o ls held) (line_words line) ≡ Ok (line_more o ls held line)
  one_line o ls held line is =
      let read : read_line total near held (line_words line) ≡ Ok line = (lines_have_one_spelling total near held (line_words line) line few).1 (is, refl) in
      go (read_closing (line_words line)) (read_line total near held (line_words line)) (end_not line) read
    where
      go : (end : Result Closing Fault) (r : Result Line Fault) → end ≡ Err faults.Form → r ≡ Ok line
          → end_or_line o ls held end r ≡ Ok (line_more o ls held line)
      go end r no_end read = rw (no_end, read) refl

  lines_follow : (o : Opening) (front back : List Line) (held : ℕ) → AreInRange total near held back
      → Follows (stages.Lines o front held) (map line_words back) (stages.Lines o (front ++ back) (held_after held back))
  lines_follow o front [] held are =
      subst (λ (ls : List Line). Follows (stages.Lines o front held) [] (stages.Lines o ls held)) (sym (append-nil front)) (none (stages.Lines o front held))
  lines_follow o front (line ∷ back) held are =
      let first = one (stages.Lines o front held) (line_more o front held line) (line_words line) (good_line total near held line few are.0)
      (one_line o front held line are.0) in
      let rest = lines_follow o (front ++ line ∷ []) back (held_with held line) are.1 in
      let all : Follows (line_more o front held line) (map line_words back) (stages.Lines o (front ++ line ∷ back) (held_after (held_with held line) back)) =
      subst (λ (ls : List Line). Follows (line_more o front held line) (map line_words back) (stages.Lines o ls (held_after (held_with held line) back)))
      (append_assoc front (line ∷ []) back) rest in
      both (line_words line ∷ []) (map line_words back) _ _ _ first all

  from_start : (o : Opening) (ls : List Line) (c : Option Closing) → IsRecording total near o ls c
      → Follows stages.Start (opening_words o ∷ map line_words ls) (stages.Lines o ls (held_after o.bound ls))
  from_start o ls c is =
      let first = one stages.Start (stages.Lines o [] o.bound) (opening_words o) (good_opening total o few is.opening)
      (rw (opening_back total o few is.opening) refl) in
      both (opening_words o ∷ []) (map line_words ls) _ _ _ first (lines_follow o [] ls o.bound is.each)

  -- a recording's lines lead to its stage
  pub recording_follows : (o : Opening) (ls : List Line) (c : Option Closing) → IsRecording total near o ls c
      → Follows stages.Start (recording_lines o ls c) (stage_of o ls c)
  recording_follows o ls None is = from_start o ls None is
  recording_follows o ls (Some c) is =
      let held = held_after o.bound ls in
      let end = one (stages.Lines o ls held) (stages.End o ls c) (closing_words c) (good_closing c is.closing) (rw (closing_back c is.closing) refl) in
      both (opening_words o ∷ map line_words ls) (closing_words c ∷ []) _ _ _ (from_start o ls (Some c) is) end
