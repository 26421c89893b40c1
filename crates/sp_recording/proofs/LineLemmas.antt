-- Lines, their rows and their words.
use Rattle.std.proofs.Common.{◌≡◌, ◌<◌, ℕ, ◌^◌, Bool, true, List, [], ◌∷◌, Option, Some, None, Ok, inl, inr, refl, sym, subst, ◌∙◌, arith}
use Rattle.std.specs.Prelude.{find, nat_lt}
use Rattle.std.proofs.lemmas.Bool.{cases_Bool}
use Rattle.std.proofs.lemmas.Bool.Decides.{nat_tests}
use Rattle.sp_base.proofs.RefusalLemmas.{then_ok}
use Rattle.sp_base.specs.declared.id.NodeId.{NodeId}
use Rattle.sp_text.specs.Spelling.{Word}
use Rattle.sp_lines.specs.Rows.{AreIn, Values, fits, row_at, spelled}
use Rattle.sp_lines.specs.Widths.{is_good_row}
use Rattle.sp_lines.proofs.RowLemmas.{fit_parts, row_back, row_read}
use Rattle.sp_lines.proofs.TextLemmas.{IsGoodLine}
use Rattle.sp_lines.proofs.WidthLemmas.{good_row_line, good_row_room}
use Rattle.sp_recording.specs.LineTable as forms
use Rattle.sp_recording.specs.LineTable.{Form, IsInRange, cells, form_for, form_of, line_with, read_for, read_form, read_line, values_of}
use Rattle.sp_recording.specs.Laws.{LinesHaveOneSpelling}
use Rattle.sp_recording.specs.RecordingText.{line_words}
use Rattle.sp_recording.specs.declared.line.Line.{Line}
use Rattle.sp_recording.specs.declared.line.Line.TheVariants as lines

module _ (total : ℕ) (near : List NodeId) (held : ℕ) where
  -- a line is that of its row with its values
  line_back : (l : Line) → line_with total near held (form_of l) (values_of total near held l) ≡ l
  line_back (lines.Reserve upto) = refl
  line_back (lines.Tick now told) = refl
  line_back (lines.Overlay node bytes told) = refl
  line_back (lines.Stray from) = refl
  line_back (lines.Client from bytes told) = refl
  line_back (lines.Poll node told) = refl

  -- its words are those of its row
  row_words : (l : Line) → spelled (cells total near held (form_of l)) (values_of total near held l) ≡ line_words l
  row_words (lines.Reserve upto) = refl
  row_words (lines.Tick now told) = refl
  row_words (lines.Overlay node bytes told) = refl
  row_words (lines.Stray from) = refl
  row_words (lines.Client from bytes told) = refl
  row_words (lines.Poll node told) = refl

  -- and they fit that row, and none before it
  form_again : (l : Line) → form_for total near held (line_words l) ≡ Some (form_of l)
  form_again (lines.Reserve upto) = refl
  form_again (lines.Tick now told) = refl
  form_again (lines.Overlay node bytes told) = refl
  form_again (lines.Stray from) = refl
  form_again (lines.Client from bytes told) = refl
  form_again (lines.Poll node told) = refl

  -- the words of a row's values are those of its line, which is in the same ranges
  record IsOfForm (form : Form) (xs : Values (cells total near held form)) : Type 0 where
    words : line_words (line_with total near held form xs) ≡ spelled (cells total near held form) xs
    ranges : AreIn (cells total near held form) xs → IsInRange total near held (line_with total near held form xs)

  of_form : (form : Form) (xs : Values (cells total near held form)) → IsOfForm form xs
  of_form forms.Reserve xs = record { words = refl; ranges = λ are. are }
  of_form forms.Tick xs = record { words = refl; ranges = λ are. are }
  of_form forms.Overlay xs = record { words = refl; ranges = λ are. are }
  of_form forms.Stray xs = record { words = refl; ranges = λ are. are }
  of_form forms.Client xs = record { words = refl; ranges = λ are. are }
  of_form forms.Poll xs = record { words = refl; ranges = λ are. are }

  good_form : (form : Form) → total < 2 ^ 64 → is_good_row (cells total near held form) ≡ true
  good_form form few = go form
    where
      room : nat_lt total (2 ^ 64) ≡ true
      room = grind (arith, nat_tests, few)

      go : (f : Form) → is_good_row (cells total near held f) ≡ true
      go forms.Reserve = rw room refl
      go forms.Tick = refl
      go forms.Overlay = refl
      go forms.Stray = refl
      go forms.Client = refl
      go forms.Poll = refl

  -- the line can be read
  pub good_line : (l : Line) → total < 2 ^ 64 → IsInRange total near held l → IsGoodLine (line_words l)
  good_line l few is =
      subst IsGoodLine (row_words l) (good_row_line (cells total near held (form_of l)) (values_of total near held l) (good_form (form_of l) few) is)

  -- the row that was found is fitted
  found_fits : {F : Type 0} (test : F → Bool) (all : List F) (found : F) → find test all ≡ Some found → test found ≡ true
  found_fits test [] found is = absurd cc
  found_fits test (x ∷ all) found is =
      elim (cases_Bool (test x)) [
        | inl passes ↦ (let here : Some x ≡ Some found = rw passes at is in let same_form : x ≡ found = cc in rw same_form at passes)
        | inr fails ↦ found_fits test all found (rw fails at is)
      ]

  form_read : (form : Form) (words : List Word) (l : Line) → fits (cells total near held form) words ≡ true → read_form total near held form words ≡ Ok l
      → IsInRange total near held l × (words ≡ line_words l)
  unfolding read_form
  form_read form words l fit read =
      let step = then_ok (row_at (cells total near held form) words) (λ xs. Ok (line_with total near held form xs)) l read in
      let parts = fit_parts (cells total near held form) words fit in
      let row = row_read (cells total near held form) words step.0 parts.0 parts.1 step.1 in
      let of = of_form form step.0 in
      let is : line_with total near held form step.0 ≡ l = let same_ok : Ok (line_with total near held form step.0) ≡ Ok l = step.2 in cc in
      let all : IsInRange total near held (line_with total near held form step.0) × (words ≡ line_words (line_with total near held form step.0)) =
      (of.ranges row.0, row.1 ∙ sym of.words) in
      subst (λ (k : Line). IsInRange total near held k × (words ≡ line_words k)) is all

  line_read : (words : List Word) (l : Line) (found : Option Form) → form_for total near held words ≡ found → read_for total near held found words ≡ Ok l
      → IsInRange total near held l × (words ≡ line_words l)
  line_read words l None is read = absurd cc
  line_read words l (Some form) is read = form_read form words l (found_fits (λ f. fits (cells total near held f) words) forms.forms form is) read

  line_back_read : (l : Line) → total < 2 ^ 64 → IsInRange total near held l → read_line total near held (line_words l) ≡ Ok l
  unfolding read_form
  line_back_read l few is =
      let row = row_back (cells total near held (form_of l)) (values_of total near held l)
      (good_row_room (cells total near held (form_of l)) (good_form (form_of l) few)) is in
      let at : row_at (cells total near held (form_of l)) (line_words l) ≡ Ok (values_of total near held l) =
      subst (λ (ws : List Word). row_at (cells total near held (form_of l)) ws ≡ Ok (values_of total near held l)) (row_words l) row in
      rw (form_again l) (rw at (rw (line_back l) refl))

pub lines_have_one_spelling : LinesHaveOneSpelling
lines_have_one_spelling total near held words l few = (
  λ read. line_read total near held words l (form_for total near held words) refl read,
  λ is. rw is.1 (line_back_read total near held l few is.0),
)
