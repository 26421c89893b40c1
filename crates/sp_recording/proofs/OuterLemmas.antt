-- The first line and the end line, and their words.
use Rattle.std.proofs.Common.{◌≡◌, ◌≤◌, ◌<◌, ◌^◌, ℕ, true, List, Ok, inl, inr, refl, subst, arith}
use Rattle.std.specs.Prelude.{nat_le, nat_lt}
use Rattle.std.proofs.lemmas.Bool.{cases_Bool}
use Rattle.std.proofs.lemmas.Bool.Decides.{nat_tests}
use Rattle.sp_base.proofs.RefusalLemmas.{then_ok}
use Rattle.sp_text.specs.Spelling.{Word}
use Rattle.sp_lines.specs.Rows.{AreIn, line_of}
use Rattle.sp_lines.proofs.RowLemmas.{line_back, line_read}
use Rattle.sp_lines.proofs.TextLemmas.{IsGoodLine}
use Rattle.sp_lines.proofs.WidthLemmas.{good_row_line}
use Rattle.sp_recording.specs.OuterRows.{IsClosing, IsOpening, closing_cells, closing_of, closing_values, if_ordered, opening_cells, opening_of, opening_values}
use Rattle.sp_recording.specs.OuterRows.{read_closing, read_opening}
use Rattle.sp_recording.specs.RecordingText.{closing_words, opening_words}
use Rattle.sp_recording.specs.declared.line.Closing.{Closing}
use Rattle.sp_recording.specs.declared.line.Opening.{Opening}

ordered : (o p : Opening) → if_ordered o ≡ Ok p → (o ≡ p) × (o.index ≤ o.bound)
ordered o p is =
    elim (cases_Bool (nat_le o.index o.bound)) [
      | inl less ↦ (let same : Ok o ≡ Ok p = rw less at is in (cc, grind (arith, nat_tests, less)))
      | inr more ↦ absurd (let out = rw more at is in cc)
    ]

-- ---- the first line

pub opening_read : (total : ℕ) (words : List Word) (o : Opening) → read_opening total words ≡ Ok o → IsOpening total o × (words ≡ opening_words o)
opening_read total words o is =
    let step = then_ok (line_of (opening_cells total) words) (λ x. if_ordered (opening_of total x)) o is in
    let row = line_read (opening_cells total) words step.0 step.1 in
    let both = ordered (opening_of total step.0) o step.2 in
    let all : IsOpening total (opening_of total step.0) × (words ≡ opening_words (opening_of total step.0)) =
    (record { boot = (row.0.0, row.0.1); index = both.1; bound = row.0.2.2.1 }, row.1) in
    subst (λ (p : Opening). IsOpening total p × (words ≡ opening_words p)) both.0 all

opening_in : (total : ℕ) (o : Opening) → IsOpening total o → AreIn (opening_cells total) (opening_values total o)
opening_in total o is = (is.boot.0, is.boot.1, (omega arith, omega (arith, is.index, is.bound), (omega arith, is.bound, tt)))

pub opening_back : (total : ℕ) (o : Opening) → total < 2 ^ 64 → IsOpening total o → read_opening total (opening_words o) ≡ Ok o
opening_back total o few is =
    let row : line_of (opening_cells total) (opening_words o) ≡ Ok (opening_values total o) =
    line_back (opening_cells total) (opening_values total o) (omega arith, (few, (few, tt))) (opening_in total o is) in
    let less : nat_le o.index o.bound ≡ true = let h = is.index in grind (arith, nat_tests, h) in
    rw row (rw less refl)

pub good_opening : (total : ℕ) (o : Opening) → total < 2 ^ 64 → IsOpening total o → IsGoodLine (opening_words o)
good_opening total o few is =
    let room : nat_lt total (2 ^ 64) ≡ true = grind (arith, nat_tests, few) in
    good_row_line (opening_cells total) (opening_values total o) (rw room refl) (opening_in total o is)

-- ---- the end line

pub closing_read : (words : List Word) (c : Closing) → read_closing words ≡ Ok c → IsClosing c × (words ≡ closing_words c)
closing_read words c is =
    let step = then_ok (line_of closing_cells words) (λ x. Ok (closing_of x)) c is in
    let row = line_read closing_cells words step.0 step.1 in
    let same : closing_of step.0 ≡ c = let oks : Ok (closing_of step.0) ≡ Ok c = step.2 in cc in
    let all : IsClosing (closing_of step.0) × (words ≡ closing_words (closing_of step.0)) =
    (record { turns = (row.0.0, row.0.1); lost = omega (arith, row.0.2.1) }, row.1) in
    subst (λ (d : Closing). IsClosing d × (words ≡ closing_words d)) same all

closing_in : (c : Closing) → IsClosing c → AreIn closing_cells (closing_values c)
closing_in c is = (is.turns.0, is.turns.1, (omega arith, omega (arith, is.lost), tt))

pub closing_back : (c : Closing) → IsClosing c → read_closing (closing_words c) ≡ Ok c
closing_back c is =
    let row : line_of closing_cells (closing_words c) ≡ Ok (closing_values c) =
    line_back closing_cells (closing_values c) (omega arith, (omega arith, tt)) (closing_in c is) in
    rw row refl

pub good_closing : (c : Closing) → IsClosing c → IsGoodLine (closing_words c)
good_closing c is = good_row_line closing_cells (closing_values c) refl (closing_in c is)
