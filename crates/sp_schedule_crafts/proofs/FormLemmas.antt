-- The table of forms, whose names and counts are those of its forms.
use Rattle.std.proofs.Common.{◌≡◌, ℕ, ◌==◌, ◌&&◌, List, [], ◌∷◌, map, Bor, refl, inl, inr}
use Rattle.std.specs.Prelude.{find, option_map}
use Rattle.std.proofs.lemmas.Bool.{cases_Bool}
use Rattle.sp_text.specs.Spelling.{Word}
use Rattle.sp_lines.specs.Cells.{same}
use Rattle.sp_schedule_crafts.specs.Objects.{has_form}
use Rattle.sp_schedule_crafts.specs.Reading.{count, form_among, name}
use Rattle.sp_schedule_crafts.specs.declared.form.ObjectForm.{ObjectForm}

-- a search among rows is one among their forms, where each row has the name and the count of its form
pub rows_are_forms : (format : ℕ) (word : Word) (words : ℕ) (rows : List (Bor Word × ℕ × ObjectForm))
    → map (λ r. r.0.now) rows ≡ map (λ r. name r.2) rows → map (λ r. r.1) rows ≡ map (λ r. count r.2) rows
    → option_map (λ r. r.2) (find (λ r. (same word r.0.now && (words == r.1)) && has_form format r.2) rows)
    ≡ form_among (map (λ r. r.2) rows) format word words
rows_are_forms format word words [] names counts = refl
rows_are_forms format word words (row ∷ rows) names counts =
    let named : row.0.now ≡ name row.2 = cc in
    let counted : row.1 ≡ count row.2 = cc in
    let more_names : map (λ r. r.0.now) rows ≡ map (λ r. name r.2) rows = cc in
    let more_counts : map (λ r. r.1) rows ≡ map (λ r. count r.2) rows = cc in
    elim (cases_Bool ((same word (name row.2) && (words == count row.2)) && has_form format row.2)) [
      | inl t ↦ rw (named, counted, t) refl
      | inr t ↦ rw (named, counted, t) (rows_are_forms format word words rows more_names more_counts)
    ]
