-- Effects, their rows and their words.
use Rattle.std.proofs.Common.{◌≡◌, Bool, true, List, [], ◌∷◌, Option, Some, None, Ok, inl, inr, refl, sym, subst, ◌∙◌}
use Rattle.std.specs.Prelude.{find}
use Rattle.std.proofs.lemmas.Bool.{cases_Bool}
use Rattle.sp_base.proofs.RefusalLemmas.{then_ok}
use Rattle.sp_text.specs.Spelling.{Word}
use Rattle.sp_lines.specs.Rows.{AreIn, Values, fits, row_at, spelled}
use Rattle.sp_lines.specs.Widths.{is_good_row}
use Rattle.sp_lines.proofs.RowLemmas.{fit_parts, row_back, row_read}
use Rattle.sp_lines.proofs.WidthLemmas.{good_row_room}
use Rattle.sp_msg.specs.declared.effect.Effect.{Effect}
use Rattle.sp_msg.specs.declared.effect.Effect.TheVariants as effects
use Rattle.sp_msg.specs.declared.effect.Why.TheVariants as whys
use Rattle.sp_journal_reading.specs.declared.effect_line.Kind.TheVariants as kinds
use Rattle.sp_journal_reading.specs.EffectTable as forms
use Rattle.sp_journal_reading.specs.EffectTable.{Form, IsInRange, cells, effect_of, form_for, form_of, read_effect, read_for, read_form, values_of}
use Rattle.sp_journal_reading.specs.Laws.{EffectsHaveOneLine}
use Rattle.sp_journal.specs.Words.{effect_fields}

-- an effect is that of its row with its values
effect_back : (e : Effect) → effect_of (form_of e) (values_of e) ≡ e
effect_back (effects.Signed body) = refl
effect_back (effects.Stored at key src number prio) = refl
effect_back (effects.Gone at key whys.Evicted) = refl
effect_back (effects.Gone at key whys.Expired) = refl
effect_back (effects.Gone at key whys.Acked) = refl
effect_back (effects.Gone at key whys.Taken) = refl
effect_back (effects.Gone at key whys.Withdrawn) = refl
effect_back (effects.Delivered src number bytes) = refl
effect_back (effects.DeliveredPrio src number bytes) = refl
effect_back (effects.DeliveredKrel src number bytes) = refl
effect_back (effects.WeightHeld origin edge number weight) = refl
effect_back (effects.Ended flow) = refl
effect_back (effects.Kended flow) = refl
effect_back (effects.Version version) = refl

-- its words are those of its row
pub row_words : (e : Effect) → spelled (cells (form_of e)) (values_of e) ≡ effect_fields e
row_words (effects.Signed body) = refl
row_words (effects.Stored at key src number prio) = refl
row_words (effects.Gone at key whys.Evicted) = refl
row_words (effects.Gone at key whys.Expired) = refl
row_words (effects.Gone at key whys.Acked) = refl
row_words (effects.Gone at key whys.Taken) = refl
row_words (effects.Gone at key whys.Withdrawn) = refl
row_words (effects.Delivered src number bytes) = refl
row_words (effects.DeliveredPrio src number bytes) = refl
row_words (effects.DeliveredKrel src number bytes) = refl
row_words (effects.WeightHeld origin edge number weight) = refl
row_words (effects.Ended flow) = refl
row_words (effects.Kended flow) = refl
row_words (effects.Version version) = refl

-- and they fit that row, and none before it
form_again : (e : Effect) → form_for (effect_fields e) ≡ Some (form_of e)
form_again (effects.Signed body) = refl
form_again (effects.Stored at key src number prio) = refl
form_again (effects.Gone at key whys.Evicted) = refl
form_again (effects.Gone at key whys.Expired) = refl
form_again (effects.Gone at key whys.Acked) = refl
form_again (effects.Gone at key whys.Taken) = refl
form_again (effects.Gone at key whys.Withdrawn) = refl
form_again (effects.Delivered src number bytes) = refl
form_again (effects.DeliveredPrio src number bytes) = refl
form_again (effects.DeliveredKrel src number bytes) = refl
form_again (effects.WeightHeld origin edge number weight) = refl
form_again (effects.Ended flow) = refl
form_again (effects.Kended flow) = refl
form_again (effects.Version version) = refl

-- the words of a row's values are those of its effect, which are in the same ranges
record IsOfForm (form : Form) (xs : Values (cells form)) : Type 0 where
  words : effect_fields (effect_of form xs) ≡ spelled (cells form) xs
  ranges : AreIn (cells form) xs → IsInRange (effect_of form xs)

of_form : (form : Form) (xs : Values (cells form)) → IsOfForm form xs
of_form forms.Signed xs = record { words = refl; ranges = λ are. are }
of_form forms.Stored xs = record { words = refl; ranges = λ are. are }
of_form (forms.Gone whys.Evicted) xs = record { words = refl; ranges = λ are. are }
of_form (forms.Gone whys.Expired) xs = record { words = refl; ranges = λ are. are }
of_form (forms.Gone whys.Acked) xs = record { words = refl; ranges = λ are. are }
of_form (forms.Gone whys.Taken) xs = record { words = refl; ranges = λ are. are }
of_form (forms.Gone whys.Withdrawn) xs = record { words = refl; ranges = λ are. are }
of_form (forms.Delivered kinds.Rel) xs = record { words = refl; ranges = λ are. are }
of_form (forms.Delivered kinds.Prio) xs = record { words = refl; ranges = λ are. are }
of_form (forms.Delivered kinds.Krel) xs = record { words = refl; ranges = λ are. are }
of_form forms.Weight xs = record { words = refl; ranges = λ are. are }
of_form forms.Ended xs = record { words = refl; ranges = λ are. are }
of_form forms.Kended xs = record { words = refl; ranges = λ are. are }
of_form forms.Version xs = record { words = refl; ranges = λ are. are }

good_form : (form : Form) → is_good_row (cells form) ≡ true
good_form forms.Signed = refl
good_form forms.Stored = refl
good_form (forms.Gone whys.Evicted) = refl
good_form (forms.Gone whys.Expired) = refl
good_form (forms.Gone whys.Acked) = refl
good_form (forms.Gone whys.Taken) = refl
good_form (forms.Gone whys.Withdrawn) = refl
good_form (forms.Delivered kinds.Rel) = refl
good_form (forms.Delivered kinds.Prio) = refl
good_form (forms.Delivered kinds.Krel) = refl
good_form forms.Weight = refl
good_form forms.Ended = refl
good_form forms.Kended = refl
good_form forms.Version = refl

-- the row that was found is fitted
pub found_fits : {F : Type 0} (test : F → Bool) (all : List F) (found : F) → find test all ≡ Some found → test found ≡ true
found_fits test [] found is = absurd cc
found_fits test (x ∷ all) found is =
    elim (cases_Bool (test x)) [
      | inl passes ↦ (let here : Some x ≡ Some found = rw passes at is in let same_form : x ≡ found = cc in rw same_form at passes)
      | inr fails ↦ found_fits test all found (rw fails at is)
    ]

form_read : (form : Form) (words : List Word) (e : Effect) → fits (cells form) words ≡ true → read_form form words ≡ Ok e
    → IsInRange e × (words ≡ effect_fields e)
unfolding read_form
form_read form words e fit read =
    let step = then_ok (row_at (cells form) words) (λ xs. Ok (effect_of form xs)) e read in
    let parts = fit_parts (cells form) words fit in
    let row = row_read (cells form) words step.0 parts.0 parts.1 step.1 in
    let of = of_form form step.0 in
    let is : effect_of form step.0 ≡ e = let same_ok : Ok (effect_of form step.0) ≡ Ok e = step.2 in cc in
    let all : IsInRange (effect_of form step.0) × (words ≡ effect_fields (effect_of form step.0)) = (of.ranges row.0, row.1 ∙ sym of.words) in
    subst (λ (f : Effect). IsInRange f × (words ≡ effect_fields f)) is all

effect_read : (words : List Word) (e : Effect) (found : Option Form) → form_for words ≡ found → read_for found words ≡ Ok e
    → IsInRange e × (words ≡ effect_fields e)
effect_read words e None is read = absurd cc
effect_read words e (Some form) is read = form_read form words e (found_fits (λ f. fits (cells f) words) forms.forms form is) read

effect_back_read : (e : Effect) → IsInRange e → read_effect (effect_fields e) ≡ Ok e
unfolding read_form
effect_back_read e is =
    let row = row_back (cells (form_of e)) (values_of e) (good_row_room (cells (form_of e)) (good_form (form_of e))) is in
    let at : row_at (cells (form_of e)) (effect_fields e) ≡ Ok (values_of e) =
    subst (λ (ws : List Word). row_at (cells (form_of e)) ws ≡ Ok (values_of e)) (row_words e) row in
    rw (form_again e) (rw at (rw (effect_back e) refl))

pub effects_have_one_line : EffectsHaveOneLine
effects_have_one_line words e =
    (λ read. effect_read words e (form_for words) refl read, λ is. rw is.1 (effect_back_read e is.0))
