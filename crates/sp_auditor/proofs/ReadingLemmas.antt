-- A schedule that is read to its end is that of its text.
use Rattle.std.proofs.Common.{◌≡◌, ℕ, Bool, true, false, List, refl, sym, ap, subst, ◌∙◌, inl, inr}
use Rattle.std.proofs.lemmas.Bool.{cases_Bool}
use Rattle.sp_lines.specs.Texts.{Bad_words, No_words, Nothing_left, Stop}
use Rattle.sp_schedule.proofs.LawLemmas.{readings_are_of_their_text}
use Rattle.sp_schedule.specs.Readings.{IsReading, at_end, ending_of, no_words}
use Rattle.sp_schedule.specs.declared.refused.Kind.{Kind}
use Rattle.sp_schedule.specs.declared.stage.Ending.TheVariants as endings
use Rattle.sp_schedule.specs.declared.stage.Reading.{Reading}
use Rattle.sp_schedule.specs.declared.stage.Stage.{Stage}
use Rattle.sp_schedule.specs.declared.stage.Stage.TheVariants as stages
use Rattle.sp_schedule_events.specs.declared.event.Event.{Event}
use Rattle.sp_schedule_events.specs.declared.scenario.Scenario.{Scenario}
use Rattle.sp_text.specs.declared.place.TextRefused.{TextRefused}
use Rattle.sp_text.specs.declared.place.TextRefused.TheVariants as texts
use Rattle.sp_auditor.specs.Texts.{File, TellsSchedule}

-- a line that isn't words ends no text well
words_end : (is_cut : Bool) (line : ℕ) (refused : TextRefused) → no_words is_cut line refused ≡ endings.Whole → ⊥
words_end true line (texts.LineLong place) is = cc
words_end true line (texts.Cut place) is = cc
words_end true line (texts.BadWord place) is = cc
words_end true line (texts.BadNumber place) is = cc
words_end true line (texts.BadHex place) is = cc
words_end true line texts.Memory is = cc
words_end false line (texts.LineLong place) is = cc
words_end false line (texts.Cut place) is = cc
words_end false line (texts.BadWord place) is = cc
words_end false line (texts.BadNumber place) is = cc
words_end false line (texts.BadHex place) is = cc
words_end false line texts.Memory is = cc

-- no text ends well that is cut
cut_end : (stage : Stage) (line : ℕ) (stop : Stop Kind) → ending_of true stage line stop ≡ endings.Whole → ⊥
cut_end stage line Nothing_left is = cc
cut_end stage line (No_words refused) is = words_end true line refused is
cut_end stage line (Bad_words kind) is = cc

-- a text ends well only after its last line
good_end : (stage : Stage) (line : ℕ) → at_end stage line ≡ endings.Whole → (s : Scenario) × (es : List Event) × (stage ≡ stages.End s es)
good_end stages.Start line is = absurd (let no : ⊥ = cc in no)
good_end (stages.Version format) line is = absurd (let no : ⊥ = cc in no)
good_end (stages.Seed format seed) line is = absurd (let no : ⊥ = cc in no)
good_end (stages.Height format seed height) line is = absurd (let no : ⊥ = cc in no)
good_end (stages.Bounds format seed height limits) line is = absurd (let no : ⊥ = cc in no)
good_end (stages.Edges s) line is = absurd (let no : ⊥ = cc in no)
good_end (stages.Bads s) line is = absurd (let no : ⊥ = cc in no)
good_end (stages.Epochs s) line is = absurd (let no : ⊥ = cc in no)
good_end (stages.Events s es) line is = absurd (let no : ⊥ = cc in no)
good_end (stages.End s es) line is = (s, es, refl)

good_stop : (stage : Stage) (line : ℕ) (stop : Stop Kind) → ending_of false stage line stop ≡ endings.Whole
    → (s : Scenario) × (es : List Event) × (stage ≡ stages.End s es)
good_stop stage line Nothing_left is = good_end stage line is
good_stop stage line (No_words refused) is = absurd (words_end false line refused is)
good_stop stage line (Bad_words kind) is = absurd (let no : ⊥ = cc in no)

-- a text that is read to its end isn't cut
pub is_whole : (f : File) (r : Reading) → IsReading f.text f.is_cut r → r.ending ≡ endings.Whole → f.is_cut ≡ false
is_whole f r is whole = elim (cases_Bool f.is_cut) [
  | inl cut ↦ absurd (cut_end r.stage is.line is.stop (ap (λ (b : Bool). ending_of b r.stage is.line is.stop) (sym cut) ∙ sym is.ends ∙ whole))
  | inr not ↦ not
]

-- and its last line is read
pub is_at_end : (f : File) (r : Reading) → IsReading f.text f.is_cut r → r.ending ≡ endings.Whole
    → (s : Scenario) × (es : List Event) × (r.stage ≡ stages.End s es)
is_at_end f r is whole =
    good_stop r.stage is.line is.stop (ap (λ (b : Bool). ending_of b r.stage is.line is.stop) (sym (is_whole f r is whole)) ∙ sym is.ends ∙ whole)

-- it is the text of what was read
pub tells_schedule : (f : File) (r : Reading) (s : Scenario) (es : List Event) → IsReading f.text f.is_cut r → r.ending ≡ endings.Whole
    → r.stage ≡ stages.End s es
    → TellsSchedule f s es
tells_schedule f r s es is whole at =
    let uncut = is_whole f r is whole in
    let of = readings_are_of_their_text f.text r s es (subst (λ (b : Bool). IsReading f.text b r) uncut is) whole at in
    record { good = of.0; is_text = of.1; whole = uncut }
