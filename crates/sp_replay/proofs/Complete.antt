-- A schedule of which nothing is forged is run to its end, and a text with a bad line is refused.
use Rattle.std.proofs.Common.{◌≡◌, ◌++◌, ◌∷◌, ℕ, Bool, false, List, length, take, nat_lt, Option, Some, None, inl, refl, sym, ap, subst, arith}
use Rattle.std.proofs.lemmas.Bool.Decides.{nat_tests}
use Rattle.laws_runs_format.specs.Unforged.{NothingForged}
use Rattle.sp_base.specs.declared.limits.TheConstants.{MAX_INPUT_BYTES}
use Rattle.sp_runs.specs.declared.what.What.{What}
use Rattle.sp_schedule.specs.declared.stage.Ending.{Ending}
use Rattle.sp_schedule.specs.declared.stage.Ending.TheVariants as endings
use Rattle.sp_schedule.specs.declared.stage.Reading.{Reading}
use Rattle.sp_schedule.specs.declared.stage.Stage.{Stage}
use Rattle.sp_schedule.specs.declared.stage.Stage.TheVariants as stages
use Rattle.sp_schedule.specs.Laws.{GoodTextsAreRead, OneReading}
use Rattle.sp_schedule.specs.Readings.{IsReading}
use Rattle.sp_schedule_events.specs.declared.scenario.Scenario.{Scenario}
use Rattle.sp_schedule_events.specs.declared.event.Event.{Event}
use Rattle.sp_world.specs.Past.{Past}
use Rattle.sp_words.specs.declared.status.Status.{Status}
use Rattle.sp_words.specs.declared.status.Status.TheVariants as statuses
use Rattle.sp_replay.specs.Complete.{HasBadLine, IsCompleteReplay, IsHonest, IsUnforged}
use Rattle.sp_replay.specs.Outputs.{First_bad_line, First_forgery, IsForgedIn, IsOutput, IsRead, Spells, Whole_journal}
use Rattle.sp_replay.proofs.Outputs.{refused_spells_none, short_text}

-- ---- readings

-- a schedule's text is read to its end
spelled_is_read : GoodTextsAreRead → (text : List ℕ) (s : Scenario) (es : List Event) → Spells text s es → IsRead text (stages.End s es) endings.Whole
spelled_is_read good text s es spells =
    let within = spells.size in
    let short : nat_lt MAX_INPUT_BYTES (length text) ≡ false = grind (arith, nat_tests) in
    let read : Reading = record { stage = stages.End s es; ending = endings.Whole } in
    let all = subst (λ (t : List ℕ). IsReading t false read) (sym spells.spelled) (good s es spells.schedule) in
    let P : Bool → Type 0 = λ b. IsReading (take MAX_INPUT_BYTES text) b read in
    subst P (sym short) (subst (λ (t : List ℕ). IsReading t false read) (sym (short_text text short)) all)

-- a text has one stage
one_stage : OneReading → (text : List ℕ) (a b : Stage) (x y : Ending) → IsRead text a x → IsRead text b y → a ≡ b
one_stage one text a b x y first second =
    let r : Reading = record { stage = a; ending = x } in
    let q : Reading = record { stage = b; ending = y } in
    ap (λ (z : Reading). z.stage) (one (take MAX_INPUT_BYTES text) (nat_lt MAX_INPUT_BYTES (length text)) r q first second)

-- ---- forgery

-- what is forged stands among these events
never_forged : (s : Scenario) (es : List Event) (past : Past) (event : Event) (rest : List Event) → (s ≡ past.scenario) × (es ≡ past.events ++ event ∷ rest)
    → NothingForged s es
    → NothingForged past.scenario (past.events ++ event ∷ rest)
never_forged s es past event rest same unforged =
    let P : Scenario → Type 0 = λ t. NothingForged t (past.events ++ event ∷ rest) in
    subst P same.0 (subst (λ (fs : List Event). NothingForged s fs) same.1 unforged)

-- no event of a stage is forged of which none is
pub none_forged : (stage : Stage) (past : Past) (number : ℕ) (what : What) → IsUnforged stage → IsForgedIn stage past number what → ⊥
none_forged (stages.Events s es) past number what unforged f =
    never_forged s es past f.event f.rest f.events unforged past.events f.event f.rest past.journal f.next.world what refl f.next.run f.next.forged
none_forged (stages.End s es) past number what unforged f =
    never_forged s es past f.event f.rest f.events unforged past.events f.event f.rest past.journal f.next.world what refl f.next.run f.next.forged
none_forged stages.Start past number what unforged f = f.events
none_forged (stages.Version format) past number what unforged f = f.events
none_forged (stages.Seed format seed) past number what unforged f = f.events
none_forged (stages.Height format seed height) past number what unforged f = f.events
none_forged (stages.Bounds format seed height limits) past number what unforged f = f.events
none_forged (stages.Edges s) past number what unforged f = f.events
none_forged (stages.Bads s) past number what unforged f = f.events
none_forged (stages.Epochs s) past number what unforged f = f.events

-- ---- what must be done

honest_is_done : GoodTextsAreRead → OneReading → (text : List ℕ) → IsHonest text → (past : Option Past) (status : Status) (out : List ℕ)
    → IsOutput (Some text) past status out → status ≡ statuses.Done
honest_is_done good one text honest past status out (Whole_journal run going reads) = refl
honest_is_done good one text honest past status out (First_bad_line run line kind is) = absurd (is.bad honest.scenario honest.events honest.spells)
honest_is_done good one text honest past status out (First_forgery run number what is) =
    let read = spelled_is_read good text honest.scenario honest.events honest.spells in
    let same : is.stage ≡ stages.End honest.scenario honest.events =
    one_stage one text is.stage (stages.End honest.scenario honest.events) is.ending endings.Whole is.reading read in
    absurd (none_forged (stages.End honest.scenario honest.events) run number what honest.unforged
    (subst (λ (p : Stage). IsForgedIn p run number what) same is.forged))

bad_is_refused : GoodTextsAreRead → OneReading → (text : List ℕ) → HasBadLine text → (past : Option Past) (status : Status) (out : List ℕ)
    → IsOutput (Some text) past status out → status ≡ statuses.Refused
bad_is_refused good one text bad past status out (Whole_journal run going reads) =
    absurd (refused_spells_none good one text bad.stage bad.line bad.kind bad.reading run.scenario run.events reads)
bad_is_refused good one text bad past status out (First_bad_line run line kind is) = refl
bad_is_refused good one text bad past status out (First_forgery run number what is) =
    let same : is.stage ≡ bad.stage = one_stage one text is.stage bad.stage is.ending (endings.Refused bad.line bad.kind) is.reading bad.reading in
    absurd (none_forged bad.stage run number what bad.unforged (subst (λ (p : Stage). IsForgedIn p run number what) same is.forged))

-- an output that was written whole is that of a complete run
pub complete_output : GoodTextsAreRead → OneReading → (left : Option (List ℕ)) (past : Option Past) (status : Status) (out : List ℕ)
    → IsOutput left past status out → IsCompleteReplay left status
complete_output good one None past status out is = record { honest = λ tells. absurd tells; bad = λ tells. absurd tells }
complete_output good one (Some text) past status out is = record {
  honest = λ tells. inl (honest_is_done good one text tells past status out is);
  bad = λ tells. inl (bad_is_refused good one text tells past status out is);
}
