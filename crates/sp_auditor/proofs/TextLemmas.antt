-- A file is one thing: the text of one schedule or of one journal, or bad at one line.
use Rattle.std.proofs.Common.{◌≡◌, ℕ, ◌++◌, true, false, List, [], Result, Ok, Err, refl, sym, ap, ◌∙◌}
use Rattle.sp_journal.specs.declared.entry.Entry.{Entry}
use Rattle.sp_journal_reading.specs.Reading.{IsRead}
use Rattle.sp_journal_reading.specs.declared.stage.JournalRefused.{JournalRefused}
use Rattle.sp_journal_reading.specs.declared.stage.JournalRefused.TheVariants as refusals
use Rattle.sp_journal_reading.proofs.LawLemmas as journals
use Rattle.sp_schedule.proofs.LawLemmas as schedules
use Rattle.sp_schedule.specs.Readings.{IsReading}
use Rattle.sp_schedule.specs.declared.refused.Kind.{Kind}
use Rattle.sp_schedule.specs.declared.stage.Ending.TheVariants as endings
use Rattle.sp_schedule.specs.declared.stage.Reading.{Reading}
use Rattle.sp_schedule.specs.declared.stage.Stage.TheVariants as stages
use Rattle.sp_schedule_events.specs.declared.event.Event.{Event}
use Rattle.sp_schedule_events.specs.declared.scenario.Scenario.{Scenario}
use Rattle.sp_auditor.specs.Causes.{HasPlain}
use Rattle.sp_auditor.specs.Texts.{File, IsBadJournal, IsBadSchedule, IsUnfit, TellsJournal, TellsSchedule}
use Rattle.sp_auditor.specs.declared.cause.Unfit.{Unfit}
use Rattle.sp_auditor.specs.declared.cause.Unfit.TheVariants as unfits

-- ---- schedules

-- a file is the text of one schedule
pub one_schedule : (f : File) (s t : Scenario) (es fs : List Event) → TellsSchedule f s es → TellsSchedule f t fs → (s ≡ t) × (es ≡ fs)
one_schedule f s t es fs a b =
    schedules.no_other_begins_there s t es fs [] [] a.good b.good (ap (λ (xs : List ℕ). xs ++ []) (sym a.is_text ∙ b.is_text))

-- as a whole text it has this reading
whole_reading : (f : File) (s : Scenario) (es : List Event) → TellsSchedule f s es
    → IsReading f.text f.is_cut (record { stage = stages.End s es; ending = endings.Whole })
whole_reading f s es a = rw (a.is_text, a.whole) (schedules.good_texts_are_read s es a.good)

same_ending : (a b : Reading) → a ≡ b → a.ending ≡ b.ending
same_ending a b same = ap (λ (r : Reading). r.ending) same

-- and no bad line
pub schedule_is_good : (f : File) (s : Scenario) (es : List Event) (line : ℕ) (kind : Kind) → TellsSchedule f s es → IsBadSchedule f line kind → ⊥
schedule_is_good f s es line kind a b =
    let same : endings.Whole ≡ endings.Refused line kind = same_ending _ _ (schedules.one_reading f.text f.is_cut _ _ (whole_reading f s es a) b.reading) in cc

-- a first bad line is one line, and bad for one reason
pub one_bad_schedule : (f : File) (l m : ℕ) (k n : Kind) → IsBadSchedule f l k → IsBadSchedule f m n → unfits.Bad l k ≡ unfits.Bad m n
one_bad_schedule f l m k n a b =
    let same : endings.Refused l k ≡ endings.Refused m n = same_ending _ _ (schedules.one_reading f.text f.is_cut _ _ a.reading b.reading) in cc

-- a schedule without epochs has no cause against it
pub plain_is_fit : (f : File) (unfit : Unfit) → HasPlain f → IsUnfit f unfit → ⊥
plain_is_fit f (unfits.Bad line kind) plain bad = schedule_is_good f plain.scenario plain.events line kind plain.tells.tells bad
plain_is_fit f unfits.Epochs plain epochs =
    let same = (one_schedule f plain.scenario epochs.scenario plain.events epochs.events plain.tells.tells epochs.tells).0 in
    let a : plain.scenario.epochs ≡ epochs.scenario.epochs = ap (λ (s : Scenario). s.epochs) same in
    let both : false ≡ true = sym plain.tells.plain ∙ a ∙ epochs.epochs in cc

-- there is one cause against a schedule
pub one_unfit : (f : File) (a b : Unfit) → IsUnfit f a → IsUnfit f b → a ≡ b
one_unfit f (unfits.Bad l k) (unfits.Bad m n) a b = one_bad_schedule f l m k n a b
one_unfit f (unfits.Bad l k) unfits.Epochs a b = absurd (schedule_is_good f b.scenario b.events l k b.tells a)
one_unfit f unfits.Epochs (unfits.Bad m n) a b = absurd (schedule_is_good f a.scenario a.events m n a.tells b)
one_unfit f unfits.Epochs unfits.Epochs a b = refl

-- ---- journals

-- a file is the text of one journal
pub one_journal : (f : File) (js ks : List Entry) → TellsJournal f js → TellsJournal f ks → js ≡ ks
one_journal f js ks a b = journals.no_other_begins_there js ks [] [] a.good b.good (ap (λ (xs : List ℕ). xs ++ []) (sym a.is_text ∙ b.is_text))

-- and no bad line
pub journal_is_good : (f : File) (js : List Entry) (line : ℕ) → TellsJournal f js → IsBadJournal f line → ⊥
journal_is_good f js line a b =
    let ok : Result (List Entry) JournalRefused = Ok js in
    let bad : Result (List Entry) JournalRefused = Err (refusals.Form line) in
    let read : IsRead f.text (Ok js) = rw a.is_text (journals.good_journals_are_read js a.good) in
    let same : ok ≡ bad = journals.one_reading f.text ok bad (λ is. cc) (λ is. cc) read b.bad in cc

-- a first bad line is one line
pub one_bad_journal : (f : File) (l m : ℕ) → IsBadJournal f l → IsBadJournal f m → l ≡ m
one_bad_journal f l m a b =
    let one : Result (List Entry) JournalRefused = Err (refusals.Form l) in
    let other : Result (List Entry) JournalRefused = Err (refusals.Form m) in
    let same : one ≡ other = journals.one_reading f.text one other (λ is. cc) (λ is. cc) a.bad b.bad in cc
