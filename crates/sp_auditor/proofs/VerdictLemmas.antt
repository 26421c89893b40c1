-- Two files have one verdict.
use Rattle.std.proofs.Common.{◌≡◌, ℕ, ◌<◌, ◌≤◌, true, false, List, length, take, refl, sym, ap, subst, ◌∙◌, arith}
use Rattle.std.specs.Prelude.{nat_lt}
use Rattle.std.proofs.lemmas.Bool.{le-ltb}
use Rattle.std.proofs.lemmas.List.{take_all}
use Rattle.laws_runs.specs.Good.{AreGood}
use Rattle.sp_audit.specs.Refusals.{IsFirstBroken}
use Rattle.sp_base.specs.declared.limits.TheConstants.{MAX_INPUT_BYTES}
use Rattle.sp_journal.specs.JournalText.{journal_text}
use Rattle.sp_journal.specs.declared.entry.Entry.{Entry}
use Rattle.sp_runs.specs.Scenarios.{setting_of}
use Rattle.sp_runs.specs.Settings.{Setting}
use Rattle.sp_schedule.specs.Spelling.{schedule_text}
use Rattle.sp_schedule_events.specs.declared.event.Event.{Event}
use Rattle.sp_schedule_events.specs.declared.scenario.Scenario.{Scenario}
use Rattle.sp_auditor.specs.Causes.{IsCause}
use Rattle.sp_auditor.specs.Laws.{IsRun, TextsHaveTheirVerdict}
use Rattle.sp_auditor.specs.Texts.{File, TellsJournal, TellsPlain, file_up_to}
use Rattle.sp_auditor.specs.Verdicts.{IsBroken, IsKept, IsVerdict, TellsRun}
use Rattle.sp_auditor.specs.declared.cause.Cause.{Cause}
use Rattle.sp_auditor.specs.declared.cause.Cause.TheVariants as causes
use Rattle.sp_auditor.specs.declared.journal.TheConstants.{MAX_JOURNAL_BYTES}
use Rattle.sp_auditor.specs.declared.verdict.Verdict.{Verdict}
use Rattle.sp_auditor.specs.declared.verdict.Verdict.TheVariants as verdicts
use Rattle.sp_auditor.proofs.TextLemmas.{journal_is_good, one_bad_journal, one_journal, one_schedule, one_unfit, plain_is_fit}

-- two files tell one run
one_run : (schedule journal : File) (s t : Scenario) (es fs : List Event) (js ks : List Entry) → TellsPlain schedule s es → TellsPlain schedule t fs
    → TellsJournal journal js → TellsJournal journal ks → (P : Scenario → List Event → List Entry → Type 0) → P s es js → P t fs ks
one_run schedule journal s t es fs js ks a b c d P is =
    let same = one_schedule schedule s t es fs a.tells b.tells in
    let third = one_journal journal js ks c d in
    subst (λ (x : Scenario). P x fs ks) same.0 (subst (λ (xs : List Event). P s xs ks) same.1 (subst (λ (xs : List Entry). P s es xs) third is))

-- no event is broken where none breaks a promise
not_broken : (x : Setting) (es : List Event) (js : List Entry) (n : ℕ) → AreGood x es js → IsFirstBroken x es js n → ⊥
not_broken x es js n good first = first.broken (good n)

-- one event is the first
one_first : (x : Setting) (es : List Event) (js : List Entry) (m n : ℕ) → IsFirstBroken x es js m → IsFirstBroken x es js n → (m < n → ⊥) × (n < m → ⊥)
one_first x es js m n a b = (λ below. a.broken (b.before m below), λ below. b.broken (a.before n below))

-- where two files tell a run there is no cause against it
no_cause : (schedule journal : File) (s : Scenario) (es : List Event) (js : List Entry) (cause : Cause) → TellsRun schedule journal s es js
    → IsCause schedule journal cause → ⊥
no_cause schedule journal s es js (causes.Schedule unfit) run is = plain_is_fit schedule unfit (record { scenario = s; events = es; tells = run.plain }) is
no_cause schedule journal s es js (causes.Journal line) run is = journal_is_good journal js line run.told is.1
no_cause schedule journal s es js causes.LongJournal run is = let both : false ≡ true = sym run.told.whole ∙ is.1 in cc
no_cause schedule journal s es js (causes.Unequal m n) run is =
    is.differ (sym is.events_are ∙ one_run schedule journal s is.scenario es is.run js is.story run.plain is.plain run.told is.told
    (λ t fs ks. length fs ≡ length ks) run.even ∙ is.entries_are)

-- there is one cause
one_cause : (schedule journal : File) (a b : Cause) → IsCause schedule journal a → IsCause schedule journal b → a ≡ b
one_cause schedule journal (causes.Schedule u) (causes.Schedule v) a b = ap causes.Schedule (one_unfit schedule u v a b)
one_cause schedule journal (causes.Schedule u) (causes.Journal m) a b = absurd (plain_is_fit schedule u b.0 a)
one_cause schedule journal (causes.Schedule u) causes.LongJournal a b = absurd (plain_is_fit schedule u b.0 a)
one_cause schedule journal (causes.Schedule u) (causes.Unequal m n) a b =
    absurd (plain_is_fit schedule u (record { scenario = b.scenario; events = b.run; tells = b.plain }) a)
one_cause schedule journal (causes.Journal l) (causes.Schedule v) a b = absurd (plain_is_fit schedule v a.0 b)
one_cause schedule journal (causes.Journal l) (causes.Journal m) a b = ap causes.Journal (one_bad_journal journal l m a.1 b.1)
one_cause schedule journal (causes.Journal l) causes.LongJournal a b = let both : false ≡ true = sym a.1.whole ∙ b.1 in cc
one_cause schedule journal (causes.Journal l) (causes.Unequal m n) a b = absurd (journal_is_good journal b.story l b.told a.1)
one_cause schedule journal causes.LongJournal (causes.Schedule v) a b = absurd (plain_is_fit schedule v a.0 b)
one_cause schedule journal causes.LongJournal (causes.Journal m) a b = let both : false ≡ true = sym b.1.whole ∙ a.1 in cc
one_cause schedule journal causes.LongJournal causes.LongJournal a b = refl
one_cause schedule journal causes.LongJournal (causes.Unequal m n) a b = let both : false ≡ true = sym b.told.whole ∙ a.1 in cc
one_cause schedule journal (causes.Unequal k l) (causes.Schedule v) a b =
    absurd (plain_is_fit schedule v (record { scenario = a.scenario; events = a.run; tells = a.plain }) b)
one_cause schedule journal (causes.Unequal k l) (causes.Journal m) a b = absurd (journal_is_good journal a.story m a.told b.1)
one_cause schedule journal (causes.Unequal k l) causes.LongJournal a b = let both : false ≡ true = sym a.told.whole ∙ b.1 in cc
one_cause schedule journal (causes.Unequal k l) (causes.Unequal m n) a b =
    let events : k ≡ m = sym a.events_are ∙ ap length (one_schedule schedule a.scenario b.scenario a.run b.run a.plain.tells b.plain.tells).1 ∙ b.events_are in
    let entries : l ≡ n = sym a.entries_are ∙ ap length (one_journal journal a.story b.story a.told b.told) ∙ b.entries_are in cc

-- a run that is kept is broken nowhere
kept_or_broken : (schedule journal : File) (n : ℕ) → IsKept schedule journal → IsBroken schedule journal n → ⊥
kept_or_broken schedule journal n a b =
    not_broken (setting_of b.scenario) b.events b.entries n
    (one_run schedule journal a.scenario b.scenario a.events b.events a.entries b.entries a.run.plain b.run.plain a.run.told b.run.told
    (λ s es js. AreGood (setting_of s) es js) a.good) b.first

one_broken : (schedule journal : File) (m n : ℕ) → IsBroken schedule journal m → IsBroken schedule journal n → m ≡ n
one_broken schedule journal m n a b =
    let moved : IsFirstBroken (setting_of b.scenario) b.events b.entries m =
    one_run schedule journal a.scenario b.scenario a.events b.events a.entries b.entries a.run.plain b.run.plain a.run.told b.run.told
    (λ s es js. IsFirstBroken (setting_of s) es js m) a.first in
    let apart = one_first (setting_of b.scenario) b.events b.entries m n moved b.first in
    omega (arith, apart.0, apart.1)

pub one_verdict : (schedule journal : File) (a b : Verdict) → IsVerdict schedule journal a → IsVerdict schedule journal b → a ≡ b
one_verdict schedule journal verdicts.Kept verdicts.Kept a b = refl
one_verdict schedule journal verdicts.Kept (verdicts.Broken n) a b = absurd (kept_or_broken schedule journal n a b)
one_verdict schedule journal verdicts.Kept (verdicts.Unjudged cause) a b = absurd (no_cause schedule journal a.scenario a.events a.entries cause a.run b)
one_verdict schedule journal (verdicts.Broken m) verdicts.Kept a b = absurd (kept_or_broken schedule journal m b a)
one_verdict schedule journal (verdicts.Broken m) (verdicts.Broken n) a b = ap verdicts.Broken (one_broken schedule journal m n a b)
one_verdict schedule journal (verdicts.Broken m) (verdicts.Unjudged cause) a b = absurd (no_cause schedule journal a.scenario a.events a.entries cause a.run b)
one_verdict schedule journal (verdicts.Unjudged cause) verdicts.Kept a b = absurd (no_cause schedule journal b.scenario b.events b.entries cause b.run a)
one_verdict schedule journal (verdicts.Unjudged cause) (verdicts.Broken n) a b = absurd (no_cause schedule journal b.scenario b.events b.entries cause b.run a)
one_verdict schedule journal (verdicts.Unjudged c) (verdicts.Unjudged d) a b = ap verdicts.Unjudged (one_cause schedule journal c d a b)

-- ---- the texts of a run

read_whole : (most : ℕ) (text : List ℕ) → length text ≤ most → (take most text ≡ text) × (nat_lt most (length text) ≡ false)
read_whole most text fits = (take_all most text fits, le-ltb most (length text) fits)

-- the texts of a run tell it
pub told_run : (s : Scenario) (es : List Event) (js : List Entry) → IsRun s es js
    → TellsRun (file_up_to MAX_INPUT_BYTES (schedule_text s es)) (file_up_to MAX_JOURNAL_BYTES (journal_text js)) s es js
told_run s es js run =
    let schedule = read_whole MAX_INPUT_BYTES (schedule_text s es) run.schedule_fits in
    let journal = read_whole MAX_JOURNAL_BYTES (journal_text js) run.journal_fits in
    record {
      plain = record { tells = record { good = run.schedule; is_text = schedule.0; whole = schedule.1 }; plain = run.plain };
      told = record { good = run.journal; is_text = journal.0; whole = journal.1 };
      even = run.even;
    }

pub texts_have_their_verdict : TextsHaveTheirVerdict
texts_have_their_verdict s es js run =
    let schedule : File = file_up_to MAX_INPUT_BYTES (schedule_text s es) in
    let journal : File = file_up_to MAX_JOURNAL_BYTES (journal_text js) in
    let told : TellsRun schedule journal s es js = told_run s es js run in (
      (
        λ (kept : IsKept schedule journal). one_run schedule journal kept.scenario s kept.events es kept.entries js kept.run.plain told.plain kept.run.told
            told.told
            (λ t fs ks. AreGood (setting_of t) fs ks) kept.good,
        λ (good : AreGood (setting_of s) es js). record { scenario = s; events = es; entries = js; run = told; good = good },
      ),
      λ n. (
        λ (broken : IsBroken schedule journal n). one_run schedule journal broken.scenario s broken.events es broken.entries js broken.run.plain told.plain
            broken.run.told told.told
            (λ t fs ks. IsFirstBroken (setting_of t) fs ks n) broken.first,
        λ (first : IsFirstBroken (setting_of s) es js n). record { scenario = s; events = es; entries = js; run = told; first = first },
      ),
    )
