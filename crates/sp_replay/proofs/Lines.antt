-- What one line of a replay does: the events so far are done, and what the sink has goes with them.
use Rattle.std.proofs.Common.{◌≡◌, ◌+◌, ℕ, Bool, List, [], ◌∷◌, ◌++◌, length, take, Option, Some, None, Result, Ok, Err, refl, sym, ap, ◌∙◌, subst, arith}
use Rattle.std.proofs.Common.{append_assoc, append-nil, IfSome, OnOk}
use Rattle.std.specs.Io.KnownBytes.{Appends}
use Rattle.std.proofs.KnownBytes.{Appends-trans}
use Rattle.std.proofs.lemmas.List.{same_from_push}
use Rattle.sp_journal.specs.JournalText.{entry_text, journal_lines}
use Rattle.sp_lines.specs.Texts.{At_end, Good, Leads, Nothing_left}
use Rattle.sp_lines.proofs.LeadLemmas.{led_by}
use Rattle.sp_outside.specs.Streams.{AppendsFront}
use Rattle.laws_runs_format.specs.Arts.{arts_of}
use Rattle.laws_runs_format.specs.Schedules.{ScheduledEventsAreInRange}
use Rattle.laws_runs_format.proofs.Schedules.{header_of}
use Rattle.laws_runs_format.proofs.Hostile.{only_hostile}
use Rattle.sp_runs.specs.Runs.{Clean, InRange, Starts}
use Rattle.sp_runs.specs.Scenarios.{IsHeader, setting_of}
use Rattle.sp_runs.specs.Worlds.{at_start}
use Rattle.sp_runs.specs.declared.what.What.{What}
use Rattle.sp_schedule.proofs.FeedLemmas.{step}
use Rattle.sp_schedule.proofs.StageLemmas.{AreGood, all_lines}
use Rattle.sp_schedule.specs.Feeds.{Fed, IsOf, ReadsOn, TakesLine, text_of, text_to}
use Rattle.sp_schedule.specs.Lines.{IsInHeader, IsParsed, says}
use Rattle.sp_schedule.specs.Readings.{IsGoodStage}
use Rattle.sp_schedule.specs.Scenarios.{IsSchedule}
use Rattle.sp_schedule.specs.declared.parsed.Parsed.{Parsed}
use Rattle.sp_schedule.specs.declared.parsed.Parsed.TheVariants as parts
use Rattle.sp_schedule.specs.declared.stage.Stage.{Stage}
use Rattle.sp_schedule.specs.declared.stage.Stage.TheVariants as stages
use Rattle.sp_schedule_events.specs.declared.event.Event.{Event}
use Rattle.sp_schedule_events.specs.declared.scenario.Scenario.{Scenario}
use Rattle.sp_world.specs.Past.{GoesOn, IsForged, IsLeft, IsPast, IsRefused, Past, at_first}
use Rattle.sp_world.specs.declared.refused.WorldRefused.{WorldRefused}
use Rattle.sp_world.specs.declared.refused.WorldRefused.TheVariants as stops
use Rattle.sp_replay.specs.declared.halt.Halt.{Halt}
use Rattle.sp_replay.specs.declared.halt.Halt.TheVariants as halts
use Rattle.sp_replay.specs.Outputs.{AreDone, HasNoWorld, IsForgedIn, IsOfStage, lines_before, lines_but_last}
use Rattle.sp_replay.specs.Played.{HasBuffers, IsPlayedBy, IsShort}
use Rattle.sp_replay.specs.Playing.{Begins, IsBegunThere, IsForgedOf, IsSunkThere, LeadsFrom, NotesEvent, NotesLast, Plays, SoFar}
use Rattle.sp_replay.proofs.Begun.{all_of_it, then_begins, whole_begins}
use Rattle.sp_replay.proofs.Ways.{all_but_last, journal_more, of_stage, ways}

-- ---- one line more

-- what holds in any case holds where there is a value
pub in_any_case : {T E P : Type 0} (result : Result T E) → P → OnOk result P
in_any_case (Ok value) is = is
in_any_case (Err error) is = tt

good_lines : (f : Fed) → LeadsFrom f → AreGood f.stage
good_lines f leads =
    let led = led_by says (leads [] f.stage (f.count + 1) Nothing_left At_end) in
    (all_lines led.lines stages.Start f.stage tt led.follows).1

pub leads_line : (old new : Fed) (given : Parsed) → LeadsFrom old → TakesLine old given new → LeadsFrom new
leads_line old new given leads takes = λ rest last end stop more.
    let on = takes.leads in
    let stepped = step old new given (good_lines old leads) takes in
    let here : Leads says new.stage (old.count + 1 + 1) rest last end stop =
    subst (λ (n : ℕ). Leads says new.stage (n + 1) rest last end stop) takes.count more in
    let all = leads (old.waiting ++ rest) last end stop (Good on.words rest new.stage (on.first rest) on.good here) in
    let text : text_to old.stage ++ old.waiting ≡ text_to new.stage =
    sym stepped.text ∙ ap (λ (xs : List ℕ). text_to new.stage ++ xs) takes.waiting ∙ append-nil (text_to new.stage) in
    let whole : text_to old.stage ++ (old.waiting ++ rest) ≡ text_to new.stage ++ rest =
    sym (append_assoc (text_to old.stage) old.waiting rest) ∙ ap (λ (xs : List ℕ). xs ++ rest) text in
    subst (λ (xs : List ℕ). Leads says stages.Start 1 xs last end stop) whole all

-- ---- lines of the header, and the end

no_world : (stage : Stage) → IsInHeader stage → HasNoWorld stage
no_world stages.Start is = tt
no_world (stages.Version format) is = tt
no_world (stages.Seed format seed) is = tt
no_world (stages.Height format seed height) is = tt
no_world (stages.Bounds format seed height limits) is = tt
no_world (stages.Edges s) is = tt
no_world (stages.Bads s) is = tt
no_world (stages.Epochs s) is = tt
no_world (stages.Events s es) is = absurd is
no_world (stages.End s es) is = absurd is

not_of_header : (stage : Stage) (s : Scenario) (es : List Event) → IsInHeader stage → IsOfStage stage s es → ⊥
not_of_header stages.Start s es is of = of
not_of_header (stages.Version format) s es is of = of
not_of_header (stages.Seed format seed) s es is of = of
not_of_header (stages.Height format seed height) s es is of = of
not_of_header (stages.Bounds format seed height limits) s es is of = of
not_of_header (stages.Edges t) s es is of = of
not_of_header (stages.Bads t) s es is of = of
not_of_header (stages.Epochs t) s es is of = of
not_of_header (stages.Events t fs) s es is of = is
not_of_header (stages.End t fs) s es is of = is

header_done : (old next : Stage) (world : Option Past) → IsParsed old parts.Header next → AreDone old world → AreDone next world
header_done old next None parsed done = no_world next (header_next old next parsed)
  where
    header_next : (old next : Stage) → IsParsed old parts.Header next → IsInHeader next
    header_next old next parsed = parsed.1
header_done old next (Some p) parsed done = absurd (not_of_header old p.scenario p.events parsed.0 done.0)

pub so_far_header : (old new : Fed) (world : Option Past) → SoFar old world → TakesLine old parts.Header new → IsGoodStage new.stage → SoFar new world
so_far_header old new world so_far takes good = record {
  good = good;
  done = header_done old.stage new.stage world takes.leads.parsed so_far.done;
  leads = leads_line old new parts.Header so_far.leads takes;
}

end_done : (old next : Stage) (world : Option Past) → IsParsed old parts.Ended next → AreDone old world → AreDone next world
end_done (stages.Events s es) next None parsed done = absurd done
end_done (stages.Events s es) next (Some p) parsed done = subst (λ (z : Stage). AreDone z (Some p)) (sym parsed) done
end_done stages.Start next world parsed done = absurd parsed
end_done (stages.Version format) next world parsed done = absurd parsed
end_done (stages.Seed format seed) next world parsed done = absurd parsed
end_done (stages.Height format seed height) next world parsed done = absurd parsed
end_done (stages.Bounds format seed height limits) next world parsed done = absurd parsed
end_done (stages.Edges s) next world parsed done = absurd parsed
end_done (stages.Bads s) next world parsed done = absurd parsed
end_done (stages.Epochs s) next world parsed done = absurd parsed
end_done (stages.End s es) next world parsed done = absurd parsed

pub so_far_end : (old new : Fed) (world : Option Past) → SoFar old world → TakesLine old parts.Ended new → IsGoodStage new.stage → SoFar new world
so_far_end old new world so_far takes good = record {
  good = good;
  done = end_done old.stage new.stage world takes.leads.parsed so_far.done;
  leads = leads_line old new parts.Ended so_far.leads takes;
}

-- ---- worlds of good stages

pub record IsFit (p : Past) : Type 0 where
  pub short : IsShort p
  pub buffers : HasBuffers p

fit_of : (s : Scenario) (es : List Event) (p : Past) → IsSchedule s es → s ≡ p.scenario → es ≡ p.events → IsFit p
fit_of s es p good scenario events = record {
  short = omega (arith, good.count, ap (λ (xs : List Event). length xs) events);
  buffers = rw (← scenario) good.scenario.limits.buffer.0;
}

pub fit : (stage : Stage) (p : Past) → IsGoodStage stage → IsOfStage stage p.scenario p.events → IsFit p
fit (stages.Events s es) p good of = fit_of s es p good of.0 of.1
fit (stages.End s es) p good of = fit_of s es p good of.0 of.1
fit stages.Start p good of = absurd of
fit (stages.Version format) p good of = absurd of
fit (stages.Seed format seed) p good of = absurd of
fit (stages.Height format seed height) p good of = absurd of
fit (stages.Bounds format seed height limits) p good of = absurd of
fit (stages.Edges s) p good of = absurd of
fit (stages.Bads s) p good of = absurd of
fit (stages.Epochs s) p good of = absurd of

pub all_fit : (stage : Stage) (world : Option Past) → IsGoodStage stage → AreDone stage world → IfSome world HasBuffers
all_fit stage None good done = tt
all_fit stage (Some p) good done = (fit stage p good done.0).buffers

-- whatever follows, what the sink has begins an output
pub begun_there : (f : Fed) (world : Option Past) (start after : Option (List ℕ)) → ((more : List ℕ) (is_cut : Bool) → ReadsOn f more is_cut)
    → IsGoodStage f.stage → AreDone f.stage world
    → IfSome world IsPast → AppendsFront start after (lines_before world) → IsBegunThere (text_of f) world start after
begun_there f world start after reads good done runs begun = record {
  past = world;
  ways = ways f world reads done runs;
  goes_on = all_of_it world;
  buffers = all_fit f.stage world good done;
  begun = begun;
}

-- the sink failed while it was given the last piece of the journal
sunk_there : (f : Fed) (p : Past) (start middle after : Option (List ℕ)) (last : List ℕ) → ((more : List ℕ) (is_cut : Bool) → ReadsOn f more is_cut)
    → IsGoodStage f.stage → AreDone f.stage (Some p)
    → IsPast p → journal_lines p.journal ≡ lines_but_last p.journal ++ last → Appends start middle (lines_but_last p.journal) → AppendsFront middle after last
    → IsSunkThere (text_of f) (Some p) start after
sunk_there f p start middle after last reads good done past whole written front = record {
  past = p;
  is = refl;
  ways = ways f (Some p) reads done past;
  buffers = (fit f.stage p good done.0).buffers;
  rest = take front.count last;
  least = Appends-trans start middle after (lines_but_last p.journal) (take front.count last) written front.appended;
  most = subst (AppendsFront start after) (sym whole) (then_begins start middle after (lines_but_last p.journal) last written front);
}

-- the same where the world is gone
pub forgotten_there : (f : Fed) (world : Option Past) (start after : Option (List ℕ)) → ((more : List ℕ) (is_cut : Bool) → ReadsOn f more is_cut)
    → AreDone f.stage world
    → IfSome world IsPast → AppendsFront start after (lines_before world) → IsBegunThere (text_of f) None start after
forgotten_there f world start after reads done runs begun = record {
  past = world;
  ways = ways f world reads done runs;
  goes_on = tt;
  buffers = tt;
  begun = begun;
}

-- ---- a journal begins

begun_done : (old next : Stage) (s : Scenario) → IsParsed old (parts.Began s) next → AreDone next (Some (at_first s))
begun_done old next s parsed = subst (λ (z : Stage). AreDone z (Some (at_first s))) (sym (begun_next old next s parsed)) ((refl, refl), refl)
  where
    begun_next : (old next : Stage) (s : Scenario) → IsParsed old (parts.Began s) next → next ≡ stages.Events s []
    begun_next old next s parsed = parsed.1

pub begun_header : (old next : Stage) (s : Scenario) → IsParsed old (parts.Began s) next → IsGoodStage next → IsHeader s
begun_header old next s parsed good =
    header_of s [] (subst IsGoodStage (begun_next old next s parsed) good)
  where
    begun_next : (old next : Stage) (s : Scenario) → IsParsed old (parts.Began s) next → next ≡ stages.Events s []
    begun_next old next s parsed = parsed.1

past_at_first : (s : Scenario) → IsHeader s → IsPast (at_first s)
past_at_first s header = record { header = header; last = at_start (setting_of s); clean = Starts; left = refl }

none_before : (old next : Stage) (s : Scenario) (world : Option Past) → IsParsed old (parts.Began s) next → AreDone old world → world ≡ None
none_before old next s None parsed done = refl
none_before old next s (Some p) parsed done = absurd (not_of_header old p.scenario p.events parsed.0 done.0)

so_far_at : (old new : Fed) (world : Option Past) (s : Scenario) → SoFar old world → TakesLine old (parts.Began s) new → IsGoodStage new.stage
    → SoFar new (Some (at_first s))
so_far_at old new world s so_far takes good = record {
  good = good;
  done = begun_done old.stage new.stage s takes.leads.parsed;
  leads = leads_line old new (parts.Began s) so_far.leads takes;
}

pub so_far_begun : {T : Type 0} (old new : Fed) (world made : Option Past) (s : Scenario) (before after : Option (List ℕ)) (result : Result T Halt)
    → SoFar old world
    → TakesLine old (parts.Began s) new → IsGoodStage new.stage → Begins s made before after result → OnOk result (SoFar new made)
so_far_begun old new world made s before after (Ok done) so_far takes good begins = rw begins.0 (so_far_at old new world s so_far takes good)
so_far_begun old new world made s before after (Err halt) so_far takes good begins = tt

pub plays_begun : {T : Type 0} (old new : Fed) (world made : Option Past) (s : Scenario) (before after : Option (List ℕ)) (result : Result T Halt)
    → SoFar old world
    → TakesLine old (parts.Began s) new → IsGoodStage new.stage → text_of new ≡ text_of old → ((more : List ℕ) (is_cut : Bool) → ReadsOn old more is_cut)
    → ((more : List ℕ) (is_cut : Bool) → ReadsOn new more is_cut) → Begins s made before after result → Plays (text_of old) world made before after result
plays_begun old new world made s before after (Ok done) so_far takes good text reads_old reads begins =
    rw (none_before old.stage new.stage s world takes.leads.parsed so_far.done, begins.0)
    (λ start written. Appends-trans start before after [] (journal_lines []) written begins.1)
plays_begun old new world made s before after (Err halts.Sink) so_far takes good text reads_old reads begins =
    rw (none_before old.stage new.stage s world takes.leads.parsed so_far.done, begins.0, ← text)
    (λ start written.
    let header = begun_header old.stage new.stage s takes.leads.parsed good in
    sunk_there new (at_first s) start before after (journal_lines []) reads good (begun_done old.stage new.stage s takes.leads.parsed) (past_at_first s header)
    refl written begins.1)
plays_begun old new world made s before after (Err halts.Memory) so_far takes good text reads_old reads begins =
    let none = none_before old.stage new.stage s world takes.leads.parsed so_far.done in
    let done : AreDone old.stage None = subst (AreDone old.stage) none so_far.done in
    rw (begins, none) (λ start written. forgotten_there old None start before reads_old done tt (whole_begins start before [] written))
plays_begun old new world made s before after (Err halts.Source) so_far takes good text reads_old reads begins = absurd begins
plays_begun old new world made s before after (Err halts.Forged) so_far takes good text reads_old reads begins = absurd begins
plays_begun old new world made s before after (Err (halts.Read ending)) so_far takes good text reads_old reads begins = absurd begins

-- ---- an event

pub note_event : {T : Type 0} (old new : Past) (event : Event) (before after : Option (List ℕ)) (result : Result T Halt) → GoesOn old event new
    → NotesLast new.journal before after result → NotesEvent old event new before after result
note_event old new event before after (Ok done) g last =
    let parts = same_from_push last.first old.journal last.entry g.entry (sym last.is ∙ g.journal) in
    (g, rw (← parts.0, ← parts.1) last.holds)
note_event old new event before after (Err halts.Sink) g last =
    let parts = same_from_push last.first old.journal last.entry g.entry (sym last.is ∙ g.journal) in
    (g, rw (← parts.0, ← parts.1) last.holds)
note_event old new event before after (Err halts.Memory) g last = last
note_event old new event before after (Err halts.Source) g last = absurd last
note_event old new event before after (Err halts.Forged) g last = absurd last
note_event old new event before after (Err (halts.Read ending)) g last = absurd last

-- the next event of a past, as its line gives it
pub record IsNext (p : Past) (e : Event) (stage : Stage) : Type 0 where
  pub schedule : IsSchedule p.scenario (p.events ++ e ∷ [])
  pub stage_is : stage ≡ stages.Events p.scenario (p.events ++ e ∷ [])
  pub going : p.stopped ≡ None

pub is_next : (old next : Stage) (p : Past) (e : Event) → IsParsed old (parts.Event e) next → AreDone old (Some p) → IsGoodStage next → IsNext p e next
is_next (stages.Events s es) next p e parsed done good =
    let at : next ≡ stages.Events p.scenario (p.events ++ e ∷ []) = rw (← done.0.0, ← done.0.1) parsed in
    record { schedule = subst IsGoodStage at good; stage_is = at; going = done.1 }
is_next stages.Start next p e parsed done good = absurd parsed
is_next (stages.Version format) next p e parsed done good = absurd parsed
is_next (stages.Seed format seed) next p e parsed done good = absurd parsed
is_next (stages.Height format seed height) next p e parsed done good = absurd parsed
is_next (stages.Bounds format seed height limits) next p e parsed done good = absurd parsed
is_next (stages.Edges s) next p e parsed done good = absurd parsed
is_next (stages.Bads s) next p e parsed done good = absurd parsed
is_next (stages.Epochs s) next p e parsed done good = absurd parsed
is_next (stages.End s es) next p e parsed done good = absurd parsed

-- so it may come there, by the law of good schedules
pub next_in_range : ScheduledEventsAreInRange → (old next : Stage) (p : Past) (e : Event) → IsParsed old (parts.Event e) next → AreDone old (Some p)
    → IsGoodStage next
    → InRange (setting_of p.scenario) p.events e
next_in_range law old next p e parsed done good =
    law p.scenario (p.events ++ e ∷ []) p.events [] e (is_next old next p e parsed done good).schedule refl

-- and the next of a list of events too, of which so many were done
pub listed_in_range : ScheduledEventsAreInRange → (s : Scenario) (es : List Event) (p : Past) (e : Event) (rest : List Event) → IsSchedule s es → s ≡ p.scenario
    → es ≡ p.events ++ e ∷ rest → InRange (setting_of p.scenario) p.events e
listed_in_range law s es p e rest schedule scenario events =
    subst (λ (t : Scenario). InRange (setting_of t) p.events e) scenario (law s es p.events rest e schedule events)

pub no_event_without_world : (old next : Stage) (e : Event) → IsParsed old (parts.Event e) next → AreDone old None → ⊥
no_event_without_world (stages.Events s es) next e parsed done = done
no_event_without_world stages.Start next e parsed done = parsed
no_event_without_world (stages.Version format) next e parsed done = parsed
no_event_without_world (stages.Seed format seed) next e parsed done = parsed
no_event_without_world (stages.Height format seed height) next e parsed done = parsed
no_event_without_world (stages.Bounds format seed height limits) next e parsed done = parsed
no_event_without_world (stages.Edges s) next e parsed done = parsed
no_event_without_world (stages.Bads s) next e parsed done = parsed
no_event_without_world (stages.Epochs s) next e parsed done = parsed
no_event_without_world (stages.End s es) next e parsed done = parsed

event_done : (stage : Stage) (p q : Past) (e : Event) → IsNext p e stage → GoesOn p e q → AreDone stage (Some q)
event_done stage p q e next g =
    subst (λ (z : Stage). AreDone z (Some q)) (sym next.stage_is) ((sym g.scenario, sym g.events), g.going)

pub so_far_event : {T : Type 0} (old new : Fed) (p q : Past) (e : Event) (before after : Option (List ℕ)) (result : Result T Halt) → SoFar old (Some p)
    → TakesLine old (parts.Event e) new → IsGoodStage new.stage → NotesEvent p e q before after result → OnOk result (SoFar new (Some q))
so_far_event old new p q e before after (Ok done) so_far takes good notes = record {
  good = good;
  done = event_done new.stage p q e (is_next old.stage new.stage p e takes.leads.parsed so_far.done good) notes.0;
  leads = leads_line old new (parts.Event e) so_far.leads takes;
}
so_far_event old new p q e before after (Err halt) so_far takes good notes = tt

one_more : (p q : Past) (e : Event) (g : GoesOn p e q) → journal_lines q.journal ≡ journal_lines p.journal ++ entry_text (length p.journal + 1) g.entry
one_more p q e g =
    let count : 1 + length p.journal ≡ length p.journal + 1 = omega arith in
    ap journal_lines g.journal ∙ journal_more p.journal (g.entry ∷ [])
    ∙ ap (λ (xs : List ℕ). journal_lines p.journal ++ xs) (append-nil (entry_text (1 + length p.journal) g.entry) ∙ ap (λ (n : ℕ). entry_text n g.entry) count)

-- where a world stops at an event of which something is forged, this is the first of the stage
pub forged_in : (stage : Stage) (p q : Past) (e : Event) (rest : List Event) (number : ℕ) (what : What) → IsPast p → p.stopped ≡ None
    → IsRefused p e (stops.Forged number what) q → IsOfStage stage p.scenario (p.events ++ e ∷ rest) → IsForgedIn stage q number what
forged_in stage p q e rest number what past going refused events =
    let forged : IsForged p e number what q = refused.first going in
    let same : p.world ≡ past.last = subst (λ (t : Option WorldRefused). IsLeft (setting_of p.scenario) t past.last p.world) going past.left in
    let run : Clean (arts_of (setting_of p.scenario)) (setting_of p.scenario) p.events p.journal p.world = rw same past.clean in
    record {
      event = e;
      rest = rest;
      events = rw (refused.scenario, refused.events) events;
      next = record {
        counted = rw refused.events forged.counted;
        world = p.world;
        run = rw (refused.scenario, refused.events, refused.journal) run;
        forged = rw (refused.scenario, refused.events, refused.journal) forged.forged;
        hostile = only_hostile p.scenario p.events p.journal p.world e what past.header run forged.forged;
        left = forged.world;
        stopped = forged.stopped;
      };
    }

-- so all events before it of a list were done
pub played_to_forgery : (s : Scenario) (es : List Event) (p q : Past) (e : Event) (rest : List Event) (refused : WorldRefused) (number : ℕ) (what : What)
    → refused ≡ stops.Forged number what
    → IsPast p → p.stopped ≡ None → IsRefused p e refused q → s ≡ p.scenario → es ≡ p.events ++ e ∷ rest → IsPlayedBy (stages.End s es) q q.stopped
played_to_forgery s es p q e rest refused number what is past going refuses scenario events =
    let there : IsForgedIn (stages.End s es) q number what =
    forged_in (stages.End s es) p q e rest number what past going (subst (λ (r : WorldRefused). IsRefused p e r q) is refuses) (scenario, events) in
    subst (IsPlayedBy (stages.End s es) q) (sym there.next.stopped) there

-- the event is forged in the reading of each text that goes on
forged_of : (f : Fed) (p q : Past) (e : Event) (number : ℕ) (what : What) → ((more : List ℕ) (is_cut : Bool) → ReadsOn f more is_cut) → IsNext p e f.stage
    → IsPast p
    → IsRefused p e (stops.Forged number what) q → (more : List ℕ) (is_cut : Bool) → IsForgedOf (text_of f ++ more) is_cut q number what
forged_of f p q e number what reads next past refused more is_cut =
    let on = reads more is_cut in
    let kept = on.keeps p.scenario (p.events ++ e ∷ []) (subst (λ (z : Stage). IsOf z p.scenario (p.events ++ e ∷ [])) (sym next.stage_is) (refl, refl)) in
    let of = of_stage on.reading.stage p.scenario ((p.events ++ e ∷ []) ++ kept.0) kept.1 in
    let events : IsOfStage on.reading.stage p.scenario (p.events ++ e ∷ kept.0) = rw append_assoc at of in
    record {
      reading = on.reading;
      is = on.is;
      forged = forged_in on.reading.stage p q e kept.0 number what past next.going refused events;
    }

module _ (old new : Fed) (p q : Past) (e : Event) (before after : Option (List ℕ)) (so_far : SoFar old (Some p)) (takes : TakesLine old (parts.Event e) new)
    (good : IsGoodStage new.stage) (text : text_of new ≡ text_of old) (reads_old : (more : List ℕ) (is_cut : Bool) → ReadsOn old more is_cut)
    (reads : (more : List ℕ) (is_cut : Bool) → ReadsOn new more is_cut) (past : IsPast p) (after_past : IsPast q) where
  next_of : IsNext p e new.stage
  next_of = is_next old.stage new.stage p e takes.leads.parsed so_far.done good

  pub plays_event : {T : Type 0} (result : Result T Halt) → NotesEvent p e q before after result → Plays (text_of old) (Some p) (Some q) before after result
  plays_event (Ok done) notes = λ start written.
      subst (Appends start after) (sym (one_more p q e notes.0))
      (Appends-trans start before after (journal_lines p.journal) (entry_text (length p.journal + 1) notes.0.entry) written notes.1)
  plays_event (Err halts.Sink) notes = λ start written.
      let last = entry_text (length p.journal + 1) notes.0.entry in
      let first : lines_but_last q.journal ≡ journal_lines p.journal = ap lines_but_last notes.0.journal ∙ all_but_last p.journal notes.0.entry in
      let whole : journal_lines q.journal ≡ lines_but_last q.journal ++ last =
      subst (λ (xs : List ℕ). journal_lines q.journal ≡ xs ++ last) (sym first) (one_more p q e notes.0) in
      let before_last : Appends start before (lines_but_last q.journal) = subst (Appends start before) (sym first) written in
      subst (λ (xs : List ℕ). IsSunkThere xs (Some q) start after) text
      (sunk_there new q start before after last reads good (event_done new.stage p q e next_of notes.0) after_past whole before_last notes.1)
  plays_event (Err halts.Forged) notes = λ start written.
      let refused = notes.0.2 in
      let forged = forged_of new p q e notes.0.0 notes.0.1 reads next_of past refused in
      let fits = fit old.stage p so_far.good so_far.done.0 in
      record {
        past = q;
        is = refl;
        number = notes.0.0;
        what = notes.0.1;
        forged = λ more is_cut. subst (λ (xs : List ℕ). IsForgedOf (xs ++ more) is_cut q notes.0.0 notes.0.1) text (forged more is_cut);
        short = rw refused.events fits.short;
        buffers = rw refused.scenario fits.buffers;
        written = rw (refused.journal, notes.1) written;
      }
  plays_event (Err halts.Memory) notes = λ start written.
      rw notes (forgotten_there old (Some p) start before reads_old so_far.done past (whole_begins start before (journal_lines p.journal) written))
  plays_event (Err halts.Source) notes = absurd notes
  plays_event (Err (halts.Read ending)) notes = absurd notes
