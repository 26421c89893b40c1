-- Each past of a replay goes on to an output of the whole text, whatever follows what it has read.
use Rattle.std.proofs.Common.{◌≡◌, ◌<◌, ◌≤◌, ◌+◌, ◌^◌, ℕ, Bool, List, [], ◌∷◌, ◌++◌, length, take, drop, Option, Some, None, refl, sym, ap, ◌∙◌, subst, arith}
use Rattle.std.proofs.Common.{append_assoc, append-nil, length-append, IfSome}
use Rattle.std.proofs.Math.Seq.{take-append_seam}
use Rattle.std.proofs.lemmas.List.{take-append-drop}
use Rattle.sp_journal.specs.declared.entry.Entry.{Entry}
use Rattle.sp_journal.specs.JournalText.{entries_from, entry_text, journal_lines, journal_text, summary_words, version_words}
use Rattle.sp_lines.specs.Rows.{line_text}
use Rattle.laws_runs_format.specs.Arts.{arts_of}
use Rattle.sp_runs.specs.Inputs.{acting}
use Rattle.sp_runs.specs.Runs.{Clean, IsForgedAt, Starts, Turn, Turned, forged_in}
use Rattle.sp_runs.specs.Scenarios.{setting_of}
use Rattle.sp_runs.specs.Worlds.{World, at_start, without_node}
use Rattle.sp_runs.specs.declared.what.What.{What}
use Rattle.laws_runs_format.proofs.Headline.{every_life, every_run}
use Rattle.laws_runs_format.proofs.Hostile.{only_hostile}
use Rattle.laws_runs_format.proofs.Schedules.{header_of, scheduled_events_are_in_range}
use Rattle.laws_runs_format.proofs.Turned.{scheduled_events_have_turns}
use Rattle.sp_schedule.proofs.LawLemmas.{good_stage}
use Rattle.sp_schedule.specs.Feeds.{Fed, IsOf, ReadsOn, text_of}
use Rattle.sp_schedule.specs.Readings.{IsGoodStage, IsReading}
use Rattle.sp_schedule.specs.Refusals.{refused_line}
use Rattle.sp_schedule.specs.Scenarios.{IsSchedule}
use Rattle.sp_schedule.specs.declared.stage.Ending.{Ending}
use Rattle.sp_schedule.specs.declared.stage.Ending.TheVariants as endings
use Rattle.sp_schedule.specs.declared.stage.Stage.{Stage}
use Rattle.sp_schedule.specs.declared.stage.Stage.TheVariants as stages
use Rattle.sp_schedule_events.specs.declared.event.Event.{Event}
use Rattle.sp_schedule_events.specs.declared.scenario.Scenario.{Scenario}
use Rattle.sp_world.specs.Past.{IsPast, Past}
use Rattle.sp_world.specs.declared.refused.WorldRefused.{WorldRefused}
use Rattle.sp_world.specs.declared.refused.WorldRefused.TheVariants as stops
use Rattle.sp_replay.specs.Claims.{WorldClaims}
use Rattle.sp_replay.specs.Fronts.{IsFrontOf}
use Rattle.sp_replay.specs.Outputs.{AreDone, HasNoWorld, IsOfStage, forged_line, lines_but_last}
use Rattle.sp_replay.specs.Played.{IsPlayedBy, ToldBy, status_of}
use Rattle.sp_replay.specs.Playing.{Way, Ways}
use Rattle.sp_replay.proofs.Outputs.{ended_well}
use Rattle.sp_replay.proofs.Timelines.{without_end}
use Rattle.sp_replay.proofs.Worlds.{world_claims}

-- ---- journals that grow

pub entries_more : (number : ℕ) (first more : List Entry)
    → entries_from number (first ++ more) ≡ entries_from number first ++ entries_from (number + length first) more
entries_more number [] more = ap (λ (n : ℕ). entries_from n more) (omega arith)
entries_more number (e ∷ first) more =
    let next : (number + 1) + length first ≡ number + length (e ∷ first) = omega arith in
    ap (λ (xs : List ℕ). entry_text number e ++ xs)
    (entries_more (number + 1) first more ∙ ap (λ (n : ℕ). entries_from (number + 1) first ++ entries_from n more) next)
    ∙ sym (append_assoc (entry_text number e) (entries_from (number + 1) first) (entries_from (number + length (e ∷ first)) more))

pub journal_more : (first more : List Entry) → journal_lines (first ++ more) ≡ journal_lines first ++ entries_from (1 + length first) more
journal_more first more =
    ap (λ (xs : List ℕ). line_text version_words ++ xs) (entries_more 1 first more)
    ∙ sym (append_assoc (line_text version_words) (entries_from 1 first) (entries_from (1 + length first) more))

-- the lines before the last entry, and what follows them
pub all_but_last : (js : List Entry) (e : Entry) → lines_but_last (js ++ e ∷ []) ≡ journal_lines js
all_but_last [] e = refl
all_but_last (x ∷ js) e =
    let count : length (js ++ e ∷ []) ≡ length (x ∷ js) = omega (arith, length-append js (e ∷ [])) in
    ap journal_lines (ap (λ (n : ℕ). take n (x ∷ (js ++ e ∷ []))) count ∙ take-append_seam (x ∷ js) (e ∷ []))

pub last_piece : (js : List Entry) → (last : List ℕ) × (journal_lines js ≡ lines_but_last js ++ last)
last_piece [] = (journal_lines [], refl)
last_piece (e ∷ es) =
    let first = take (length es) (e ∷ es) in
    let last = drop (length es) (e ∷ es) in
    (entries_from (1 + length first) last, ap journal_lines (sym (take-append-drop (length es) (e ∷ es))) ∙ journal_more first last)

-- ---- runs that go on

-- a past to which these events and entries lead: all events of a schedule were done, or of the next something is forged
record RunsOn (s : Scenario) (all es : List Event) (js : List Entry) : Type 0 where
  whole : Past
  scenario : whole.scenario ≡ s
  more : List Event
  events : whole.events ≡ es ++ more
  entries : List Entry
  journal : whole.journal ≡ js ++ entries
  past : IsPast whole
  played : IsPlayedBy (stages.End s all) whole whole.stopped

module _ (s : Scenario) (all : List Event) (schedule : IsSchedule s all) where
  run_on : (rest es : List Event) (js : List Entry) (w : World) → Clean (arts_of (setting_of s)) (setting_of s) es js w → all ≡ es ++ rest → RunsOn s all es js
  run_on [] es js w clean same = record {
    whole = record { scenario = s; events = es; journal = js; world = w; stopped = None };
    scenario = refl;
    more = [];
    events = sym (append-nil es);
    entries = [];
    journal = sym (append-nil js);
    past = record { header = header_of s all schedule; last = w; clean = clean; left = refl };
    played = ((refl, same ∙ append-nil es), refl);
  }
  run_on (e ∷ rest) es js w clean same =
      let few : length es < 2 ^ 60 = let long = ap length same in omega (arith, long, length-append es (e ∷ rest), schedule.count) in
      let range = scheduled_events_are_in_range s all es rest e schedule same in
      let turn = scheduled_events_have_turns s es js w (header_of s all schedule) clean few e range in
      let again : all ≡ (es ++ e ∷ []) ++ rest = same ∙ sym (append_assoc es (e ∷ []) rest) in
      go turn.entry turn.new turn.turn (λ j new next. run_on rest (es ++ e ∷ []) (js ++ j ∷ []) new next again)
      (forged_in (arts_of (setting_of s)) (setting_of s) es js w e turn.entry turn.new turn.turn) refl
    where
      go : (j : Entry) (new : World) (turn : Turn (arts_of (setting_of s)) (setting_of s) w e j new)
          → ((j : Entry) (new : World) → Clean (arts_of (setting_of s)) (setting_of s) (es ++ e ∷ []) (js ++ j ∷ []) new
          → RunsOn s all (es ++ e ∷ []) (js ++ j ∷ []))
          → (f : Option What) → forged_in (arts_of (setting_of s)) (setting_of s) es js w e j new turn ≡ f → RunsOn s all es js
      go j new turn further None is =
          let range = scheduled_events_are_in_range s all es rest e schedule same in
          let on = further j new (Turned clean range turn is) in
          record {
            whole = on.whole;
            scenario = on.scenario;
            more = e ∷ on.more;
            events = on.events ∙ append_assoc es (e ∷ []) on.more;
            entries = j ∷ on.entries;
            journal = on.journal ∙ append_assoc js (j ∷ []) on.entries;
            past = on.past;
            played = on.played;
          }
      go j new turn further (Some what) is = record {
        whole = record {
          scenario = s;
          events = es;
          journal = js;
          world = record w { nodes = without_node w.nodes (acting e) };
          stopped =
              Some (stops.Forged (length es + 1) what);
        };
        scenario = refl;
        more = [];
        events = sym (append-nil es);
        entries = [];
        journal = sym (append-nil js);
        past = record { header = header_of s all schedule; last = w; clean = clean; left = (acting e, record { nodes = refl; frames = refl }) };
        played =
            let forged : IsForgedAt (arts_of (setting_of s)) (setting_of s) es js w e what = record { entry = j; new = new; turn = turn; is = is } in
            record {
              event = e;
              rest = rest;
              events = (refl, same);
              next = record {
                counted = refl;
                world = w;
                run = clean;
                forged = forged;
                hostile = only_hostile s es js w e what (header_of s all schedule) clean forged;
                left = record { nodes = refl; frames = refl };
                stopped = refl;
              };
            };
      }

  claims_of : (p : Past) → IsPast p → p.scenario ≡ s → WorldClaims p
  claims_of p past same =
      let some : 1 ≤ s.limits.buffer = schedule.scenario.limits.buffer.0 in
      let buffers : 1 ≤ p.scenario.limits.buffer = rw same some in
      world_claims every_run every_life p past buffers

-- ---- what is written of them

record Told (past : Past) (ending : Ending) (stopped : Option WorldRefused) : Type 0 where
  out : List ℕ
  text : ToldBy past ending stopped out
  rest : List ℕ
  begins : out ≡ journal_lines past.journal ++ rest

told : (stage : Stage) (past : Past) (ending : Ending) (stopped : Option WorldRefused) → IsPlayedBy stage past stopped → Told past ending stopped
told stage past endings.Whole None played =
    record { out = journal_text past.journal; text = refl; rest = line_text (summary_words past.journal); begins = refl }
told stage past (endings.Refused line kind) None played =
    record { out = journal_lines past.journal ++ refused_line line kind; text = refl; rest = refused_line line kind; begins = refl }
told stage past ending (Some (stops.Forged number what)) played =
    record { out = journal_lines past.journal ++ forged_line number what; text = refl; rest = forged_line number what; begins = refl }
told stage past ending (Some stops.Memory) played = absurd played

-- ---- a reading with its run

module _ (text : List ℕ) (is_cut : Bool) (stage : Stage) (ending : Ending) (reading : IsReading text is_cut (record { stage = stage; ending = ending })) where
  -- a run of the whole that goes on from a past
  way_of : (past : Past) (whole : Past) → IsFrontOf past whole → WorldClaims whole → IsPlayedBy stage whole whole.stopped → Way text is_cut (Some past)
  way_of past whole front claims played =
      let t = told stage whole ending whole.stopped played in
      let begins : t.out ≡ journal_lines past.journal ++ (entries_from (1 + length past.journal) front.entries ++ t.rest) =
      t.begins ∙ ap (λ (js : List Entry). journal_lines js ++ t.rest) front.journal
      ∙ ap (λ (xs : List ℕ). xs ++ t.rest) (journal_more past.journal front.entries)
      ∙ append_assoc (journal_lines past.journal) (entries_from (1 + length past.journal) front.entries) t.rest in
      record {
        whole = Some whole;
        status = status_of (Some whole) ending;
        output = t.out;
        played = record {
          stage = stage;
          ending = ending;
          reading = reading;
          run = played;
          claims = claims;
          status_is = refl;
          text_is = t.text;
        };
        goes_on = front;
        rest = entries_from (1 + length past.journal) front.entries ++ t.rest;
        begins = begins;
      }

  -- a run of the whole, where there was no world yet
  first_way : (whole : Past) → WorldClaims whole → IsPlayedBy stage whole whole.stopped → Way text is_cut None
  first_way whole claims played =
      let t = told stage whole ending whole.stopped played in
      record {
        whole = Some whole;
        status = status_of (Some whole) ending;
        output = t.out;
        played = record { stage = stage; ending = ending; reading = reading; run = played; claims = claims; status_is = refl; text_is = t.text };
        goes_on = tt;
        rest = t.out;
        begins = refl;
      }

  -- from a past whose events are the first of the whole
  on_from : (s : Scenario) (all : List Event) → IsSchedule s all → ((p : Past) → IsPlayedBy (stages.End s all) p p.stopped → IsPlayedBy stage p p.stopped)
      → (past : Past) (more : List Event) → IsPast past → s ≡ past.scenario → all ≡ past.events ++ more → Way text is_cut (Some past)
  on_from s all schedule at past more is same events =
      let clean : Clean (arts_of (setting_of s)) (setting_of s) past.events past.journal is.last = rw same is.clean in
      let on = run_on s all schedule more past.events past.journal is.last clean events in
      way_of past on.whole
      (record { scenario = on.scenario ∙ same; more = on.more; events = on.events; entries = on.entries; journal = on.journal })
      (claims_of s all schedule on.whole on.past on.scenario) (at on.whole on.played)

  on_from_start : (s : Scenario) (all : List Event) → IsSchedule s all → ((p : Past) → IsPlayedBy (stages.End s all) p p.stopped → IsPlayedBy stage p p.stopped)
      → Way text is_cut None
  on_from_start s all schedule at =
      let on = run_on s all schedule all [] [] (at_start (setting_of s)) Starts refl in
      first_way on.whole (claims_of s all schedule on.whole on.past on.scenario) (at on.whole on.played)

-- a header that isn't whole is refused
refused_header : (text : List ℕ) (is_cut : Bool) (stage : Stage) (ending : Ending) → HasNoWorld stage
    → (reading : IsReading text is_cut (record { stage = stage; ending = ending })) → Way text is_cut None
refused_header text is_cut stage (endings.Refused line kind) none reading = record {
  whole = None;
  status = status_of None (endings.Refused line kind);
  output = refused_line line kind;
  played = record { stage = stage; ending = endings.Refused line kind; reading = reading; run = none; claims = tt; status_is = refl; text_is = refl };
  goes_on = tt;
  rest = refused_line line kind;
  begins = refl;
}
refused_header text is_cut stage endings.Whole none reading =
    let well = ended_well is_cut stage reading.line reading.stop reading.ends in
    absurd (subst HasNoWorld well.end none)

-- ---- the lemma

from_none : (text : List ℕ) (is_cut : Bool) (stage : Stage) (ending : Ending) → IsGoodStage stage
    → IsReading text is_cut (record { stage = stage; ending = ending }) → Way text is_cut None
from_none text is_cut (stages.Events s es) ending good reading =
    on_from_start text is_cut (stages.Events s es) ending reading s es good (λ p played. without_end s es p p.stopped played)
from_none text is_cut (stages.End s es) ending good reading = on_from_start text is_cut (stages.End s es) ending reading s es good (λ p played. played)
from_none text is_cut stages.Start ending good reading = refused_header text is_cut stages.Start ending tt reading
from_none text is_cut (stages.Version format) ending good reading = refused_header text is_cut (stages.Version format) ending tt reading
from_none text is_cut (stages.Seed format seed) ending good reading = refused_header text is_cut (stages.Seed format seed) ending tt reading
from_none text is_cut (stages.Height format seed height) ending good reading = refused_header text is_cut (stages.Height format seed height) ending tt reading
from_none text is_cut (stages.Bounds format seed height limits) ending good reading =
    refused_header text is_cut (stages.Bounds format seed height limits) ending tt reading
from_none text is_cut (stages.Edges s) ending good reading = refused_header text is_cut (stages.Edges s) ending tt reading
from_none text is_cut (stages.Bads s) ending good reading = refused_header text is_cut (stages.Bads s) ending tt reading
from_none text is_cut (stages.Epochs s) ending good reading = refused_header text is_cut (stages.Epochs s) ending tt reading

from_past : (text : List ℕ) (is_cut : Bool) (stage : Stage) (ending : Ending) → IsGoodStage stage
    → IsReading text is_cut (record { stage = stage; ending = ending })
    → (past : Past) (more : List Event) → IsPast past → IsOf stage past.scenario (past.events ++ more) → Way text is_cut (Some past)
from_past text is_cut (stages.Events s es) ending good reading past more is of =
    on_from text is_cut (stages.Events s es) ending reading s es good (λ p played. without_end s es p p.stopped played) past more is of.0 of.1
from_past text is_cut (stages.End s es) ending good reading past more is of =
    on_from text is_cut (stages.End s es) ending reading s es good (λ p played. played) past more is of.0 of.1
from_past text is_cut stages.Start ending good reading past more is of = absurd of
from_past text is_cut (stages.Version format) ending good reading past more is of = absurd of
from_past text is_cut (stages.Seed format seed) ending good reading past more is of = absurd of
from_past text is_cut (stages.Height format seed height) ending good reading past more is of = absurd of
from_past text is_cut (stages.Bounds format seed height limits) ending good reading past more is of = absurd of
from_past text is_cut (stages.Edges s) ending good reading past more is of = absurd of
from_past text is_cut (stages.Bads s) ending good reading past more is of = absurd of
from_past text is_cut (stages.Epochs s) ending good reading past more is of = absurd of

-- the two words for what a stage has are one
pub is_of : (stage : Stage) (s : Scenario) (es : List Event) → IsOfStage stage s es → IsOf stage s es
is_of (stages.Events t fs) s es of = of
is_of (stages.End t fs) s es of = of
is_of stages.Start s es of = absurd of
is_of (stages.Version format) s es of = absurd of
is_of (stages.Seed format seed) s es of = absurd of
is_of (stages.Height format seed height) s es of = absurd of
is_of (stages.Bounds format seed height limits) s es of = absurd of
is_of (stages.Edges t) s es of = absurd of
is_of (stages.Bads t) s es of = absurd of
is_of (stages.Epochs t) s es of = absurd of

pub of_stage : (stage : Stage) (s : Scenario) (es : List Event) → IsOf stage s es → IsOfStage stage s es
of_stage (stages.Events t fs) s es of = of
of_stage (stages.End t fs) s es of = of
of_stage stages.Start s es of = absurd of
of_stage (stages.Version format) s es of = absurd of
of_stage (stages.Seed format seed) s es of = absurd of
of_stage (stages.Height format seed height) s es of = absurd of
of_stage (stages.Bounds format seed height limits) s es of = absurd of
of_stage (stages.Edges t) s es of = absurd of
of_stage (stages.Bads t) s es of = absurd of
of_stage (stages.Epochs t) s es of = absurd of

-- Whatever follows what a feed has read, there is an output of the whole, and its run goes on from the past of the lines that were read.
pub ways : (f : Fed) (past : Option Past) → ((more : List ℕ) (is_cut : Bool) → ReadsOn f more is_cut) → AreDone f.stage past → IfSome past IsPast
    → Ways (text_of f) past
ways f None reads done is more is_cut =
    let on = reads more is_cut in
    from_none (text_of f ++ more) is_cut on.reading.stage on.reading.ending (good_stage (text_of f ++ more) is_cut on.reading on.is) on.is
ways f (Some p) reads done is more is_cut =
    let on = reads more is_cut in
    let kept = on.keeps p.scenario p.events (is_of f.stage p.scenario p.events done.0) in
    from_past (text_of f ++ more) is_cut on.reading.stage on.reading.ending (good_stage (text_of f ++ more) is_cut on.reading on.is) on.is p kept.0 is kept.1
