-- What the sink of a replay has is a beginning of an output of the whole input, whatever that is.
use Rattle.std.proofs.Common.{◌≡◌, ◌≤◌, ◌+◌, ◌-◌, ℕ, Bool, false, List, [], ◌++◌, length, take, nat_lt, Option, Some, None, refl, sym, ap, ◌∙◌, subst, arith}
use Rattle.std.proofs.Common.{append_assoc, append-nil, inr, length-append}
use Rattle.std.specs.Io.KnownBytes.{Appends, Consumes}
use Rattle.std.proofs.KnownBytes.{Appends-nil, Appends-trans, Consumes-nil}
use Rattle.std.proofs.Math.Seq.{take-append-add}
use Rattle.std.proofs.lemmas.List.{take-append-le, take_all}
use Rattle.sp_base.specs.declared.limits.TheConstants.{MAX_INPUT_BYTES}
use Rattle.sp_journal.specs.JournalText.{journal_lines}
use Rattle.sp_outside.specs.Streams.{AppendsFront, IsInput}
use Rattle.sp_schedule.proofs.FeedLemmas.{is_feed_unfed}
use Rattle.sp_schedule.proofs.LawLemmas.{good_texts_are_read, one_reading, readings_are_of_their_text}
use Rattle.sp_schedule.proofs.OnLemmas.{reads_on}
use Rattle.sp_schedule.specs.Feeds.{text_to, unfed}
use Rattle.sp_schedule.specs.Readings.{IsReading}
use Rattle.sp_schedule.specs.declared.stage.Ending.{Ending}
use Rattle.sp_schedule.specs.declared.stage.Stage.{Stage}
use Rattle.sp_world.specs.Past.{Past}
use Rattle.sp_runs.specs.declared.what.What.{What}
use Rattle.sp_replay.specs.declared.halt.Halt.{Halt}
use Rattle.sp_replay.specs.declared.halt.Halt.TheVariants as halts
use Rattle.sp_replay.specs.Claims.{IsBegun, IsSunk}
use Rattle.sp_replay.specs.Fronts.{IsFront}
use Rattle.sp_replay.specs.Outputs.{lines_before, lines_but_last}
use Rattle.sp_replay.specs.Playing.{HaltsAt, HaltsThere, IsBegunThere, IsBegunTo, IsForgedOf, IsSunkThere, IsSunkTo, Ways}
use Rattle.sp_replay.proofs.Outputs.{played_output}
use Rattle.sp_replay.proofs.Ways.{ways}

-- ---- sinks

-- a beginning of a text is one of each text that begins with it
pub begins_more : (before after : Option (List ℕ)) (text rest : List ℕ) → AppendsFront before after text → AppendsFront before after (text ++ rest)
begins_more before after text rest front = record {
  count = front.count;
  within = omega (arith, front.within, length-append text rest);
  appended = subst (Appends before after) (sym (take-append-le front.count text rest front.within)) front.appended;
}

-- a whole text is a beginning of it
pub whole_begins : (before after : Option (List ℕ)) (text : List ℕ) → Appends before after text → AppendsFront before after text
whole_begins before after text whole = record {
  count = length text;
  within = omega arith;
  appended = subst (Appends before after) (sym (take_all (length text) text (omega arith))) whole;
}

-- what was written, and then a beginning of more
pub then_begins : (start before after : Option (List ℕ)) (first text : List ℕ) → Appends start before first → AppendsFront before after text
    → AppendsFront start after (first ++ text)
then_begins start before after first text written front = record {
  count = length first + front.count;
  within = omega (arith, front.within, length-append first text);
  appended = subst (Appends start after) (sym (take-append-add first text front.count))
      (Appends-trans start before after first (take front.count text) written front.appended);
}

pub nothing_begins : (sink : Option (List ℕ)) (text : List ℕ) → AppendsFront sink sink text
nothing_begins sink text = record { count = 0; within = omega arith; appended = Appends-nil sink }

-- ---- fronts

pub front_of_front : (a b c : Option Past) → IsFront a b → IsFront b c → IsFront a c
front_of_front None b c first second = tt
front_of_front (Some a) None c first second = absurd first
front_of_front (Some a) (Some b) None first second = absurd second
front_of_front (Some a) (Some b) (Some c) first second = record {
  scenario = second.scenario ∙ first.scenario;
  more = first.more ++ second.more;
  events = second.events ∙ ap (λ xs. xs ++ second.more) first.events ∙ append_assoc a.events first.more second.more;
  entries = first.entries ++ second.entries;
  journal = second.journal ∙ ap (λ xs. xs ++ second.entries) first.journal ∙ append_assoc a.journal first.entries second.entries;
}

pub all_of_it : (a : Option Past) → IsFront a a
all_of_it None = tt
all_of_it (Some a) = record { scenario = refl; more = []; events = sym (append-nil a.events); entries = []; journal = sym (append-nil a.journal) }

-- ---- the input of a source

-- what is read of a source, of which this had come
pub record HasInput (left : Option (List ℕ)) (front : List ℕ) : Type 0 where
  pub more : List ℕ
  pub is_cut : Bool
  pub input : IsInput left MAX_INPUT_BYTES (front ++ more) is_cut

pub has_input : (left rest : Option (List ℕ)) (front : List ℕ) → Consumes left rest front → length front ≤ MAX_INPUT_BYTES → HasInput left front
has_input None rest front taken short = record { more = []; is_cut = false; input = tt }
has_input (Some text) None front taken short = absurd taken
has_input (Some text) (Some rest) front taken short =
    let all : MAX_INPUT_BYTES ≡ length front + (MAX_INPUT_BYTES - length front) = omega (arith, short) in
    let same : front ++ take (MAX_INPUT_BYTES - length front) rest ≡ take MAX_INPUT_BYTES text =
    sym (take-append-add front rest (MAX_INPUT_BYTES - length front)) ∙ ap (λ (n : ℕ). take n (front ++ rest)) (sym all)
    ∙ ap (take MAX_INPUT_BYTES) (sym taken) in
    record { more = take (MAX_INPUT_BYTES - length front) rest; is_cut = nat_lt MAX_INPUT_BYTES (length text); input = (same, refl) }

-- ---- beginnings

pub begun_of : (left : Option (List ℕ)) (front : List ℕ) (world past : Option Past) (start after : Option (List ℕ)) → HasInput left front → Ways front past
    → IsFront world past
    → AppendsFront start after (lines_before past) → IsBegun left world start after
begun_of left front world past start after has ways front_of begun =
    let way = ways has.more has.is_cut in
    record {
      whole = way.whole;
      claims = way.played.claims;
      goes_on = front_of_front world past way.whole front_of way.goes_on;
      status = way.status;
      output = way.output;
      is_output = played_output readings_are_of_their_text good_texts_are_read one_reading left (front ++ has.more) has.is_cut way.whole way.status way.output
          has.input way.played;
      begun = subst (AppendsFront start after) (sym way.begins) (begins_more start after (lines_before past) way.rest begun);
    }

-- what was begun of a journal but for its last piece
pub sunk_of : (left : Option (List ℕ)) (front : List ℕ) (past : Past) (start after : Option (List ℕ)) (rest : List ℕ) → HasInput left front
    → Ways front (Some past)
    → Appends start after (lines_but_last past.journal ++ rest) → AppendsFront start after (journal_lines past.journal) → IsSunk left (Some past) start after
sunk_of left front past start after rest has ways least most = record {
  begun = begun_of left front (Some past) (Some past) start after has ways (all_of_it (Some past)) most;
  wrote = ((rest, least), inr most);
}

pub sunk_to : (left : Option (List ℕ)) (front : List ℕ) (world : Option Past) (start after : Option (List ℕ)) → HasInput left front
    → IsSunkThere front world start after
    → IsSunkTo left world start after
sunk_to left front world start after has there = rw there.is (record {
  buffers = there.buffers;
  sunk = sunk_of left front there.past start after there.rest has there.ways there.least there.most;
})

pub begun_to : (left : Option (List ℕ)) (front : List ℕ) (world : Option Past) (start after : Option (List ℕ)) → HasInput left front
    → IsBegunThere front world start after
    → IsBegunTo left world start after
begun_to left front world start after has there = record {
  buffers = there.buffers;
  begun = begun_of left front world there.past start after has there.ways there.goes_on there.begun;
}

-- before anything was read
pub no_ways : Ways [] None
unfolding text_to
no_ways = ways unfed None (λ more is_cut. reads_on unfed is_feed_unfed more is_cut) tt tt

-- where nothing is to be written, nothing is begun
pub nothing_begun : (left sink : Option (List ℕ)) → IsBegun left None sink sink
nothing_begun left sink = begun_of left [] None None sink sink (has_input left left [] (Consumes-nil left) (omega arith)) no_ways tt (nothing_begins sink [])

-- ---- why no more is read, in terms of the source

pub halts_at : (left now : Option (List ℕ)) (front : List ℕ) (world : Option Past) (start after : Option (List ℕ)) (halt : Halt) → HasInput left front
    → HaltsThere front world start after halt → HaltsAt left now world start after halt
halts_at left now front world start after (halts.Read ending) has there = record {
  text = front ++ has.more;
  is_cut = has.is_cut;
  input = has.input;
  stage = there.stage;
  reading = there.reading has.more has.is_cut;
  good = there.good;
  done = there.done;
  written = there.written;
}
halts_at left now front world start after halts.Forged has there = record {
  text = front ++ has.more;
  is_cut = has.is_cut;
  input = has.input;
  past = there.past;
  is = there.is;
  number = there.number;
  what = there.what;
  forged = there.forged has.more has.is_cut;
  short = there.short;
  buffers = there.buffers;
  written = there.written;
}
halts_at left now front world start after halts.Sink has there = sunk_to left front world start after has there
halts_at left now front world start after halts.Memory has there = begun_to left front None start after has there
halts_at left now front world start after halts.Source has there = absurd there

-- ---- what holds whatever follows a text holds whatever follows more of it

reading_on : (front more rest : List ℕ) (is_cut : Bool) (stage : Stage) (ending : Ending)
    → IsReading (front ++ (more ++ rest)) is_cut (record { stage = stage; ending = ending })
    → IsReading ((front ++ more) ++ rest) is_cut (record { stage = stage; ending = ending })
reading_on front more rest is_cut stage ending is =
    subst (λ (xs : List ℕ). IsReading xs is_cut (record { stage = stage; ending = ending })) (sym (append_assoc front more rest)) is

ways_on : (front more : List ℕ) (past : Option Past) → Ways front past → Ways (front ++ more) past
ways_on front more past ways rest is_cut = rw append_assoc (ways (more ++ rest) is_cut)

forged_on : (front more rest : List ℕ) (is_cut : Bool) (past : Past) (number : ℕ) (what : What) → IsForgedOf (front ++ (more ++ rest)) is_cut past number what
    → IsForgedOf ((front ++ more) ++ rest) is_cut past number what
forged_on front more rest is_cut past number what is = subst (λ (xs : List ℕ). IsForgedOf xs is_cut past number what) (sym (append_assoc front more rest)) is

begun_on : (front more : List ℕ) (world : Option Past) (start after : Option (List ℕ)) → IsBegunThere front world start after
    → IsBegunThere (front ++ more) world start after
begun_on front more world start after there = record {
  past = there.past;
  ways = ways_on front more there.past there.ways;
  goes_on = there.goes_on;
  buffers = there.buffers;
  begun = there.begun;
}

sunk_on : (front more : List ℕ) (world : Option Past) (start after : Option (List ℕ)) → IsSunkThere front world start after
    → IsSunkThere (front ++ more) world start after
sunk_on front more world start after there = record {
  past = there.past;
  is = there.is;
  ways = ways_on front more (Some there.past) there.ways;
  buffers = there.buffers;
  rest = there.rest;
  least = there.least;
  most = there.most;
}

pub halts_on : (front more : List ℕ) (world : Option Past) (start after : Option (List ℕ)) (halt : Halt) → HaltsThere front world start after halt
    → HaltsThere (front ++ more) world start after halt
halts_on front more world start after (halts.Read ending) there = record {
  stage = there.stage;
  reading = λ rest is_cut. reading_on front more rest is_cut there.stage ending (there.reading (more ++ rest) is_cut);
  good = there.good;
  done = there.done;
  written = there.written;
}
halts_on front more world start after halts.Forged there = record {
  past = there.past;
  is = there.is;
  number = there.number;
  what = there.what;
  forged = λ rest is_cut. forged_on front more rest is_cut there.past there.number there.what (there.forged (more ++ rest) is_cut);
  short = there.short;
  buffers = there.buffers;
  written = there.written;
}
halts_on front more world start after halts.Sink there = sunk_on front more world start after there
halts_on front more world start after halts.Memory there = begun_on front more None start after there
halts_on front more world start after halts.Source there = absurd there
