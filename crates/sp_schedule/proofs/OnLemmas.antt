-- Whatever follows what came, the whole is read on from there.
use Rattle.std.proofs.Common.{◌≡◌, ◌≢◌, ◌≤◌, ◌+◌, ℕ, zero, suc, inl, inr, Bool, List, [], ◌∷◌, ◌++◌, length, Result, Ok, Err, refl, sym, ap, ◌∙◌, subst, arith}
use Rattle.std.proofs.Common.{append_assoc, append-nil, length-append, if◌then◌else◌}
use Rattle.std.specs.Prelude.{nat_le}
use Rattle.std.specs.List.{join_with_byte}
use Rattle.sp_base.specs.declared.limits.TheConstants.{MAX_EVENTS}
use Rattle.sp_text.specs.Spelling.{Word}
use Rattle.sp_text.specs.declared.place.TextRefused.{TextRefused}
use Rattle.sp_lines.specs.Rows.{fits, line_text}
use Rattle.sp_lines.specs.Texts.{At_end, At_line, At_words, Bad_words, Good, Leads, No_words, Nothing_left, Stop, first_words}
use Rattle.sp_lines.specs.declared.fault.Fault.{Fault}
use Rattle.sp_lines.proofs.TextLemmas.{spelled_first}
use Rattle.sp_schedule.specs.Feeds.{AreReadSoFar, Fed, IsFeed, IsOf, Keeps, ReadsOn, text_to}
use Rattle.sp_schedule.specs.Header.{end_cells}
use Rattle.sp_schedule.specs.Lines.{event_more, says}
use Rattle.sp_schedule.specs.Readings.{ending_of}
use Rattle.sp_schedule.specs.declared.refused.Kind.{Kind}
use Rattle.sp_schedule.specs.declared.refused.Kind.TheVariants as kinds
use Rattle.sp_schedule.specs.declared.stage.Stage.{Stage}
use Rattle.sp_schedule.specs.declared.stage.Stage.TheVariants as stages
use Rattle.sp_schedule_events.specs.EventLines.{read_event}
use Rattle.sp_schedule_events.specs.declared.event.Event.{Event}
use Rattle.sp_schedule_events.specs.declared.scenario.Scenario.{Scenario}
use Rattle.sp_schedule.proofs.StageLemmas.{if_cases}

-- ---- what a line keeps

keeps_all : (stage : Stage) → Keeps stage stage
keeps_all stage s es is = ([], subst (IsOf stage s) (sym (append-nil es)) is)

keeps_then : (a b c : Stage) → Keeps a b → Keeps b c → Keeps a c
keeps_then a b c first second s es is =
    let here = first s es is in
    let there = second s (es ++ here.0) here.1 in
    (here.0 ++ there.0, subst (IsOf c s) (append_assoc es here.0 there.0) there.1)

event_keeps : (s : Scenario) (es : List Event) (read : Result Event Fault) (next : Stage) → event_more s es read ≡ Ok next
    → Keeps (stages.Events s es) next
event_keeps s es (Ok e) next is =
    let to : stages.Events s (es ++ e ∷ []) ≡ next = cc in
    λ t fs same. (e ∷ [], subst (λ (z : Stage). IsOf z t (fs ++ e ∷ [])) to (same.0, ap (λ (gs : List Event). gs ++ e ∷ []) same.1))
event_keeps s es (Err fault) next is = absurd cc

says_keeps : (stage next : Stage) (words : List Word) → says stage words ≡ Ok next → Keeps stage next
says_keeps stages.Start next words is = λ s es none. absurd none
says_keeps (stages.Version format) next words is = λ s es none. absurd none
says_keeps (stages.Seed format seed) next words is = λ s es none. absurd none
says_keeps (stages.Height format seed height) next words is = λ s es none. absurd none
says_keeps (stages.Bounds format seed height limits) next words is = λ s es none. absurd none
says_keeps (stages.Edges scenario) next words is = λ s es none. absurd none
says_keeps (stages.Bads scenario) next words is = λ s es none. absurd none
says_keeps (stages.Epochs scenario) next words is = λ s es none. absurd none
says_keeps (stages.Events s es) next words is =
    elim (if_cases (fits end_cells words) (Ok (stages.End s es))
    (if nat_le MAX_EVENTS (length es) then Err kinds.TooMany else event_more s es (read_event s es words)) (Ok next) is) [
      | inl end ↦ (
          let to : stages.End s es ≡ next = (let said = end.1 in cc) in
          λ t fs same. ([], subst (λ (z : Stage). IsOf z t (fs ++ [])) to (same.0, same.1 ∙ sym (append-nil fs))))
      | inr other ↦
          elim (if_cases (nat_le MAX_EVENTS (length es)) (Err kinds.TooMany) (event_more s es (read_event s es words)) (Ok next) other.1) [
            | inl many ↦ absurd (let out = many.1 in cc)
            | inr event ↦ event_keeps s es (read_event s es words) next event.1
          ]
    ]
says_keeps (stages.End s es) next words is = absurd cc

-- ---- every text is read on

record Somewhere (stage : Stage) (number : ℕ) (text : List ℕ) : Type 0 where
  last : Stage
  end : ℕ
  stop : Stop Kind
  leads : Leads says stage number text last end stop
  keeps : Keeps stage last

less_left : (number : ℕ) (text rest : List ℕ) (words : List Word) → first_words number text ≡ Ok (words, rest) → length rest + 1 ≤ length text
less_left number text rest words first =
    omega (
      arith,
      ap length (spelled_first number text rest words first),
      length-append (line_text words) rest,
      length-append (join_with_byte 32 words) (10 ∷ []),
    )

-- the lines after a line of this number, where all shorter texts lead somewhere
after_first : (stage : Stage) (number : ℕ) (text : List ℕ) → text ≢ []
    → ((next : Stage) (rest : List ℕ) → length rest + 1 ≤ length text → Somewhere next (number + 1) rest)
    → Somewhere stage number text
after_first stage number text some shorter = at_first (first_words number text) refl
  where
    at_said : (words : List Word) (rest : List ℕ) → first_words number text ≡ Ok (words, rest) → (said : Result Stage Kind) → says stage words ≡ said
        → Somewhere stage number text
    at_said words rest first (Err kind) is =
        record { last = stage; end = number; stop = Bad_words kind; leads = At_words words rest kind first is; keeps = keeps_all stage }
    at_said words rest first (Ok next) is =
        let more = shorter next rest (less_left number text rest words first) in
        record {
          last = more.last;
          end = more.end;
          stop = more.stop;
          leads = Good words rest next first is more.leads;
          keeps = keeps_then stage next more.last (says_keeps stage next words is) more.keeps;
        }

    at_first : (parts : Result (List Word × List ℕ) TextRefused) → first_words number text ≡ parts → Somewhere stage number text
    at_first (Ok pair) is = at_said pair.0 pair.1 is (says stage pair.0) refl
    at_first (Err r) is = record { last = stage; end = number; stop = No_words r; leads = At_line r some is; keeps = keeps_all stage }

somewhere : (n : ℕ) (stage : Stage) (number : ℕ) (text : List ℕ) → length text ≤ n → Somewhere stage number text
somewhere n stage number [] short = record { last = stage; end = number; stop = Nothing_left; leads = At_end; keeps = keeps_all stage }
somewhere zero stage number (b ∷ text) short = absurd (omega (arith, short))
somewhere (suc n) stage number (b ∷ text) short =
    after_first stage number (b ∷ text) (λ none. absurd (cc)) (λ next rest less. somewhere n next (number + 1) rest (omega (arith, short, less)))

-- what a feed reads on is what the whole text says
pub reads_on : (f : Fed) → IsFeed f → (more : List ℕ) (is_cut : Bool) → ReadsOn f more is_cut
reads_on f is more is_cut =
    let on = somewhere (length (f.waiting ++ more)) f.stage (f.count + 1) (f.waiting ++ more) (omega arith) in
    record {
      reading = record { stage = on.last; ending = ending_of is_cut on.last on.end on.stop };
      is = record {
        line = on.end;
        stop = on.stop;
        leads = subst (λ (xs : List ℕ). Leads says stages.Start 1 xs on.last on.end on.stop) (sym (append_assoc (text_to f.stage) f.waiting more))
            (is.goes_on (f.waiting ++ more) on.last on.end on.stop on.leads);
        ends = refl;
      };
      keeps = on.keeps;
    }

pub read_so_far : (f : Fed) → IsFeed f → AreReadSoFar f
read_so_far f is = record {
  line = f.count + 1;
  stop = Nothing_left;
  leads = subst (λ (xs : List ℕ). Leads says stages.Start 1 xs f.stage (f.count + 1) Nothing_left) (append-nil (text_to f.stage))
      (is.goes_on [] f.stage (f.count + 1) Nothing_left At_end);
  ends = refl;
}
