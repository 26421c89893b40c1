-- What a feed keeps from call to call, and what its calls give.
use Rattle.std.proofs.Common.{◌≡◌, ◌≢◌, ◌≤◌, ◌<◌, ◌+◌, ◌-◌, ◌==◌, ◌⊎◌, min, ℕ, inl, inr, Bool, true, false, List, [], ◌∷◌, ◌++◌, length, take, refl, sym, ap}
use Rattle.std.proofs.Common.{◌∙◌, subst, arith, append_assoc, append-nil, length-append, length-take}
use Rattle.std.specs.Prelude.{nat_lt}
use Rattle.std.specs.List.{flat_map, join_with_byte, list_any}
use Rattle.std.proofs.lemmas.Bool.{cases_Bool, cases_lt, eqb-true}
use Rattle.std.proofs.Math.Seq.{take-append_seam}
use Rattle.std.proofs.lemmas.Bool.Decides.{nat_tests}
use Rattle.std.proofs.lemmas.Grind.{flat_map-append}
use Rattle.std.proofs.lemmas.List.{take-take}
use Rattle.std.proofs.lemmas.List.Elements.{All-nil}
use Rattle.sp_base.specs.declared.limits.TheConstants.{MAX_INPUT_BYTES}
use Rattle.sp_text.specs.Lines.{BeginsWithLine, IsInOneLine}
use Rattle.sp_text.specs.Spelling.{Word}
use Rattle.sp_text.specs.Texts.{cut_line, is_newline}
use Rattle.sp_text.specs.declared.place.At.{At}
use Rattle.sp_text.specs.declared.place.TextRefused.TheVariants as texts
use Rattle.sp_lines.specs.Rows.{line_text}
use Rattle.sp_lines.specs.Texts.{At_end, At_line, Good, Leads, No_words, Nothing_left}
use Rattle.sp_lines.proofs.LeadLemmas.{led_by}
use Rattle.sp_lines.proofs.TextLemmas.{spelled_first}
use Rattle.sp_schedule.specs.Feeds.{Fed, IsBadLine, IsFeed, IsFront, IsLeadOf, IsReadAs, IsUpToNewline, LeadsOn, StopsAt, TakesLine, TakesPiece, is_ready}
use Rattle.sp_schedule.specs.Feeds.{lines_to, text_of, text_to, unfed}
use Rattle.sp_schedule.specs.Lines.{says}
use Rattle.sp_schedule.specs.Readings.{IsGoodStage, no_words, nothing_left}
use Rattle.sp_schedule.specs.declared.lead.Lead.{Lead}
use Rattle.sp_schedule.specs.declared.lead.Lead.TheVariants as leads
use Rattle.sp_schedule.specs.declared.parsed.Parsed.{Parsed}
use Rattle.sp_schedule.specs.declared.refused.Kind.{Kind}
use Rattle.sp_schedule.specs.declared.stage.Ending.{Ending}
use Rattle.sp_schedule.specs.declared.stage.Stage.{Stage}
use Rattle.sp_schedule.specs.declared.stage.Stage.TheVariants as stages
use Rattle.sp_schedule.proofs.StageLemmas.{AreGood, all_lines, is_good_stage, says_more}
use Rattle.sp_schedule.proofs.WaitingLemmas.{first_cut, front_grows, is_open, ready_line}

-- ---- what always holds

-- before the first line a feed is one
pub is_feed_unfed : IsFeed unfed
unfolding text_to
is_feed_unfed = record {
  goes_on = λ rest last end stop on. on;
  front = inl (All-nil (λ (b : ℕ). b ≢ 10), omega arith);
  few = omega arith;
  size = omega arith;
}

-- the stage of a feed is that of its lines, and all that they said is good
pub good_feed : (f : Fed) → IsFeed f → AreGood f.stage
good_feed f is =
    let led = led_by says (is.goes_on [] f.stage (f.count + 1) Nothing_left At_end) in
    (all_lines led.lines stages.Start f.stage tt led.follows).1

-- one line more
text_more : (stage next : Stage) (words : List Word) → lines_to next ≡ lines_to stage ++ words ∷ [] → text_to next ≡ text_to stage ++ line_text words
unfolding text_to
text_more stage next words is =
    ap (flat_map line_text) is ∙ flat_map-append line_text (lines_to stage) (words ∷ [])
    ∙ ap (λ (xs : List ℕ). flat_map line_text (lines_to stage) ++ xs) (append-nil (line_text words))

-- the line that waits is spelled by its words
pub spelled_line : (number : ℕ) (waiting : List ℕ) (stage next : Stage) (given : Parsed) (on : LeadsOn number waiting stage given next)
    → waiting ≡ line_text on.words
spelled_line number waiting stage next given on =
    let first = rw append-nil at (on.first []) in
    spelled_first number waiting [] on.words first ∙ append-nil (line_text on.words)

pub record IsStep (old new : Fed) : Type 0 where
  pub text : text_of new ≡ text_of old
  pub good : AreGood new.stage

-- a feed that takes a line is one after it
pub step : (old new : Fed) (given : Parsed) → AreGood old.stage → TakesLine old given new → IsStep old new
step old new given good takes =
    let more = says_more old.stage takes.leads.words new.stage good takes.leads.good in
    let line = spelled_line (old.count + 1) old.waiting old.stage new.stage given takes.leads in
    let text : text_of new ≡ text_of old =
    ap (λ (xs : List ℕ). text_to new.stage ++ xs) takes.waiting ∙ append-nil (text_to new.stage)
    ∙ text_more old.stage new.stage takes.leads.words more.0 ∙ ap (λ (xs : List ℕ). text_to old.stage ++ xs) (sym line) in
    record { text = text; good = more.1 }

length_line : (words : List Word) → 0 < length (line_text words)
length_line words = omega (arith, length-append (join_with_byte 32 words) (10 ∷ []))

pub line_read : (old new : Fed) (given : Parsed) → IsFeed old → TakesLine old given new → IsFeed new
line_read old new given is takes =
    let on = takes.leads in
    let good = good_feed old is in
    let stepped = step old new given good takes in
    let more = says_more old.stage on.words new.stage good on.good in
    let line = spelled_line (old.count + 1) old.waiting old.stage new.stage given on in
    let text = text_more old.stage new.stage on.words more.0 in
    record {
      goes_on = λ rest last end stop leads.
          let here : Leads says new.stage (old.count + 1 + 1) rest last end stop =
          subst (λ (n : ℕ). Leads says new.stage (n + 1) rest last end stop) takes.count leads in
          let all = is.goes_on (old.waiting ++ rest) last end stop (Good on.words rest new.stage (on.first rest) on.good here) in
          let whole : text_to old.stage ++ (old.waiting ++ rest) ≡ text_to new.stage ++ rest =
          sym (append_assoc (text_to old.stage) old.waiting rest) ∙ ap (λ (xs : List ℕ). (text_to old.stage ++ xs) ++ rest) line
          ∙ ap (λ (xs : List ℕ). xs ++ rest) (sym text) in
          subst (λ (xs : List ℕ). Leads says stages.Start 1 xs last end stop) whole all;
      front = inl (subst IsInOneLine (sym takes.waiting) (All-nil (λ (b : ℕ). b ≢ 10)), omega (arith, ap length takes.waiting));
      few = omega (arith, is.few, takes.count, ap length text, length-append (text_to old.stage) (line_text on.words), length_line on.words);
      size = omega (arith, is.size, ap length stepped.text);
    }

pub piece_taken : (old new : Fed) (piece : List ℕ) (count : ℕ) → TakesPiece old piece count new → text_of new ≡ text_of old ++ take count piece
piece_taken old new piece count takes =
    ap (λ (xs : List ℕ). text_to new.stage ++ xs) takes.waiting ∙ ap (λ (z : Stage). text_to z ++ (old.waiting ++ take count piece)) takes.stage
    ∙ sym (append_assoc (text_to old.stage) old.waiting (take count piece))

-- ---- what is bad, and how a text ends

-- the line that waits is the first bad one
pub bad_line : (f : Fed) (kind : Kind) → IsFeed f → StopsAt (f.count + 1) f.waiting f.stage kind → IsBadLine f (f.count + 1) kind
bad_line f kind is stops more is_cut = record {
  line = f.count + 1;
  stop = stops.stop;
  leads = subst (λ (xs : List ℕ). Leads says stages.Start 1 xs f.stage (f.count + 1) stops.stop) (sym (append_assoc (text_to f.stage) f.waiting more))
      (is.goes_on (f.waiting ++ more) f.stage (f.count + 1) stops.stop (stops.leads more));
  ends = sym (stops.ends is_cut);
}

-- nothing waits
pub ends_empty : (f : Fed) (is_cut : Bool) (ending : Ending) → IsFeed f → f.waiting ≡ [] → ending ≡ nothing_left is_cut f.stage (f.count + 1)
    → IsReadAs f is_cut ending
ends_empty f is_cut ending is none ends = record {
  line = f.count + 1;
  stop = Nothing_left;
  leads = is.goes_on f.waiting f.stage (f.count + 1) Nothing_left (rw none At_end);
  ends = ends;
}

-- the front of a line waits
pub ends_open : (f : Fed) (is_cut : Bool) (ending : Ending) → IsFeed f → f.waiting ≢ [] → is_ready f.waiting ≡ false
    → ((place : At) → ending ≡ no_words is_cut (f.count + 1) (texts.Cut place)) → IsReadAs f is_cut ending
ends_open f is_cut ending is some not_ready ends = record {
  line = f.count + 1;
  stop = No_words (cut_line (f.count + 1) f.waiting);
  leads = is.goes_on f.waiting f.stage (f.count + 1) (No_words (cut_line (f.count + 1) f.waiting))
      (At_line (cut_line (f.count + 1) f.waiting) some (first_cut (f.count + 1) f.waiting (is_open f.waiting is.front not_ready)));
  ends = ends (record { line = f.count + 1; column = length f.waiting + 1 });
}

-- ---- a piece comes

-- what a line and its newline take of a piece
pub up_to_line : (piece line rest : List ℕ) → BeginsWithLine piece line rest → IsUpToNewline piece (length line + 1)
up_to_line piece line rest begins =
    let joined : piece ≡ (line ++ 10 ∷ []) ++ rest = begins.split ∙ sym (append_assoc line (10 ∷ []) rest) in
    let long : length line + 1 ≡ length (line ++ 10 ∷ []) = omega (arith, length-append line (10 ∷ [])) in
    let front : take (length line + 1) piece ≡ line ++ 10 ∷ [] = rw (joined, long) (take-append_seam (line ++ 10 ∷ []) rest) in
    inl (line, front, begins.one_line)

-- so many bytes of a piece
pub record Comes (old new : Fed) (piece : List ℕ) (count : ℕ) : Type 0 where
  pub feed : IsFeed new
  pub takes : TakesPiece old piece count new

ready_long : (bytes : List ℕ) → 131200 < length bytes → is_ready bytes ≡ true
ready_long bytes long =
    let is : nat_lt 131200 (length bytes) ≡ true = grind (arith, nat_tests, long) in
    elim (cases_Bool (list_any is_newline bytes)) [
      | inl newline ↦ rw newline refl
      | inr none ↦ rw (none, is) refl
    ]

stops_where : (bytes piece : List ℕ) (most count : ℕ) → most ≡ min (131201 - length bytes) (length piece) → length bytes ≤ 131200 → count ≤ most
    → IsUpToNewline (take most piece) count
    → take count (take most piece) ≡ take count piece
    → ((count ≡ length piece) ⊎ (is_ready (bytes ++ take count piece) ≡ true)) × (0 < length piece → 0 < count)
stops_where bytes piece most count is short within (inl ended) same =
    let here : take count piece ≡ ended.0 ++ 10 ∷ [] = sym same ∙ ended.1 in (
      inr (ready_line (bytes ++ take count piece) (bytes ++ ended.0) (ap (λ (xs : List ℕ). bytes ++ xs) here ∙ sym (append_assoc bytes ended.0 (10 ∷ [])))),
      λ some. omega (arith, ap length here, length-append ended.0 (10 ∷ []), length-take count piece),
    )
stops_where bytes piece most count is short within (inr all) same =
    let count_is : count ≡ most = omega (arith, all.0, length-take most piece, is) in (
      elim (cases_lt (131201 - length bytes) (length piece)) [
        | inl more ↦ inr
            (ready_long (bytes ++ take count piece) (omega (arith, length-append bytes (take count piece), length-take count piece, count_is, is, more, short)))
        | inr few ↦ inl (omega (arith, count_is, is, few))
      ],
      λ some. omega (arith, count_is, is, some, short),
    )

pub comes : (old new : Fed) (piece : List ℕ) (most count : ℕ) → IsFeed old → is_ready old.waiting ≡ false
    → length (text_of old) + length piece ≤ MAX_INPUT_BYTES
    → most ≡ min (131201 - length old.waiting) (length piece) → count ≤ length (take most piece) → IsUpToNewline (take most piece) count
    → new.stage ≡ old.stage → new.count ≡ old.count → new.waiting ≡ old.waiting ++ take count piece → Comes old new piece count
comes old new piece most count is not_ready room most_is within newline stage lines waiting =
    let front = is_open old.waiting is.front not_ready in
    let few : count ≤ most = omega (arith, within, length-take most piece) in
    let same : take count (take most piece) ≡ take count piece = take-take count most piece few in
    let stops = stops_where old.waiting piece most count most_is front.short few newline same in
    let takes : TakesPiece old piece count new = record {
      stage = stage;
      lines = lines;
      waiting = waiting;
      within = omega (arith, few, most_is);
      all = rw waiting stops.0;
      some = stops.1;
    } in
    let short : length old.waiting + length (take count (take most piece)) ≤ 131201 =
    omega (arith, length-take count (take most piece), length-take most piece, most_is, front.short) in
    let grown : IsFront (old.waiting ++ take count piece) =
    subst (λ (xs : List ℕ). IsFront (old.waiting ++ xs)) same (front_grows old.waiting (take most piece) count front newline short) in
    let text = piece_taken old new piece count takes in
    record {
      feed = record {
        goes_on = λ rest last end stop on.
            subst (λ (z : Stage). Leads says stages.Start 1 (text_to z ++ rest) last end stop) (sym stage)
            (is.goes_on rest last end stop
            (subst (λ (z : Stage). Leads says z (old.count + 1) rest last end stop) stage
            (subst (λ (n : ℕ). Leads says new.stage (n + 1) rest last end stop) lines on)));
        front = subst IsFront (sym waiting) grown;
        few = subst (λ (z : Stage). new.count ≤ length (text_to z)) (sym stage) (omega (arith, is.few, lines));
        size = omega (arith, room, ap length text, length-append (text_of old) (take count piece), length-take count piece);
      };
      takes = takes;
    }

-- ---- the line that waits was read

pub record WasRead (old new : Fed) (given : Parsed) : Type 0 where
  pub feed : IsFeed new
  pub takes : TakesLine old given new
  pub text : text_of new ≡ text_of old
  pub good : IsGoodStage new.stage

pub was_read : (old new : Fed) (given : Parsed) (lead : Lead) → IsFeed old → IsLeadOf (old.count + 1) old.waiting old.stage lead
    → lead ≡ leads.To new.stage given
    → new.count ≡ old.count + 1 → new.waiting ≡ [] → WasRead old new given
was_read old new given lead is of_line to count waiting =
    let on : LeadsOn (old.count + 1) old.waiting old.stage given new.stage = subst (IsLeadOf (old.count + 1) old.waiting old.stage) to of_line in
    let takes : TakesLine old given new = record { leads = on; count = count; waiting = waiting } in
    let stepped = step old new given (good_feed old is) takes in
    record { feed = line_read old new given is takes; takes = takes; text = stepped.text; good = is_good_stage new.stage stepped.good }

-- or it is bad, and nothing has changed
pub was_bad : (old : Fed) (back : Stage) (kind : Kind) (lead : Lead) → IsFeed old → IsLeadOf (old.count + 1) old.waiting old.stage lead
    → lead ≡ leads.Bad back kind
    → (back ≡ old.stage) × IsBadLine old (old.count + 1) kind
was_bad old back kind lead is of_line bad =
    let stops : (back ≡ old.stage) × StopsAt (old.count + 1) old.waiting old.stage kind = subst (IsLeadOf (old.count + 1) old.waiting old.stage) bad of_line in
    (stops.0, bad_line old kind is stops.1)

pub is_empty : (bytes : List ℕ) → true ≡ (length bytes == 0) → bytes ≡ []
is_empty [] is = refl
is_empty (b ∷ bytes) is = absurd (let none = eqb-true (length (b ∷ bytes)) 0 (sym is) in omega (arith, none))
