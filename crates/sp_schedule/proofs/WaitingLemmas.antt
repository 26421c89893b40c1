-- What the line that waits in a feed is: when it is ready, and where its words lead, whatever follows it.
use Rattle.std.proofs.Common.{◌≡◌, ◌≢◌, ◌≤◌, ◌<◌, ◌+◌, ◌-◌, ◌==◌, ℕ, inl, inr, Bool, true, false, List, [], ◌∷◌, ◌++◌, length, take, Result, Ok, Err, refl, sym}
use Rattle.std.proofs.Common.{ap, ◌∙◌, subst, arith, append_assoc, append-nil, length-append}
use Rattle.std.specs.Prelude.{nat_le, nat_lt, not}
use Rattle.std.specs.List.{list_any, position_or_len}
use Rattle.std.proofs.lemmas.Bool.{cases_Bool, ne_eqb}
use Rattle.std.proofs.lemmas.Bool.Decides.{nat_tests}
use Rattle.std.proofs.lemmas.List.{append_cancel_right, get_or_at, take_all}
use Rattle.std.proofs.lemmas.List.Elements.{All-append, All-head, All-tail, All-weaker}
use Rattle.std.proofs.lemmas.List.Folds.{list_any-append, list_any_none}
use Rattle.sp_base.specs.declared.limits.TheConstants.{MAX_LINE_BYTES}
use Rattle.sp_text.specs.Lines.{IsInOneLine}
use Rattle.sp_text.specs.Spelling.{Word}
use Rattle.sp_text.specs.Texts.{GivesInMemory, bad_place, cut_line, is_newline, line_at, long_line, words_at}
use Rattle.sp_text.specs.declared.place.At.{At}
use Rattle.sp_text.specs.declared.place.TextRefused.{TextRefused}
use Rattle.sp_text.specs.declared.place.TextRefused.TheVariants as texts
use Rattle.sp_text.proofs.NextLine.{spelled_lines_are_read}
use Rattle.std.proofs.lemmas.List.Sums.{prefix_len-le-length}
use Rattle.sp_lines.specs.Texts.{At_line, At_words, Bad_words, No_words, before_rest, first_words}
use Rattle.sp_schedule.specs.Feeds.{IsFront, IsLeadOf, IsRefusedLead, IsUpToNewline, StopsAt, is_ready}
use Rattle.sp_schedule.specs.Lines.{IsLead}
use Rattle.sp_schedule.specs.Readings.{no_words}
use Rattle.sp_schedule.specs.Refusals.{text_kind}
use Rattle.sp_schedule.specs.declared.lead.Lead.{Lead}
use Rattle.sp_schedule.specs.declared.lead.Lead.TheVariants as leads
use Rattle.sp_schedule.specs.declared.refused.Kind.TheVariants as kinds
use Rattle.sp_schedule.specs.declared.stage.Ending.TheVariants as endings
use Rattle.sp_schedule.specs.declared.stage.Stage.{Stage}

-- ---- what waits

-- a line without a newline doesn't end with one
ends_not : (line : List ℕ) → IsInOneLine (line ++ 10 ∷ []) → ⊥
ends_not line one = one (length line) 0 (omega (arith, length-append line (10 ∷ []))) (get_or_at line 10 [] 0 (length line) refl)

no_newline : (bytes : List ℕ) → IsInOneLine bytes → list_any is_newline bytes ≡ false
no_newline bytes one = list_any_none is_newline bytes (All-weaker (λ (b : ℕ). b ≢ 10) (λ b. is_newline b ≡ false) (λ b differs. ne_eqb b 10 differs) bytes one)

newline_last : (line : List ℕ) → list_any is_newline (line ++ 10 ∷ []) ≡ true
newline_last line =
    list_any-append is_newline line (10 ∷ [])
    ∙ (elim (cases_Bool (list_any is_newline line)) [
      | inl is ↦ rw is refl
      | inr not_is ↦ rw not_is refl
    ])

-- what ends with a newline is ready
pub ready_line : (bytes line : List ℕ) → bytes ≡ line ++ 10 ∷ [] → is_ready bytes ≡ true
ready_line bytes line is = rw (is, newline_last line) refl

-- what doesn't is ready where it is too long
pub ready_open : (bytes : List ℕ) → IsFront bytes → ((line : List ℕ) → bytes ≢ line ++ 10 ∷ []) → is_ready bytes ≡ nat_lt MAX_LINE_BYTES (length bytes)
ready_open bytes (inl front) none = rw (no_newline bytes front.0) refl
ready_open bytes (inr ends) none = absurd (none ends.line ends.is)

-- what isn't ready is the front of a line, no longer than one may be
pub record IsOpen (bytes : List ℕ) : Type 0 where
  pub one_line : IsInOneLine bytes
  pub short : length bytes ≤ MAX_LINE_BYTES

at_most : (n : ℕ) → nat_lt 131200 n ≡ false → n ≤ 131200
at_most n is = grind (arith, nat_tests)

more_than : (n : ℕ) → nat_lt 131200 n ≡ true → 131200 < n
more_than n is = grind (arith, nat_tests)

pub is_open : (bytes : List ℕ) → IsFront bytes → is_ready bytes ≡ false → IsOpen bytes
is_open bytes (inl front) not_ready =
    let short : nat_lt 131200 (length bytes) ≡ false = rw (no_newline bytes front.0) at not_ready in
    record { one_line = front.0; short = at_most (length bytes) short }
is_open bytes (inr ends) not_ready = absurd (let ready = ready_line bytes ends.line ends.is in let both = sym ready ∙ not_ready in cc)

take_whole : (piece : List ℕ) (count : ℕ) → count ≡ length piece → take count piece ≡ piece
take_whole piece count is = take_all count piece (omega (arith, is))

-- what comes after an open front is a front again
pub front_grows : (bytes piece : List ℕ) (count : ℕ) → IsOpen bytes → IsUpToNewline piece count → length bytes + length (take count piece) ≤ MAX_LINE_BYTES + 1
    → IsFront (bytes ++ take count piece)
front_grows bytes piece count front (inl ended) room =
    let line = bytes ++ ended.0 in
    let split : bytes ++ take count piece ≡ line ++ 10 ∷ [] = ap (λ (xs : List ℕ). bytes ++ xs) ended.1 ∙ sym (append_assoc bytes ended.0 (10 ∷ [])) in
    inr (record {
      line = line;
      is = split;
      one_line = All-append (λ (b : ℕ). b ≢ 10) bytes ended.0 front.one_line ended.2;
      short = omega (arith, room, ap length ended.1, length-append ended.0 (10 ∷ []), length-append bytes ended.0);
    })
front_grows bytes piece count front (inr all) room =
    inl (
      All-append (λ (b : ℕ). b ≢ 10) bytes (take count piece) front.one_line (taken piece count all.0 all.1),
      omega (arith, room, length-append bytes (take count piece)),
    )
  where
    taken : (piece : List ℕ) (count : ℕ) → count ≡ length piece → IsInOneLine piece → IsInOneLine (take count piece)
    taken piece count is one = subst IsInOneLine (sym (take_whole piece count is)) one

-- ---- the line that waits

-- the words of a line are those of each text that begins with it
first_of : (number : ℕ) (line more : List ℕ) (answer : Result (List Word) TextRefused) → IsInOneLine line → length line ≤ MAX_LINE_BYTES
    → words_at number line ≡ answer
    → first_words number ((line ++ 10 ∷ []) ++ more) ≡ before_rest more answer
unfolding first_words
first_of number line more answer one short are = rw (append_assoc line (10 ∷ []) more, spelled_lines_are_read number line more one short, are) refl

-- no newline stands in the first bytes
past_front : (bytes more : List ℕ) → IsInOneLine bytes → length bytes ≤ position_or_len is_newline (bytes ++ more)
past_front [] more one = omega arith
past_front (b ∷ bytes) more one =
    let differs : (b == 10) ≡ false = ne_eqb b 10 (All-head (λ (x : ℕ). x ≢ 10) b bytes one) in
    rw differs (omega (arith, past_front bytes more (All-tail (λ (x : ℕ). x ≢ 10) b bytes one)))

-- a line that is too long is so whatever follows
first_long : (number : ℕ) (bytes more : List ℕ) → IsInOneLine bytes → MAX_LINE_BYTES < length bytes
    → first_words number (bytes ++ more) ≡ Err (long_line number)
unfolding first_words line_at
first_long number bytes more one long =
    let far = past_front bytes more one in
    let is_long : nat_lt 131200 (position_or_len is_newline (bytes ++ more)) ≡ true = grind (arith, nat_tests, far, long) in
    rw is_long refl

-- a line without its newline is cut
pub first_cut : (number : ℕ) (bytes : List ℕ) → IsOpen bytes → first_words number bytes ≡ Err (cut_line number bytes)
unfolding first_words line_at
first_cut number bytes front =
    let far = rw append-nil at (past_front bytes [] front.one_line) in
    let within = prefix_len-le-length (λ (x : ℕ). not (is_newline x)) bytes in
    let place : position_or_len is_newline bytes ≡ length bytes = omega (arith, far, within) in
    let short : nat_lt 131200 (length bytes) ≡ false = let h = front.short in grind (arith, nat_tests, h) in
    let whole : (length bytes == length bytes) ≡ true = grind (arith, nat_tests) in
    rw (place, short, whole) refl

some_more : (bytes more : List ℕ) → bytes ≢ [] → bytes ++ more ≢ []
some_more [] more some = absurd (some refl)
some_more (b ∷ bytes) more some = λ none. absurd (cc)

-- a line that isn't words, whatever follows
stops_line : (number : ℕ) (bytes : List ℕ) (stage : Stage) (refused : TextRefused) → bytes ≢ []
    → ((more : List ℕ) → first_words number (bytes ++ more) ≡ Err refused)
    → ((is_cut : Bool) → no_words is_cut number refused ≡ endings.Refused number (text_kind refused)) → StopsAt number bytes stage (text_kind refused)
stops_line number bytes stage refused some first ends = record {
  stop = No_words refused;
  leads = λ more. At_line refused (some_more bytes more some) (first more);
  ends = ends;
}

told : (number : ℕ) (refused : TextRefused) → ((place : At) → refused ≢ texts.Cut place) → (is_cut : Bool)
    → no_words is_cut number refused ≡ endings.Refused number (text_kind refused)
told number (texts.LineLong place) other true = refl
told number (texts.LineLong place) other false = refl
told number (texts.Cut place) other is_cut = absurd (other place refl)
told number (texts.BadWord place) other true = refl
told number (texts.BadWord place) other false = refl
told number (texts.BadNumber place) other true = refl
told number (texts.BadNumber place) other false = refl
told number (texts.BadHex place) other true = refl
told number (texts.BadHex place) other false = refl
told number texts.Memory other true = refl
told number texts.Memory other false = refl

not_empty : (bytes : List ℕ) → 131200 < length bytes → bytes ≢ []
not_empty [] long none = omega (arith, long)
not_empty (b ∷ bytes) long none = absurd (cc)

line_not_empty : (bytes line : List ℕ) → bytes ≡ line ++ 10 ∷ [] → bytes ≢ []
line_not_empty bytes line is none = let h = ap length is in let e = ap length none in omega (arith, h, e, length-append line (10 ∷ []))

-- a ready line without its newline is too long
pub is_long : (number : ℕ) (bytes : List ℕ) (stage : Stage) → IsFront bytes → is_ready bytes ≡ true → ((line : List ℕ) → bytes ≢ line ++ 10 ∷ [])
    → StopsAt number bytes stage kinds.LineLong
is_long number bytes stage (inl front) ready none =
    let long : nat_lt 131200 (length bytes) ≡ true = sym (ready_open bytes (inl front) none) ∙ ready in
    let more = more_than (length bytes) long in
    stops_line number bytes stage (long_line number) (not_empty bytes more) (λ rest. first_long number bytes rest front.0 more)
    (told number (long_line number) (λ place is. absurd (cc)))
is_long number bytes stage (inr ends) ready none = absurd (none ends.line ends.is)

-- a line with its newline is a whole one
pub whole_of : (bytes line : List ℕ) → IsFront bytes → bytes ≡ line ++ 10 ∷ [] → IsInOneLine line × (length line ≤ MAX_LINE_BYTES)
whole_of bytes line (inl front) is = absurd (ends_not line (subst IsInOneLine is front.0))
whole_of bytes line (inr ends) is =
    let same : ends.line ≡ line = append_cancel_right ends.line line (10 ∷ []) (sym ends.is ∙ is) in
    (subst IsInOneLine same ends.one_line, rw (sym same) ends.short)

-- its words, whatever follows
first_after : (number : ℕ) (bytes line : List ℕ) (answer : Result (List Word) TextRefused) → IsFront bytes → bytes ≡ line ++ 10 ∷ []
    → words_at number line ≡ answer
    → (more : List ℕ) → first_words number (bytes ++ more) ≡ before_rest more answer
first_after number bytes line answer front is are more =
    let whole = whole_of bytes line front is in
    rw is (first_of number line more answer whole.0 whole.1 are)

-- they lead where they say
pub words_lead : (number : ℕ) (bytes line : List ℕ) (stage : Stage) (words : List Word) (lead : Lead) → IsFront bytes → bytes ≡ line ++ 10 ∷ []
    → words_at number line ≡ Ok words
    → IsLead stage words lead → IsLeadOf number bytes stage lead
words_lead number bytes line stage words (leads.To next given) front is are judged =
    record { words = words; first = first_after number bytes line (Ok words) front is are; good = judged.0; parsed = judged.1 }
words_lead number bytes line stage words (leads.Bad back kind) front is are judged = (
  judged.0,
  record {
    stop = Bad_words kind;
    leads = λ more. At_words words more kind (first_after number bytes line (Ok words) front is are more) judged.1;
    ends = λ is_cut. refl;
  },
)
words_lead number bytes line stage words (leads.Unread back) front is are judged = judged

is_error : {X : Type 0} (view : X → List Word) (refused : TextRefused) (answer : Result (List Word) TextRefused) → GivesInMemory view (Err refused) answer
    → refused ≢ texts.Memory
    → answer ≡ Err refused
is_error view (texts.LineLong place) answer gives other = gives
is_error view (texts.Cut place) answer gives other = gives
is_error view (texts.BadWord place) answer gives other = gives
is_error view (texts.BadNumber place) answer gives other = gives
is_error view (texts.BadHex place) answer gives other = gives
is_error view texts.Memory answer gives other = absurd (other refl)

-- words are never cut
never_cut : (number : ℕ) (line : List ℕ) (place : At) → words_at number line ≡ Err (texts.Cut place) → ⊥
never_cut number line place are = elim (cases_Bool (nat_le (bad_place line) (length line))) [
  | inl bad ↦ (let said = rw bad at are in cc)
  | inr good ↦ (let said = rw good at are in cc)
]

-- a line that isn't words
no_words_stop : {X : Type 0} (view : X → List Word) (number : ℕ) (bytes line : List ℕ) (stage : Stage) (refused : TextRefused) → IsFront bytes
    → bytes ≡ line ++ 10 ∷ []
    → GivesInMemory view (Err refused) (words_at number line) → refused ≢ texts.Memory → StopsAt number bytes stage (text_kind refused)
no_words_stop view number bytes line stage refused front is gives other =
    let are = is_error view refused (words_at number line) gives other in
    stops_line number bytes stage refused (line_not_empty bytes line is) (first_after number bytes line (Err refused) front is are)
    (told number refused (λ place cut. never_cut number line place (rw cut at are)))

pub no_words_lead : {X : Type 0} (view : X → List Word) (number : ℕ) (bytes line : List ℕ) (stage : Stage) (refused : TextRefused) (lead : Lead) → IsFront bytes
    → bytes ≡ line ++ 10 ∷ []
    → GivesInMemory view (Err refused) (words_at number line) → IsRefusedLead stage refused lead → IsLeadOf number bytes stage lead
no_words_lead view number bytes line stage texts.Memory lead front is gives comes = subst (IsLeadOf number bytes stage) (sym comes) refl
no_words_lead view number bytes line stage (texts.LineLong place) lead front is gives comes =
    subst (IsLeadOf number bytes stage) (sym comes)
    (refl, no_words_stop view number bytes line stage (texts.LineLong place) front is gives (λ same. absurd (cc)))
no_words_lead view number bytes line stage (texts.Cut place) lead front is gives comes =
    subst (IsLeadOf number bytes stage) (sym comes) (refl, no_words_stop view number bytes line stage (texts.Cut place) front is gives (λ same. absurd (cc)))
no_words_lead view number bytes line stage (texts.BadWord place) lead front is gives comes =
    subst (IsLeadOf number bytes stage) (sym comes)
    (refl, no_words_stop view number bytes line stage (texts.BadWord place) front is gives (λ same. absurd (cc)))
no_words_lead view number bytes line stage (texts.BadNumber place) lead front is gives comes =
    subst (IsLeadOf number bytes stage) (sym comes)
    (refl, no_words_stop view number bytes line stage (texts.BadNumber place) front is gives (λ same. absurd (cc)))
no_words_lead view number bytes line stage (texts.BadHex place) lead front is gives comes =
    subst (IsLeadOf number bytes stage) (sym comes) (refl, no_words_stop view number bytes line stage (texts.BadHex place) front is gives (λ same. absurd (cc)))
