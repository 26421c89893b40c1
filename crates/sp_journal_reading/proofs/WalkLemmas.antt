-- The lines of a good journal lead to its end, each good in its place.
use Rattle.std.proofs.Common.{◌≡◌, ◌≤◌, ◌<◌, ◌+◌, ◌*◌, ◌^◌, ◌&&◌, ◌==◌, ℕ, Bool, true, false, List, [], ◌∷◌, ◌++◌, length, map, Option, Some, None, Ok, inl}
use Rattle.std.proofs.Common.{inr, refl, sym, ap, ◌∙◌, subst, arith, append_assoc, append-nil, length-append}
use Rattle.std.specs.Prelude.{All, codes, filter, nat_le}
use Rattle.std.specs.Fmt.{decimal}
use Rattle.std.specs.List.{list_all}
use Rattle.std.specs.Str.Parse.{AllDigits}
use Rattle.std.proofs.lemmas.Fmt.{decimal_is_IsNumeral}
use Rattle.std.proofs.lemmas.Str.Parse.{digit_from_value}
use Rattle.std.proofs.lemmas.Bool.{and_from, and_parts, cases_Bool}
use Rattle.std.proofs.lemmas.Bool.Decides.{nat_tests}
use Rattle.std.proofs.lemmas.List.Elements.{All-append, All-cons, All-head, All-nil, All-tail}
use Rattle.sp_base.proofs.RefusalLemmas.{then_ok}
use Rattle.sp_base.specs.declared.limits.TheConstants.{MAX_LINE_BYTES}
use Rattle.sp_text.specs.Spelling.{Word}
use Rattle.sp_lines.specs.Cells.{Cell, Name, Number, same}
use Rattle.sp_lines.specs.Rows.{AreIn, Values, spelled}
use Rattle.sp_lines.specs.Texts.{follow_all}
use Rattle.sp_lines.specs.Widths.{is_good_cell, is_good_row, width, widths}
use Rattle.sp_lines.proofs.RowLemmas.{line_back}
use Rattle.sp_lines.proofs.TextLemmas.{IsGoodLine}
use Rattle.sp_lines.proofs.WidthLemmas.{good_row_line, good_row_room}
use Rattle.sp_lines.proofs.Words.{same_words}
use Rattle.sp_msg.specs.declared.effect.Effect.{Effect}
use Rattle.sp_msg.specs.declared.effect.Why.TheVariants as whys
use Rattle.sp_journal_reading.specs.declared.effect_line.Kind.TheVariants as kinds
use Rattle.sp_journal_reading.specs.EffectTable as effect_forms
use Rattle.sp_journal_reading.specs.EffectTable.{IsInRange, form_of, values_of}
use Rattle.sp_journal.specs.JournalText.{delivered_count, frame_count, is_frame, is_sent, priority_count, sent_count, summary_words, version_words}
use Rattle.sp_journal_reading.specs.Reading.{IsGoodEntry, IsJournal, are_counts, closed, says, summary_cells, summary_more, version_cells}
use Rattle.sp_journal_reading.specs.ReplyTable as forms
use Rattle.sp_journal_reading.specs.ReplyTable.{Form, IsGoodReply, MAX_ENTRIES, Of_items, Of_row, cells}
use Rattle.sp_journal.specs.Words.{effect_fields, effect_words, item_word, reply_words}
use Rattle.sp_journal_reading.specs.declared.item_words.TheConstants.{MAX_ITEMS}
use Rattle.sp_journal.specs.declared.entry.AnswerWord.{AnswerWord}
use Rattle.sp_journal.specs.declared.entry.AnswerWord.TheVariants as answers
use Rattle.sp_journal.specs.declared.entry.ItemWord.{ItemWord}
use Rattle.sp_journal.specs.declared.entry.ItemWord.TheVariants as items
use Rattle.sp_journal.specs.declared.entry.SectionWord.TheVariants as sections
use Rattle.sp_journal.specs.declared.entry.Entry.{Entry}
use Rattle.sp_journal.specs.declared.entry.Reply.{Reply}
use Rattle.sp_journal_reading.specs.declared.stage.Stage.{Stage}
use Rattle.sp_journal_reading.specs.declared.stage.Stage.TheVariants as stages
use Rattle.sp_journal_reading.proofs.EffectLemmas.{effects_have_one_line, row_words}
use Rattle.sp_journal_reading.proofs.ReplyLemmas as replies
use Rattle.sp_journal_reading.proofs.ReplyLemmas.{entry_back}
use Rattle.sp_journal_reading.proofs.StageLemmas.{entry_lines, journal_of_lines, lines_from}

-- these lines, which can be read, lead from one stage to another
pub record Follows (stage : Stage) (lines : List (List Word)) (last : Stage) : Type 0 where
  pub good : All IsGoodLine lines
  pub follows : follow_all says stage lines ≡ Ok last

none : (stage : Stage) → Follows stage [] stage
none stage = record { good = All-nil IsGoodLine; follows = refl }

first : (words : List Word) (lines : List (List Word)) (stage mid last : Stage) → IsGoodLine words → says stage words ≡ Ok mid → Follows mid lines last
    → Follows stage (words ∷ lines) last
first words lines stage mid last good is more = record {
  good = All-cons IsGoodLine words lines good more.good;
  follows = rw is more.follows;
}

follow_then : (front back : List (List Word)) (stage mid last : Stage) → follow_all says stage front ≡ Ok mid → follow_all says mid back ≡ Ok last
    → follow_all says stage (front ++ back) ≡ Ok last
follow_then [] back stage mid last one two = let at : stage ≡ mid = cc in subst (λ (z : Stage). follow_all says z back ≡ Ok last) (sym at) two
follow_then (words ∷ front) back stage mid last one two =
    let step = then_ok (says stage words) (λ next. follow_all says next front) mid one in
    rw step.1 (follow_then front back step.0 mid last step.2 two)

both : (front back : List (List Word)) (stage mid last : Stage) → Follows stage front mid → Follows mid back last → Follows stage (front ++ back) last
both front back stage mid last one two = record {
  good = All-append IsGoodLine front back one.good two.good;
  follows = follow_then front back stage mid last one.follows two.follows;
}

-- ---- effects

good_plus : (form : effect_forms.Form) → is_good_row (Name (codes "+") ∷ effect_forms.cells form) ≡ true
good_plus effect_forms.Signed = refl
good_plus effect_forms.Stored = refl
good_plus (effect_forms.Gone whys.Evicted) = refl
good_plus (effect_forms.Gone whys.Expired) = refl
good_plus (effect_forms.Gone whys.Acked) = refl
good_plus (effect_forms.Gone whys.Taken) = refl
good_plus (effect_forms.Gone whys.Withdrawn) = refl
good_plus (effect_forms.Delivered kinds.Rel) = refl
good_plus (effect_forms.Delivered kinds.Prio) = refl
good_plus (effect_forms.Delivered kinds.Krel) = refl
good_plus effect_forms.Weight = refl
good_plus effect_forms.Ended = refl
good_plus effect_forms.Kended = refl
good_plus effect_forms.Version = refl

effect_line : (effect : Effect) → IsInRange effect → IsGoodLine (effect_words effect)
effect_line effect is =
    subst (λ (ws : List Word). IsGoodLine (codes "+" ∷ ws)) (row_words effect)
    (good_row_line (Name (codes "+") ∷ effect_forms.cells (form_of effect)) (values_of effect) (good_plus (form_of effect)) is)

effects_follow : (done : List Entry) (reply : Reply) (before effects : List Effect) → All IsInRange effects
    → Follows (stages.Entries done (Some (record { reply = reply; effects = before }))) (map effect_words effects)
    (stages.Entries done (Some (record { reply = reply; effects = before ++ effects })))
effects_follow done reply before [] are =
    subst (λ (es : List Effect). Follows (stages.Entries done (Some (record { reply = reply; effects = before }))) []
    (stages.Entries done (Some (record { reply = reply; effects = es })))) (sym (append-nil before))
    (none (stages.Entries done (Some (record { reply = reply; effects = before }))))
effects_follow done reply before (effect ∷ effects) are =
    let range = All-head IsInRange effect effects are in
    let at : (es : List Effect) → Stage = λ es. stages.Entries done (Some (record { reply = reply; effects = es })) in
    let read = (effects_have_one_line (effect_fields effect) effect).1 (range, refl) in
    let more = effects_follow done reply (before ++ effect ∷ []) effects (All-tail IsInRange effect effects are) in
    first (effect_words effect) (map effect_words effects) (at before) (at (before ++ effect ∷ [])) (at (before ++ effect ∷ effects)) (effect_line effect range)
    (rw read refl)
    (subst (λ (es : List Effect). Follows (at (before ++ effect ∷ [])) (map effect_words effects) (at es)) (append_assoc before (effect ∷ []) effects) more)

-- ---- the line of an entry

-- its first word is neither a plus nor the name of a summary
not_plus : AllDigits 10 (codes "+") → ⊥
not_plus all = let range = digit_from_value 43 all.0 in absurd (omega (arith, range.0, range.1))

not_summary : AllDigits 10 (codes "summary") → ⊥
not_summary all = let range = digit_from_value 115 all.0 in absurd (omega (arith, range.0, range.1))

not_word : (w : Word) → (AllDigits 10 w → ⊥) → (n : ℕ) → n < 2 ^ 64 → same (decimal n) w ≡ false
not_word w not n small =
    elim (cases_Bool (same (decimal n) w)) [
      | inr other ↦ other
      | inl is_same ↦ absurd (not (subst (AllDigits 10) (same_words (decimal n) w is_same) (decimal_is_IsNumeral n small).0.1))
    ]

good_numbered : (form : Form) → is_good_row (Number 1 MAX_ENTRIES ∷ cells form) ≡ true
good_numbered forms.Accepted = refl
good_numbered forms.Full = refl
good_numbered forms.Spent = refl
good_numbered forms.Expired = refl
good_numbered forms.NoPaths = refl
good_numbered forms.Busy = refl
good_numbered forms.Payload = refl
good_numbered forms.PayloadPrio = refl
good_numbered forms.Empty = refl
good_numbered forms.Ticked = refl
good_numbered forms.TickSpent = refl
good_numbered forms.TickNotReserved = refl
good_numbered forms.Low = refl
good_numbered forms.BadEnd = refl
good_numbered forms.Frame = refl
good_numbered forms.TooLong = refl
good_numbered forms.Short = refl
good_numbered forms.Magic = refl
good_numbered forms.Version = refl
good_numbered forms.NotForMe = refl
good_numbered forms.BadTag = refl
good_numbered forms.Learned = refl
good_numbered forms.Stale = refl
good_numbered forms.Topology = refl
good_numbered (forms.Section sections.Cut) = refl
good_numbered (forms.Section sections.Count) = refl
good_numbered (forms.Section sections.Object) = refl
good_numbered (forms.Section sections.Tail) = refl
good_numbered forms.Started = refl
good_numbered forms.Exhausted = refl
good_numbered forms.Stopped = refl
good_numbered forms.Down = refl
good_numbered forms.Adopted = refl
good_numbered forms.DocumentOld = refl
good_numbered forms.Withdrawn = refl

-- ---- items as places of a row

-- the word of an item is a good place, and short
abbrev is_short : ItemWord → Bool
is_short item = is_good_cell (Name (item_word item)) && nat_le (width (Name (item_word item))) 20

-- an answer's words, whatever object has it
record IsShortOf (answer : AnswerWord) : Type 0 where
  weight : is_short (items.Weight answer) ≡ true
  prio : is_short (items.Prio answer) ≡ true
  ack : is_short (items.Ack answer) ≡ true
  rel : is_short (items.Rel answer) ≡ true
  kack : is_short (items.Kack answer) ≡ true
  krel : is_short (items.Krel answer) ≡ true
  epoch : is_short (items.Epoch answer) ≡ true
  document : is_short (items.Document answer) ≡ true

short_answer : (answer : AnswerWord) → IsShortOf answer
short_answer answers.New = record { weight = refl; prio = refl; ack = refl; rel = refl; kack = refl; krel = refl; epoch = refl; document = refl }
short_answer answers.BadEnd = record { weight = refl; prio = refl; ack = refl; rel = refl; kack = refl; krel = refl; epoch = refl; document = refl }
short_answer answers.Epoch = record { weight = refl; prio = refl; ack = refl; rel = refl; kack = refl; krel = refl; epoch = refl; document = refl }
short_answer answers.OffMask = record { weight = refl; prio = refl; ack = refl; rel = refl; kack = refl; krel = refl; epoch = refl; document = refl }
short_answer answers.Foreign = record { weight = refl; prio = refl; ack = refl; rel = refl; kack = refl; krel = refl; epoch = refl; document = refl }
short_answer answers.Low = record { weight = refl; prio = refl; ack = refl; rel = refl; kack = refl; krel = refl; epoch = refl; document = refl }
short_answer answers.Old = record { weight = refl; prio = refl; ack = refl; rel = refl; kack = refl; krel = refl; epoch = refl; document = refl }
short_answer answers.Expired = record { weight = refl; prio = refl; ack = refl; rel = refl; kack = refl; krel = refl; epoch = refl; document = refl }
short_answer answers.Seen = record { weight = refl; prio = refl; ack = refl; rel = refl; kack = refl; krel = refl; epoch = refl; document = refl }
short_answer answers.Ahead = record { weight = refl; prio = refl; ack = refl; rel = refl; kack = refl; krel = refl; epoch = refl; document = refl }
short_answer answers.Gap = record { weight = refl; prio = refl; ack = refl; rel = refl; kack = refl; krel = refl; epoch = refl; document = refl }
short_answer answers.Full = record { weight = refl; prio = refl; ack = refl; rel = refl; kack = refl; krel = refl; epoch = refl; document = refl }
short_answer answers.InboxFull = record { weight = refl; prio = refl; ack = refl; rel = refl; kack = refl; krel = refl; epoch = refl; document = refl }
short_answer answers.BadSig = record { weight = refl; prio = refl; ack = refl; rel = refl; kack = refl; krel = refl; epoch = refl; document = refl }
short_answer answers.Bad = record { weight = refl; prio = refl; ack = refl; rel = refl; kack = refl; krel = refl; epoch = refl; document = refl }
short_answer answers.Strange = record { weight = refl; prio = refl; ack = refl; rel = refl; kack = refl; krel = refl; epoch = refl; document = refl }

short_item : (item : ItemWord) → is_short item ≡ true
short_item (items.Weight answer) = (short_answer answer).weight
short_item (items.Prio answer) = (short_answer answer).prio
short_item (items.Ack answer) = (short_answer answer).ack
short_item (items.Rel answer) = (short_answer answer).rel
short_item (items.Kack answer) = (short_answer answer).kack
short_item (items.Krel answer) = (short_answer answer).krel
short_item (items.Epoch answer) = (short_answer answer).epoch
short_item (items.Document answer) = (short_answer answer).document

item_parts : (item : ItemWord) → (is_good_cell (Name (item_word item)) ≡ true) × (nat_le (width (Name (item_word item))) 20 ≡ true)
item_parts item = and_parts (is_good_cell (Name (item_word item))) (nat_le (width (Name (item_word item))) 20) (short_item item)

abbrev item_cells : List ItemWord → List Cell
item_cells [] = []
item_cells (item ∷ each) = Name (item_word item) ∷ item_cells each

nothing : (each : List ItemWord) → Values (item_cells each)
nothing [] = tt
nothing (item ∷ each) = nothing each

nothing_in : (each : List ItemWord) (xs : Values (item_cells each)) → AreIn (item_cells each) xs
nothing_in [] xs = tt
nothing_in (item ∷ each) xs = nothing_in each xs

nothing_spelled : (each : List ItemWord) (xs : Values (item_cells each)) → spelled (item_cells each) xs ≡ map item_word each
nothing_spelled [] xs = refl
nothing_spelled (item ∷ each) xs = ap (λ (ws : List Word). item_word item ∷ ws) (nothing_spelled each xs)

good_items : (each : List ItemWord) → list_all is_good_cell (item_cells each) ≡ true
good_items [] = refl
good_items (item ∷ each) = and_from (is_good_cell (Name (item_word item))) (list_all is_good_cell (item_cells each)) (item_parts item).0 (good_items each)

short_items : (each : List ItemWord) → widths (item_cells each) ≤ length each * 20
short_items [] = omega arith
short_items (item ∷ each) =
    let one : width (Name (item_word item)) ≤ 20 = at_most (item_parts item).1 in
    omega (arith, one, short_items each)
  where
    at_most : {n : ℕ} → nat_le n 20 ≡ true → n ≤ 20
    at_most {n} is = grind (arith, nat_tests, is)

abbrev fresh_row : List ItemWord → List Cell
fresh_row each = Number 1 MAX_ENTRIES ∷ Name (codes "fresh") ∷ item_cells each

good_fresh : (each : List ItemWord) → length each ≤ MAX_ITEMS → is_good_row (fresh_row each) ≡ true
good_fresh each few =
    let some : nat_le 1 (length (fresh_row each)) ≡ true = grind (arith, nat_tests) in
    let short : nat_le (widths (fresh_row each)) (MAX_LINE_BYTES + 1) ≡ true = below (omega (arith, short_items each, few)) in
    and_from (nat_le 1 (length (fresh_row each)) && list_all is_good_cell (fresh_row each)) (nat_le (widths (fresh_row each)) (MAX_LINE_BYTES + 1))
    (and_from (nat_le 1 (length (fresh_row each))) (list_all is_good_cell (fresh_row each)) some (good_items each)) short
  where
    below : {n : ℕ} → n ≤ MAX_LINE_BYTES + 1 → nat_le n (MAX_LINE_BYTES + 1) ≡ true
    below {n} is = grind (arith, nat_tests, is)

entry_line : (number : ℕ) (reply : Reply) → 1 ≤ number → number ≤ MAX_ENTRIES → IsGoodReply reply → IsGoodLine (decimal number ∷ reply_words reply)
entry_line number reply low high (Of_row form xs are is) =
    subst (λ (r : Reply). IsGoodLine (decimal number ∷ reply_words r)) (sym is)
    (subst (λ (ws : List Word). IsGoodLine (decimal number ∷ ws)) (sym (replies.row_words form xs))
    (good_row_line (Number 1 MAX_ENTRIES ∷ cells form) (number, xs) (good_numbered form) (low, high, are)))
entry_line number reply low high (Of_items each are few is) =
    subst (λ (r : Reply). IsGoodLine (decimal number ∷ reply_words r)) (sym is)
    (subst (λ (ws : List Word). IsGoodLine (decimal number ∷ codes "fresh" ∷ ws)) (nothing_spelled each (nothing each))
    (good_row_line (fresh_row each) (number, nothing each) (good_fresh each few) (low, high, nothing_in each (nothing each))))

-- ---- entries

entry_follows : (done : List Entry) (last : Option Entry) (number : ℕ) (entry : Entry) → number ≡ length (closed done last) + 1 → number ≤ MAX_ENTRIES
    → IsGoodEntry entry
    → Follows (stages.Entries done last) (entry_lines number entry) (stages.Entries (closed done last) (Some entry))
entry_follows done last number entry next high good =
    let bare : Entry = record { reply = entry.reply; effects = [] } in
    let low : 1 ≤ number = omega (arith, next) in
    let plus = not_word (codes "+") not_plus number (omega (arith, high)) in
    let summary = not_word (codes "summary") not_summary number (omega (arith, high)) in
    let read = entry_back number entry.reply low high good.reply in
    let count : (number == length (closed done last) + 1) ≡ true = grind (arith, nat_tests, next) in
    let said : says (stages.Entries done last) (decimal number ∷ reply_words entry.reply) ≡ Ok (stages.Entries (closed done last) (Some bare)) =
    rw plus (rw summary (rw read (rw count refl))) in
    first (decimal number ∷ reply_words entry.reply) (map effect_words entry.effects) (stages.Entries done last) (stages.Entries (closed done last) (Some bare))
    (stages.Entries (closed done last) (Some entry))
    (entry_line number entry.reply low high good.reply) said (effects_follow (closed done last) entry.reply [] entry.effects good.effects)

-- entries after others
record Walked (done : List Entry) (last : Option Entry) (number : ℕ) (entries : List Entry) : Type 0 where
  front : List Entry
  newest : Option Entry
  follows : Follows (stages.Entries done last) (lines_from number entries) (stages.Entries front newest)
  all : closed front newest ≡ closed done last ++ entries

entries_follow : (entries : List Entry) (done : List Entry) (last : Option Entry) (number : ℕ) → number ≡ length (closed done last) + 1
    → length (closed done last) + length entries ≤ MAX_ENTRIES
    → All IsGoodEntry entries → Walked done last number entries
entries_follow [] done last number next high are =
    record { front = done; newest = last; follows = none (stages.Entries done last); all = sym (append-nil (closed done last)) }
entries_follow (entry ∷ entries) done last number next high are =
    let before = closed done last in
    let count : length (before ++ entry ∷ []) ≡ length before + 1 = omega (arith, length-append before (entry ∷ [])) in
    let one = entry_follows done last number entry next (omega (arith, next, high)) (All-head IsGoodEntry entry entries are) in
    let more = entries_follow entries before (Some entry) (number + 1) (omega (arith, count, next)) (omega (arith, count, high))
    (All-tail IsGoodEntry entry entries are) in
    record {
      front = more.front;
      newest = more.newest;
      follows = both (entry_lines number entry) (lines_from (number + 1) entries) (stages.Entries done last) (stages.Entries before (Some entry))
          (stages.Entries more.front more.newest) one more.follows;
      all = more.all ∙ append_assoc before (entry ∷ []) entries;
    }

-- ---- the summary

few_pass : (test : Entry → Bool) (entries : List Entry) → length (filter test entries) ≤ length entries
few_pass test [] = omega arith
few_pass test (entry ∷ entries) =
    elim (cases_Bool (test entry)) [
      | inl passes ↦ rw passes (omega (arith, few_pass test entries))
      | inr fails ↦ rw fails (omega (arith, few_pass test entries))
    ]

abbrev counts : List Entry → Values summary_cells
counts journal = (length journal, (sent_count journal, (delivered_count journal, (priority_count journal, (frame_count journal, tt)))))

counts_in : (journal : List Entry) → IsJournal journal → AreIn summary_cells (counts journal)
counts_in journal is =
    let some = few_pass is_sent journal in
    let made = few_pass is_frame journal in (
      omega arith,
      omega (arith, is.few),
      (
        omega arith,
        omega (arith, is.few, some),
        (omega arith, omega (arith, is.delivered), (omega arith, omega (arith, is.priority), (omega arith, omega (arith, is.few, made), tt))),
      ),
    )

equal : (n : ℕ) → (n == n) ≡ true
equal n = grind (arith, nat_tests)

are_own : (journal : List Entry) → are_counts journal (counts journal) ≡ true
are_own journal =
    rw (equal (length journal))
    (rw (equal (sent_count journal)) (rw (equal (delivered_count journal)) (rw (equal (priority_count journal)) (equal (frame_count journal)))))

summary_said : (journal : List Entry) → IsJournal journal → summary_more journal (summary_words journal) ≡ Ok (stages.End journal)
unfolding summary_more
summary_said journal is =
    rw (line_back summary_cells (counts journal) (good_row_room summary_cells refl) (counts_in journal is)) (rw (are_own journal) refl)

summary_line : (journal : List Entry) → IsJournal journal → IsGoodLine (summary_words journal)
summary_line journal is = good_row_line summary_cells (counts journal) refl (counts_in journal is)

-- all lines
pub journal_follows : (journal : List Entry) → IsJournal journal → Follows stages.Start (journal_of_lines journal) (stages.End journal)
journal_follows journal is =
    let walked = entries_follow journal [] None 1 refl (omega (arith, is.few)) is.entries in
    let all : closed walked.front walked.newest ≡ journal = walked.all in
    let said : says (stages.Entries walked.front walked.newest) (summary_words journal) ≡ Ok (stages.End journal) =
    subst (λ (es : List Entry). summary_more es (summary_words journal) ≡ Ok (stages.End journal)) (sym all) (summary_said journal is) in
    let end = first (summary_words journal) [] (stages.Entries walked.front walked.newest) (stages.End journal) (stages.End journal) (summary_line journal is)
    said (none (stages.End journal)) in
    first version_words (lines_from 1 journal ++ summary_words journal ∷ []) stages.Start (stages.Entries [] None) (stages.End journal)
    (good_row_line version_cells tt refl tt) refl
    (both (lines_from 1 journal) (summary_words journal ∷ []) (stages.Entries [] None) (stages.Entries walked.front walked.newest) (stages.End journal)
    walked.follows end)
