-- The lines that lead to a stage: they are those of what was read.
use Rattle.std.proofs.Common.{◌≡◌, ◌⊎◌, ◌≤◌, ◌+◌, ◌&&◌, ◌==◌, ℕ, Bool, true, false, List, [], ◌∷◌, ◌++◌, length, map, Option, Some, None, Ok, Err, inl, inr}
use Rattle.std.proofs.Common.{refl, sym, ap, ◌∙◌, subst, arith, append_assoc, append-nil, length-append, if◌then◌else◌}
use Rattle.std.specs.Prelude.{All, codes}
use Rattle.std.specs.Fmt.{decimal}
use Rattle.std.proofs.lemmas.Bool.{and_parts}
use Rattle.std.proofs.lemmas.Bool.Decides.{nat_tests}
use Rattle.std.proofs.lemmas.List.{map-append}
use Rattle.std.proofs.lemmas.List.Elements.{All-append, All-cons, All-nil}
use Rattle.sp_base.specs.Refusals.{◌>>=◌}
use Rattle.sp_base.proofs.RefusalLemmas.{then_ok}
use Rattle.sp_text.specs.Spelling.{Word}
use Rattle.sp_lines.specs.Cells.{same}
use Rattle.sp_lines.specs.Rows.{Values, line_of, spelled}
use Rattle.sp_lines.specs.Texts.{follow_all}
use Rattle.sp_lines.specs.declared.fault.Fault.TheVariants as faults
use Rattle.sp_lines.proofs.RowLemmas.{line_read}
use Rattle.sp_lines.proofs.Words.{same_words}
use Rattle.sp_msg.specs.declared.effect.Effect.{Effect}
use Rattle.sp_journal_reading.specs.EffectTable.{IsInRange, read_effect}
use Rattle.sp_journal.specs.JournalText.{delivered_count, frame_count, priority_count, sent_count, summary_of, summary_words, version_words}
use Rattle.sp_journal_reading.specs.Reading.{IsGoodEntry, IsJournal, after_all, are_counts, closed, effect_more, entry_more, says, summary_cells, summary_more}
use Rattle.sp_journal_reading.specs.Reading.{version_cells, with_effect}
use Rattle.sp_journal_reading.specs.ReplyTable.{IsGoodReply, MAX_ENTRIES, read_entry}
use Rattle.sp_journal.specs.Words.{effect_fields, effect_words, reply_words}
use Rattle.sp_journal.specs.declared.entry.Entry.{Entry}
use Rattle.sp_journal.specs.declared.entry.Reply.{Reply}
use Rattle.sp_journal_reading.specs.declared.stage.Stage.{Stage}
use Rattle.sp_journal_reading.specs.declared.stage.Stage.TheVariants as stages
use Rattle.sp_journal_reading.proofs.EffectLemmas.{effects_have_one_line}
use Rattle.sp_journal_reading.proofs.ReplyLemmas.{entries_have_one_line}

-- ---- the lines of entries

abbrev pub entry_lines : ℕ → Entry → List (List Word)
entry_lines number entry = (decimal number ∷ reply_words entry.reply) ∷ map effect_words entry.effects

abbrev pub lines_from : ℕ → List Entry → List (List Word)
lines_from number [] = []
lines_from number (entry ∷ entries) = entry_lines number entry ++ lines_from (number + 1) entries

-- all lines of a journal
abbrev pub journal_of_lines : List Entry → List (List Word)
journal_of_lines journal = version_words ∷ (lines_from 1 journal ++ summary_words journal ∷ [])

pub lines_append : (number : ℕ) (front back : List Entry)
    → lines_from number (front ++ back) ≡ lines_from number front ++ lines_from (number + length front) back
lines_append number [] back = let at : number ≡ number + length {A = Entry} [] = omega arith in ap (λ (n : ℕ). lines_from n back) at
lines_append number (entry ∷ front) back =
    let count : (number + 1) + length front ≡ number + length (entry ∷ front) = omega arith in
    ap (λ (xs : List (List Word)). entry_lines number entry ++ xs)
    (lines_append (number + 1) front back ∙ ap (λ (n : ℕ). lines_from (number + 1) front ++ lines_from n back) count)
    ∙ sym (append_assoc (entry_lines number entry) (lines_from (number + 1) front) (lines_from (number + length (entry ∷ front)) back))

-- the lines of one entry more
pub one_entry : (done : List Entry) (entry : Entry) → lines_from 1 (done ++ entry ∷ []) ≡ lines_from 1 done ++ entry_lines (1 + length done) entry
one_entry done entry =
    lines_append 1 done (entry ∷ []) ∙ ap (λ (xs : List (List Word)). lines_from 1 done ++ xs) (append-nil (entry_lines (1 + length done) entry))

-- and of one effect more
one_effect : (number : ℕ) (entry : Entry) (effect : Effect)
    → entry_lines number (with_effect entry effect) ≡ entry_lines number entry ++ effect_words effect ∷ []
one_effect number entry effect =
    ap (λ (xs : List (List Word)). (decimal number ∷ reply_words entry.reply) ∷ xs) (map-append effect_words entry.effects (effect ∷ []))

-- ---- stages

abbrev lines_to : Stage → List (List Word)
lines_to stages.Start = []
lines_to (stages.Entries done last) = version_words ∷ lines_from 1 (closed done last)
lines_to (stages.End journal) = journal_of_lines journal

abbrev IsGoodLast : Option Entry → Type 0
IsGoodLast None = Unit {0}
IsGoodLast (Some entry) = IsGoodEntry entry

pub record IsSoFar (done : List Entry) (last : Option Entry) : Type 0 where
  pub entries : All IsGoodEntry done
  pub newest : IsGoodLast last
  pub few : length (closed done last) ≤ MAX_ENTRIES

abbrev pub IsGood : Stage → Type 0
IsGood stages.Start = Unit {0}
IsGood (stages.Entries done last) = IsSoFar done last
IsGood (stages.End journal) = IsJournal journal

pub good_closed : (done : List Entry) (last : Option Entry) → IsSoFar done last → All IsGoodEntry (closed done last)
good_closed done None good = good.entries
good_closed done (Some entry) good = All-append IsGoodEntry done (entry ∷ []) good.entries (All-cons IsGoodEntry entry [] good.newest (All-nil IsGoodEntry))

if_cases : {X : Type 0} (test : Bool) (a b c : X) → (if test then a else b) ≡ c → ((test ≡ true) × (a ≡ c)) ⊎ ((test ≡ false) × (b ≡ c))
if_cases true a b c is = inl (refl, is)
if_cases false a b c is = inr (refl, is)

-- where a line leads from a good stage, and how
abbrev Leads_to : Stage → List Word → Stage → Type 0
Leads_to stage words next = IsGood next × (lines_to next ≡ lines_to stage ++ words ∷ [])

effect_said : (done : List Entry) (last : Option Entry) (effect : Effect) (words : List Word) (next : Stage) → IsSoFar done last → IsInRange effect
    → words ≡ effect_words effect
    → effect_more done last effect ≡ Ok next → Leads_to (stages.Entries done last) words next
effect_said done None effect words next good range spelled is = absurd cc
effect_said done (Some entry) effect words next good range word is =
    let to : stages.Entries done (Some (with_effect entry effect)) ≡ next = cc in
    let lines : lines_from 1 (done ++ with_effect entry effect ∷ []) ≡ lines_from 1 (done ++ entry ∷ []) ++ words ∷ [] =
    one_entry done (with_effect entry effect) ∙ ap (λ (xs : List (List Word)). lines_from 1 done ++ xs) (one_effect (1 + length done) entry effect)
    ∙ sym (append_assoc (lines_from 1 done) (entry_lines (1 + length done) entry) (effect_words effect ∷ []))
    ∙ ap (λ (xs : List (List Word)). xs ++ effect_words effect ∷ []) (sym (one_entry done entry))
    ∙ ap (λ (w : List Word). lines_from 1 (done ++ entry ∷ []) ++ w ∷ []) (sym word) in
    subst (Leads_to (stages.Entries done (Some entry)) words) to (
      record {
        entries = good.entries;
        newest = record {
          reply = good.newest.reply;
          effects = All-append IsInRange entry.effects (effect ∷ []) good.newest.effects (All-cons IsInRange effect [] range (All-nil IsInRange));
        };
        few = omega (arith, good.few, length-append done (entry ∷ []), length-append done (with_effect entry effect ∷ []));
      },
      ap (λ (xs : List (List Word)). version_words ∷ xs) lines,
    )

entry_said : (done : List Entry) (last : Option Entry) (pair : ℕ × Reply) (words : List Word) (next : Stage) → IsSoFar done last → pair.0 ≤ MAX_ENTRIES
    → IsGoodReply pair.1
    → words ≡ decimal pair.0 ∷ reply_words pair.1 → entry_more (closed done last) pair ≡ Ok next → Leads_to (stages.Entries done last) words next
entry_said done last pair words next good low reply word is =
    let entry : Entry = record { reply = pair.1; effects = [] } in
    let all = closed done last in
    elim (if_cases (pair.0 == length all + 1) (Ok (stages.Entries all (Some entry))) (Err faults.Range) (Ok next) is) [
      | inl fit ↦ (
          let number : pair.0 ≡ 1 + length all = grind (arith, nat_tests, fit.0) in
          let to : stages.Entries all (Some entry) ≡ next = let same_ok : Ok (stages.Entries all (Some entry)) ≡ Ok next = fit.1 in cc in
          let lines : lines_from 1 (all ++ entry ∷ []) ≡ lines_from 1 all ++ words ∷ [] =
          one_entry all entry ∙ ap (λ (n : ℕ). lines_from 1 all ++ (decimal n ∷ reply_words pair.1) ∷ []) (sym number)
          ∙ ap (λ (w : List Word). lines_from 1 all ++ w ∷ []) (sym word) in
          subst (Leads_to (stages.Entries done last) words) to (
            record {
              entries = good_closed done last good;
              newest = record { reply = reply; effects = All-nil IsInRange };
              few = omega (arith, length-append all (entry ∷ []), number, low);
            },
            ap (λ (xs : List (List Word)). version_words ∷ xs) lines,
          )
          )
      | inr unfit ↦ absurd (let wrong = unfit.1 in cc)
    ]

-- the counts of a summary
record AreCounts (journal : List Entry) (x : Values summary_cells) : Type 0 where
  events : x.0 ≡ length journal
  sent : x.1.0 ≡ sent_count journal
  delivered : x.1.1.0 ≡ delivered_count journal
  priority : x.1.1.1.0 ≡ priority_count journal
  frames : x.1.1.1.1.0 ≡ frame_count journal

same_number : {a b : ℕ} → (a == b) ≡ true → a ≡ b
same_number {a} {b} is = grind (arith, nat_tests, is)

counted : (journal : List Entry) (x : Values summary_cells) → are_counts journal x ≡ true → AreCounts journal x
counted journal x are =
    let one = and_parts (x.0 == length journal)
    ((x.1.0 == sent_count journal)
    && ((x.1.1.0 == delivered_count journal) && ((x.1.1.1.0 == priority_count journal) && (x.1.1.1.1.0 == frame_count journal)))) are in
    let two = and_parts (x.1.0 == sent_count journal)
    ((x.1.1.0 == delivered_count journal) && ((x.1.1.1.0 == priority_count journal) && (x.1.1.1.1.0 == frame_count journal))) one.1 in
    let three = and_parts (x.1.1.0 == delivered_count journal) ((x.1.1.1.0 == priority_count journal) && (x.1.1.1.1.0 == frame_count journal)) two.1 in
    let four = and_parts (x.1.1.1.0 == priority_count journal) (x.1.1.1.1.0 == frame_count journal) three.1 in
    record { events = same_number one.0; sent = same_number two.0; delivered = same_number three.0; priority = same_number four.0; frames = same_number four.1 }

same_summary : {a b c d e v w x y z : ℕ} → a ≡ v → b ≡ w → c ≡ x → d ≡ y → e ≡ z → summary_of a b c d e ≡ summary_of v w x y z
same_summary p q r s t = rw (p, q, r, s, t) refl

summary_said : (done : List Entry) (last : Option Entry) (words : List Word) (next : Stage) → IsSoFar done last
    → summary_more (closed done last) words ≡ Ok next
    → Leads_to (stages.Entries done last) words next
unfolding summary_more
summary_said done last words next good is =
    let journal = closed done last in
    let step = then_ok (line_of summary_cells words) (λ x. if are_counts journal x then Ok (stages.End journal) else Err faults.Range) next is in
    let row = line_read summary_cells words step.0 step.1 in
    elim (if_cases (are_counts journal step.0) (Ok (stages.End journal)) (Err faults.Range) (Ok next) step.2) [
      | inl fit ↦ (
          let counts = counted journal step.0 fit.0 in
          let to : stages.End journal ≡ next = let same_ok : Ok (stages.End journal) ≡ Ok next = fit.1 in cc in
          let spelled_so : words ≡ summary_words journal = row.1 ∙ same_summary counts.events counts.sent counts.delivered counts.priority counts.frames in
          let are = row.0 in
          subst (Leads_to (stages.Entries done last) words) to (
            record {
              entries = good_closed done last good;
              few = good.few;
              delivered = omega (arith, counts.delivered, are.2.2.1);
              priority = omega (arith, counts.priority, are.2.2.2.1);
            },
            ap (λ (w : List Word). version_words ∷ (lines_from 1 journal ++ w ∷ [])) (sym spelled_so),
          )
          )
      | inr unfit ↦ absurd (let wrong = unfit.1 in cc)
    ]

-- one line
says_more : (stage : Stage) (words : List Word) (next : Stage) → IsGood stage → says stage words ≡ Ok next → Leads_to stage words next
says_more stages.Start words next good is =
    let step = then_ok (line_of version_cells words) (λ x. Ok (stages.Entries [] None)) next is in
    let row = line_read version_cells words step.0 step.1 in
    let to : stages.Entries [] None ≡ next = let same_ok : Ok (stages.Entries [] None) ≡ Ok next = step.2 in cc in
    subst (Leads_to stages.Start words) to
    (record { entries = All-nil IsGoodEntry; newest = tt; few = omega arith }, ap (λ (w : List Word). w ∷ []) (sym row.1))
says_more (stages.Entries done last) [] next good is = absurd cc
says_more (stages.Entries done last) (name ∷ words) next good is =
    elim (if_cases (same name (codes "+")) (read_effect words >>= effect_more done last) (after_all (closed done last) name words) (Ok next) is) [
      | inl plus ↦ (
          let step = then_ok (read_effect words) (effect_more done last) next plus.1 in
          let read = (effects_have_one_line words step.0).0 step.1 in
          effect_said done last step.0 (name ∷ words) next good read.0
          (cons_words name (codes "+") words (effect_fields step.0) (same_words name (codes "+") plus.0) read.1) step.2
          )
      | inr other ↦
          elim (if_cases (same name (codes "summary")) (summary_more (closed done last) (codes "summary" ∷ words))
          (read_entry (name ∷ words) >>= entry_more (closed done last)) (Ok next) other.1) [
            | inl summary ↦ (
                let named = same_words name (codes "summary") summary.0 in
                subst (λ (w : Word). Leads_to (stages.Entries done last) (w ∷ words) next) (sym named)
                (summary_said done last (codes "summary" ∷ words) next good summary.1)
                )
            | inr entry ↦ (
                let step = then_ok (read_entry (name ∷ words)) (entry_more (closed done last)) next entry.1 in
                let read = (entries_have_one_line (name ∷ words) step.0.0 step.0.1).0 step.1 in
                entry_said done last step.0 (name ∷ words) next good read.0.1 read.0.2 read.1 step.2
                )
          ]
    ]
  where
    cons_words : (a b : Word) (vs ws : List Word) → a ≡ b → vs ≡ ws → (a ∷ vs) ≡ (b ∷ ws)
    cons_words a b vs ws p q = rw (p, q) refl
says_more (stages.End journal) words next good is = absurd cc

-- all lines that were read
all_lines : (lines : List (List Word)) (stage last : Stage) → IsGood stage → follow_all says stage lines ≡ Ok last
    → (lines_to last ≡ lines_to stage ++ lines) × IsGood last
all_lines [] stage last good is =
    let same_stage : stage ≡ last = cc in
    subst (λ (z : Stage). (lines_to z ≡ lines_to stage ++ []) × IsGood z) same_stage (sym (append-nil (lines_to stage)), good)
all_lines (words ∷ lines) stage last good is =
    let step = then_ok (says stage words) (λ next. follow_all says next lines) last is in
    let one = says_more stage words step.0 good step.1 in
    let more = all_lines lines step.0 last one.0 step.2 in
    (more.0 ∙ ap (λ (xs : List (List Word)). xs ++ lines) one.1 ∙ append_assoc (lines_to stage) (words ∷ []) lines, more.1)

-- lines that lead from the start to the end of a journal are its lines, and it is good
pub lines_of_end : (lines : List (List Word)) (journal : List Entry) → follow_all says stages.Start lines ≡ Ok (stages.End journal)
    → IsJournal journal × (lines ≡ journal_of_lines journal)
lines_of_end lines journal is =
    let all = all_lines lines stages.Start (stages.End journal) tt is in
    (all.1, sym all.0)
