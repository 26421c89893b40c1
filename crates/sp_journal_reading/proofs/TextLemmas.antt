-- A journal's text is its lines.
use Rattle.std.proofs.Common.{Result, Ok, Err, ◌≡◌, ℕ, ◌+◌, List, [], ◌∷◌, ◌++◌, map, refl, sym, ap, ◌∙◌, append_assoc, append-nil}
use Rattle.std.specs.Prelude.{IfOk}
use Rattle.std.specs.List.{flat_map}
use Rattle.std.proofs.lemmas.Grind.{flat_map-append}
use Rattle.sp_lines.specs.Rows.{line_text}
use Rattle.sp_lines.proofs.LeadLemmas.{whole_lines}
use Rattle.std.specs.Fmt.{decimal}
use Rattle.sp_msg.specs.declared.effect.Effect.{Effect}
use Rattle.sp_journal.specs.JournalText.{effect_lines, entries_from, entry_text, journal_text, summary_words, version_words}
use Rattle.sp_journal_reading.specs.Reading.{IsJournal, IsRead, says}
use Rattle.sp_journal_reading.specs.TextLaws.{JournalsAreOfTheirText}
use Rattle.sp_journal.specs.Words.{effect_words, reply_words}
use Rattle.sp_journal.specs.declared.entry.Entry.{Entry}
use Rattle.sp_journal_reading.specs.declared.stage.JournalRefused.{JournalRefused}
use Rattle.sp_journal_reading.proofs.StageLemmas.{entry_lines, journal_of_lines, lines_from, lines_of_end}

effects_text : (effects : List Effect) → flat_map line_text (map effect_words effects) ≡ effect_lines effects
effects_text [] = refl
effects_text (effect ∷ effects) = ap (λ (xs : List ℕ). line_text (effect_words effect) ++ xs) (effects_text effects)

entry_spelled : (number : ℕ) (entry : Entry) → flat_map line_text (entry_lines number entry) ≡ entry_text number entry
unfolding entry_text
entry_spelled number entry = ap (λ (xs : List ℕ). line_text (decimal number ∷ reply_words entry.reply) ++ xs) (effects_text entry.effects)

entries_spelled : (number : ℕ) (entries : List Entry) → flat_map line_text (lines_from number entries) ≡ entries_from number entries
entries_spelled number [] = refl
entries_spelled number (entry ∷ entries) =
    flat_map-append line_text (entry_lines number entry) (lines_from (number + 1) entries)
    ∙ ap (λ (xs : List ℕ). xs ++ flat_map line_text (lines_from (number + 1) entries)) (entry_spelled number entry)
    ∙ ap (λ (xs : List ℕ). entry_text number entry ++ xs) (entries_spelled (number + 1) entries)

-- the text of a journal's lines
pub journal_spelled : (journal : List Entry) → flat_map line_text (journal_of_lines journal) ≡ journal_text journal
journal_spelled journal =
    ap (λ (xs : List ℕ). line_text version_words ++ xs)
    (flat_map-append line_text (lines_from 1 journal) (summary_words journal ∷ [])
    ∙ ap (λ (xs : List ℕ). xs ++ flat_map line_text (summary_words journal ∷ [])) (entries_spelled 1 journal)
    ∙ ap (λ (xs : List ℕ). entries_from 1 journal ++ xs) (append-nil (line_text (summary_words journal))))
    ∙ sym (append_assoc (line_text version_words) (entries_from 1 journal) (line_text (summary_words journal)))

pub journals_are_of_their_text : JournalsAreOfTheirText
journals_are_of_their_text text journal whole =
    let lines = whole_lines says whole.leads refl in
    let all = lines_of_end lines.lines journal lines.follows in
    (all.0, lines.spelled ∙ ap (flat_map line_text) all.1 ∙ journal_spelled journal)

-- a journal that was read is good, or none was read
pub good_answer : (text : List ℕ) (answer : Result (List Entry) JournalRefused) → IsRead text answer → IfOk answer IsJournal
good_answer text (Ok journal) is = (journals_are_of_their_text text journal is).0
good_answer text (Err refused) is = tt
