-- A text that is read is the text of its journal, the text of a good journal is read, and a text has one reading.
use Rattle.std.specs.Prelude.{ℕ, ◌≡◌, ◌≢◌, ◌++◌, List, Result, Err}
use Rattle.sp_journal.specs.JournalText.{journal_text}
use Rattle.sp_journal_reading.specs.Reading.{IsJournal, IsRead, IsWhole}
use Rattle.sp_journal.specs.declared.entry.Entry.{Entry}
use Rattle.sp_journal_reading.specs.declared.stage.JournalRefused.{JournalRefused}
use Rattle.sp_journal_reading.specs.declared.stage.JournalRefused.TheVariants as refusals

-- a journal that is read is good, and the text is its text
abbrev pub JournalsAreOfTheirText : Type 0
JournalsAreOfTheirText = (text : List ℕ) (journal : List Entry) → IsWhole text journal → IsJournal journal × (text ≡ journal_text journal)

-- the text of a good journal is read as it
abbrev pub GoodJournalsAreRead : Type 0
GoodJournalsAreRead = (journal : List Entry) → IsJournal journal → IsWhole (journal_text journal) journal

-- a text is read in one way: one journal, or one first bad line
abbrev pub OneReading : Type 0
OneReading =
    (text : List ℕ) (a b : Result (List Entry) JournalRefused) → a ≢ Err refusals.Memory → b ≢ Err refusals.Memory → IsRead text a → IsRead text b
    → a ≡ b

-- where a text begins with that of a good journal, it begins with that of no other, whatever follows
abbrev pub NoOtherBeginsThere : Type 0
NoOtherBeginsThere =
    (journal other : List Entry) (rest others : List ℕ) → IsJournal journal → IsJournal other
    → journal_text journal ++ rest ≡ journal_text other ++ others → journal ≡ other
