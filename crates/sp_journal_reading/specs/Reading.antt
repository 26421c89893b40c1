-- What one line of a journal says at its stage, and the reading of a whole text.
--
--     stage     good lines              the next stage
--     Start     journal 1               Entries, with none yet
--     Entries   NUMBER and a reply      Entries, with one more, whose effects come next
--               + and an effect         Entries, with one effect more of the last
--               summary and counts      End
--     End       none
use Rattle.std.specs.Prelude.{ℕ, ◌≡◌, ◌<◌, ◌≤◌, ◌+◌, ◌^◌, ◌&&◌, ◌==◌, Bool, true, false, List, []}
use Rattle.std.specs.Prelude.{◌∷◌, ◌++◌, All, length, Option, Some, None, Result, Ok, Err, codes, if◌then◌else◌}
use Rattle.sp_base.specs.Refusals.{◌>>=◌}
use Rattle.sp_text.specs.Spelling.{Word}
use Rattle.sp_text.specs.declared.place.TextRefused.{TextRefused}
use Rattle.sp_text.specs.declared.place.TextRefused.TheVariants as texts
use Rattle.sp_lines.specs.Cells.{Cell, Name, same}
use Rattle.sp_lines.specs.Rows.{Values, line_of}
use Rattle.sp_lines.specs.Texts.{Leads, Nothing_left, Stop}
use Rattle.sp_lines.specs.declared.fault.Fault.{Fault}
use Rattle.sp_lines.specs.declared.fault.Fault.TheVariants as faults
use Rattle.sp_msg.specs.declared.effect.Effect.{Effect}
use Rattle.sp_journal_reading.specs.EffectTable.{IsInRange, any_number, read_effect}
use Rattle.sp_journal.specs.JournalText.{delivered_count, frame_count, priority_count, sent_count}
use Rattle.sp_journal_reading.specs.ReplyTable.{IsGoodReply, MAX_ENTRIES, read_entry}
use Rattle.sp_journal.specs.declared.entry.Entry.{Entry}
use Rattle.sp_journal.specs.declared.entry.Reply.{Reply}
use Rattle.sp_journal_reading.specs.declared.stage.Stage.{Stage}
use Rattle.sp_journal_reading.specs.declared.stage.Stage.TheVariants as stages
use Rattle.sp_journal_reading.specs.declared.stage.JournalRefused.{JournalRefused}
use Rattle.sp_journal_reading.specs.declared.stage.JournalRefused.TheVariants as refusals

-- ---- good journals

-- an entry whose reply is good and whose effects are in their ranges
pub record IsGoodEntry (entry : Entry) : Type 0 where
  pub reply : IsGoodReply entry.reply
  pub effects : All IsInRange entry.effects

-- a journal that a text can tell: its entries are good, their numbers have 32 bits, and the counts of deliveries 64
pub record IsJournal (journal : List Entry) : Type 0 where
  pub entries : All IsGoodEntry journal
  pub few : length journal ≤ MAX_ENTRIES
  pub delivered : delivered_count journal < 2 ^ 64
  pub priority : priority_count journal < 2 ^ 64

-- ---- lines

-- the first line of a journal
abbrev pub version_cells : List Cell
version_cells = Name (codes "journal") ∷ Name (codes "1") ∷ []

-- the last line of a journal
abbrev pub summary_cells : List Cell
summary_cells =
    Name (codes "summary") ∷ Name (codes "events") ∷ any_number ∷ Name (codes "sent") ∷ any_number ∷ Name (codes "delivered") ∷ any_number
    ∷ Name (codes "priority") ∷ any_number ∷ Name (codes "frames") ∷ any_number ∷ []

-- the entries before the last, and the last one, where there is one
abbrev pub closed : List Entry → Option Entry → List Entry
closed done None = done
closed done (Some last) = done ++ last ∷ []

-- one effect more
abbrev pub with_effect : Entry → Effect → Entry
with_effect entry effect = record { reply = entry.reply; effects = entry.effects ++ effect ∷ [] }

-- an effect belongs to the last entry
abbrev pub effect_more : List Entry → Option Entry → Effect → Result Stage Fault
effect_more done None effect = Err faults.Form
effect_more done (Some last) effect = Ok (stages.Entries done (Some (with_effect last effect)))

-- an entry has the next number
abbrev pub entry_more : List Entry → ℕ × Reply → Result Stage Fault
entry_more done pair = if pair.0 == length done + 1 then Ok (stages.Entries done (Some (record { reply = pair.1; effects = [] }))) else Err faults.Range

-- the five counts of a summary are those of the journal
abbrev pub are_counts : List Entry → Values summary_cells → Bool
are_counts journal x =
    (x.0 == length journal) && ((x.1.0 == sent_count journal) && ((x.1.1.0 == delivered_count journal)
    && ((x.1.1.1.0 == priority_count journal) && (x.1.1.1.1.0 == frame_count journal))))

-- the summary ends the journal
unfoldable pub summary_more : List Entry → List Word → Result Stage Fault
summary_more journal words = line_of summary_cells words >>= λ x. if are_counts journal x then Ok (stages.End journal) else Err faults.Range

-- a line that isn't an effect, after these entries
abbrev pub after_all : List Entry → Word → List Word → Result Stage Fault
after_all journal name words =
    if same name (codes "summary") then summary_more journal (codes "summary" ∷ words) else (read_entry (name ∷ words) >>= entry_more journal)

-- what the words of a line say at a stage: where they lead, or what is wrong with them
abbrev pub says : Stage → List Word → Result Stage Fault
says stages.Start words = line_of version_cells words >>= λ x. Ok (stages.Entries [] None)
says (stages.Entries done last) [] = Err faults.Form
says (stages.Entries done last) (name ∷ words) =
    if same name (codes "+") then (read_effect words >>= effect_more done last) else after_all (closed done last) name words
says (stages.End journal) words = Err faults.Form

-- ---- whole texts

-- the reading stops before a journal's end
abbrev pub is_early : Stage → Stop Fault → Bool
is_early (stages.End journal) Nothing_left = false
is_early stage stop = true

-- a line that isn't words, or want of memory
abbrev pub no_words : TextRefused → ℕ → JournalRefused
no_words texts.Memory line = refusals.Memory
no_words refused line = refusals.Form line

-- what a text says that ends before the line of this number
abbrev pub ended : Stage → ℕ → Result (List Entry) JournalRefused
ended (stages.End journal) line = Ok journal
ended stage line = Err (refusals.Form line)

-- all lines of the text are good, and lead to the end of this journal
pub record IsWhole (text : List ℕ) (journal : List Entry) : Type 0 where
  pub line : ℕ
  pub leads : Leads says stages.Start 1 text (stages.End journal) line Nothing_left

-- the line of this number is the first that isn't good, or is the one after the last where the text ends early
pub record IsBadAt (text : List ℕ) (line : ℕ) : Type 0 where
  pub stage : Stage
  pub stop : Stop Fault
  pub leads : Leads says stages.Start 1 text stage line stop
  pub early : is_early stage stop ≡ true

-- what a reading of the text answered. Want of memory may come at any line
abbrev pub IsRead : List ℕ → Result (List Entry) JournalRefused → Type 0
IsRead text (Ok journal) = IsWhole text journal
IsRead text (Err (refusals.Form line)) = IsBadAt text line
IsRead text (Err refusals.Memory) = Unit {0}
