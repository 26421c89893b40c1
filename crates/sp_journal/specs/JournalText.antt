-- A journal as text: a line for each entry with its number and reply, a line for each of its effects, and a summary.
--
--     journal 1
--     1 accepted 1
--     + signed 020103000000000000000100026869
--     2 frame 1 76 DIGEST
--     3 learned 1
--     summary events 3 sent 1 delivered 0 priority 0 frames 1
use Rattle.std.specs.Prelude.{ℕ, ◌+◌, ◌==◌, Bool, true, false, List, [], ◌∷◌, ◌++◌, length, filter, slice_index, codes}
use Rattle.std.specs.List.{flat_map}
use Rattle.std.specs.Fmt.{decimal}
use Rattle.sp_text.specs.Spelling.{Word}
use Rattle.sp_lines.specs.Rows.{line_text}
use Rattle.sp_msg.specs.declared.effect.Effect.{Effect}
use Rattle.sp_msg.specs.declared.effect.Effect.TheVariants as effects
use Rattle.sp_journal.specs.Words.{effect_words, reply_words}
use Rattle.sp_journal.specs.declared.entry.Entry.{Entry}
use Rattle.sp_journal.specs.declared.entry.Reply.{Reply}
use Rattle.sp_journal.specs.declared.entry.Reply.TheVariants as replies

-- ---- entries

-- the lines of effects
abbrev pub effect_lines : List Effect → List ℕ
effect_lines es = flat_map (λ e. line_text (effect_words e)) es

-- the lines of an entry of this number
unfoldable pub entry_text : ℕ → Entry → List ℕ
entry_text number entry = line_text (decimal number ∷ reply_words entry.reply) ++ effect_lines entry.effects

-- the same lines without the number and its space
unfoldable pub reply_text : Entry → List ℕ
reply_text entry = line_text (reply_words entry.reply) ++ effect_lines entry.effects

-- the lines of these entries, the first of which has this number
abbrev pub entries_from : ℕ → List Entry → List ℕ
entries_from number [] = []
entries_from number (entry ∷ entries) = entry_text number entry ++ entries_from (number + 1) entries

-- the first line of a journal
abbrev pub version_words : List Word
version_words = codes "journal" ∷ codes "1" ∷ []

-- the lines of a journal, without its last
abbrev pub journal_lines : List Entry → List ℕ
journal_lines journal = line_text version_words ++ entries_from 1 journal

-- ---- the summary

-- whether a reply accepts a message
abbrev pub is_accepted : Reply → Bool
is_accepted (replies.Accepted seq) = true
is_accepted _ = false

-- a body of a reliable message was signed: its first byte is 2
abbrev pub is_rel_body : Effect → Bool
is_rel_body (effects.Signed body) = slice_index body 0 == 2
is_rel_body _ = false

-- whether the first effect is the signature of a reliable message
abbrev pub starts_rel : List Effect → Bool
starts_rel [] = false
starts_rel (e ∷ es) = is_rel_body e

-- whether a reply that accepts is one to a reliable message
abbrev pub if_accepted : Bool → List Effect → Bool
if_accepted true es = starts_rel es
if_accepted false es = false

-- a reliable message was sent: it was accepted, and what it caused first is that it was signed
unfoldable pub is_sent : Entry → Bool
is_sent entry = if_accepted (is_accepted entry.reply) entry.effects

-- whether a reply is a frame
abbrev pub is_frame_reply : Reply → Bool
is_frame_reply (replies.Frame number length digest) = true
is_frame_reply _ = false

-- a frame was made
unfoldable pub is_frame : Entry → Bool
is_frame entry = is_frame_reply entry.reply

-- whether an effect delivers a reliable message
abbrev pub is_delivered : Effect → Bool
is_delivered (effects.Delivered src seq payload) = true
is_delivered _ = false

-- whether an effect delivers a priority message
abbrev pub is_delivered_prio : Effect → Bool
is_delivered_prio (effects.DeliveredPrio src seq payload) = true
is_delivered_prio _ = false

-- those effects of an entry that are deliveries
abbrev pub delivered_in : Entry → List Effect
delivered_in entry = filter is_delivered entry.effects

-- the priority messages that an entry delivers
abbrev pub priority_in : Entry → List Effect
priority_in entry = filter is_delivered_prio entry.effects

-- the messages sent, those delivered of both kinds, and the frames made
abbrev pub sent_count : List Entry → ℕ
sent_count journal = length (filter is_sent journal)

-- how many reliable messages were delivered
abbrev pub delivered_count : List Entry → ℕ
delivered_count journal = length (flat_map delivered_in journal)

-- how many priority messages were delivered
abbrev pub priority_count : List Entry → ℕ
priority_count journal = length (flat_map priority_in journal)

-- how many frames were made
abbrev pub frame_count : List Entry → ℕ
frame_count journal = length (filter is_frame journal)

-- the words of a summary with these counts
abbrev pub summary_of : ℕ → ℕ → ℕ → ℕ → ℕ → List Word
summary_of events sent delivered priority frames =
    codes "summary" ∷ codes "events" ∷ decimal events ∷ codes "sent" ∷ decimal sent ∷ codes "delivered" ∷ decimal delivered
    ∷ codes "priority" ∷ decimal priority ∷ codes "frames" ∷ decimal frames ∷ []

-- the last line of a journal
abbrev pub summary_words : List Entry → List Word
summary_words journal = summary_of (length journal) (sent_count journal) (delivered_count journal) (priority_count journal) (frame_count journal)

-- the whole journal
abbrev pub journal_text : List Entry → List ℕ
journal_text journal = journal_lines journal ++ line_text (summary_words journal)
