-- The lines of replies, a row for each but one: fresh, which has a word for each object.
--
--     accepted SEQ        low MIN                                      toolong           stale BOOT COUNTER
--     full BASE HAVE      payload HEX                                  short NEED LEFT   topology THEIRS
--     spent INDEX         payload SRC SEQ HEX                          magic             section cut | count | object | tail
--     expired NOW         ticked                                       version           fresh ITEM ITEM ..
--     nopaths FOUND       tickspent INDEX                              notforme
--     empty               ticknotreserved BOUND                        badtag
--     frame NUMBER LENGTH DIGEST                                       learned BOOT
--     badend              started BOOT INDEX                           exhausted BOUND   stopped   down
--     adopted VERSION     document old                                 withdrawn         busy K
--
--     weight:  new foreign low old badsig                  ack:  new badend epoch old ahead badsig
--     prio:    new badend epoch expired seen badsig        rel:  new badend epoch old ahead gap full inboxfull badsig
--     kack:    as ack:                                     krel: as rel:, and offmask
--     epoch:   new badend old badsig                       document:  new bad old badsig strange
use Rattle.std.specs.Prelude.{ℕ, ◌≡◌, ◌≤◌, ◌-◌, ◌^◌, nat_le, List, [], ◌∷◌, ◌++◌, All}
use Rattle.std.specs.Prelude.{find, length, map, Option, Some, None, Result, Ok, Err, codes, if◌then◌else◌}
use Rattle.sp_base.specs.Refusals.{◌>>=◌}
use Rattle.sp_text.specs.Spelling.{Word}
use Rattle.sp_lines.specs.Cells.{Bytes, Cell, Name, Number, number_at, same}
use Rattle.sp_lines.specs.Rows.{AreIn, Values, form_among, row_at}
use Rattle.sp_lines.specs.declared.fault.Fault.{Fault}
use Rattle.sp_lines.specs.declared.fault.Fault.TheVariants as faults
use Rattle.sp_journal_reading.specs.EffectTable.{any_number, id, node, payload, seq, small_number}
use Rattle.sp_journal.specs.Words.{item_word}
use Rattle.sp_journal_reading.specs.declared.item_words.TheConstants.{MAX_ITEMS}
use Rattle.sp_journal.specs.declared.entry.AnswerWord.{AnswerWord}
use Rattle.sp_journal.specs.declared.entry.AnswerWord.TheVariants as answers
use Rattle.sp_journal.specs.declared.entry.ItemWord.{ItemWord}
use Rattle.sp_journal.specs.declared.entry.ItemWord.TheVariants as items
use Rattle.sp_journal.specs.declared.entry.LinkWord.{LinkWord}
use Rattle.sp_journal.specs.declared.entry.LinkWord.TheVariants as links
use Rattle.sp_journal.specs.declared.entry.SectionWord.{SectionWord}
use Rattle.sp_journal.specs.declared.entry.SectionWord.TheVariants as sections
use Rattle.sp_journal.specs.declared.entry.Reply.{Reply}
use Rattle.sp_journal.specs.declared.entry.Reply.TheVariants as replies

-- the forms of a reply's line
pub data Form : Type 0 where
  Accepted : Form
  Full : Form
  Spent : Form
  Expired : Form
  NoPaths : Form
  Busy : Form
  Payload : Form
  PayloadPrio : Form
  Empty : Form
  Ticked : Form
  TickSpent : Form
  TickNotReserved : Form
  Low : Form
  BadEnd : Form
  Frame : Form
  TooLong : Form
  Short : Form
  Magic : Form
  Version : Form
  NotForMe : Form
  BadTag : Form
  Learned : Form
  Stale : Form
  Topology : Form
  Section : SectionWord → Form
  Started : Form
  Exhausted : Form
  Stopped : Form
  Down : Form
  Adopted : Form
  DocumentOld : Form
  Withdrawn : Form

-- ---- rows

-- the row of a form
abbrev pub cells : Form → List Cell
cells Accepted = Name (codes "accepted") ∷ seq ∷ []
cells Full = Name (codes "full") ∷ any_number ∷ any_number ∷ []
cells Spent = Name (codes "spent") ∷ any_number ∷ []
cells Expired = Name (codes "expired") ∷ any_number ∷ []
cells NoPaths = Name (codes "nopaths") ∷ Number 0 255 ∷ []
cells Busy = Name (codes "busy") ∷ Number 0 255 ∷ []
cells Payload = Name (codes "payload") ∷ payload ∷ []
cells PayloadPrio = Name (codes "payload") ∷ node ∷ seq ∷ payload ∷ []
cells Empty = Name (codes "empty") ∷ []
cells Ticked = Name (codes "ticked") ∷ []
cells TickSpent = Name (codes "tickspent") ∷ any_number ∷ []
cells TickNotReserved = Name (codes "ticknotreserved") ∷ any_number ∷ []
cells Low = Name (codes "low") ∷ small_number ∷ []
cells BadEnd = Name (codes "badend") ∷ []
cells Frame = Name (codes "frame") ∷ small_number ∷ small_number ∷ Bytes 32 32 ∷ []
cells TooLong = Name (codes "toolong") ∷ []
cells Short = Name (codes "short") ∷ any_number ∷ any_number ∷ []
cells Magic = Name (codes "magic") ∷ []
cells Version = Name (codes "version") ∷ []
cells NotForMe = Name (codes "notforme") ∷ []
cells BadTag = Name (codes "badtag") ∷ []
cells Learned = Name (codes "learned") ∷ any_number ∷ []
cells Stale = Name (codes "stale") ∷ any_number ∷ any_number ∷ []
cells Topology = Name (codes "topology") ∷ small_number ∷ []
cells (Section sections.Cut) = Name (codes "section") ∷ Name (codes "cut") ∷ []
cells (Section sections.Count) = Name (codes "section") ∷ Name (codes "count") ∷ []
cells (Section sections.Object) = Name (codes "section") ∷ Name (codes "object") ∷ []
cells (Section sections.Tail) = Name (codes "section") ∷ Name (codes "tail") ∷ []
cells Started = Name (codes "started") ∷ any_number ∷ any_number ∷ []
cells Exhausted = Name (codes "exhausted") ∷ any_number ∷ []
cells Stopped = Name (codes "stopped") ∷ []
cells Down = Name (codes "down") ∷ []
cells Adopted = Name (codes "adopted") ∷ small_number ∷ []
cells DocumentOld = Name (codes "document") ∷ Name (codes "old") ∷ []
cells Withdrawn = Name (codes "withdrawn") ∷ []

-- all forms
abbrev pub forms : List Form
forms =
    Accepted ∷ Full ∷ Spent ∷ Expired ∷ NoPaths ∷ Busy ∷ Payload ∷ PayloadPrio ∷ Empty ∷ Ticked ∷ TickSpent ∷ TickNotReserved
    ∷ Low ∷ BadEnd ∷ Frame ∷ TooLong ∷ Short ∷ Magic ∷ Version ∷ NotForMe ∷ BadTag
    ∷ Learned ∷ Stale ∷ Topology ∷ Section sections.Cut ∷ Section sections.Count ∷ Section sections.Object ∷ Section sections.Tail
    ∷ Started ∷ Exhausted ∷ Stopped ∷ Down ∷ Adopted ∷ DocumentOld ∷ Withdrawn ∷ []

-- ---- replies

-- what a link answered that took no object
abbrev pub without_items : LinkWord → Reply
without_items link = replies.Arrived link []

-- the reply of a row with these values
abbrev pub reply_of : (form : Form) → Values (cells form) → Reply
reply_of Accepted x = replies.Accepted x.0
reply_of Full x = replies.Full x.0 x.1.0
reply_of Spent x = replies.Spent x.0
reply_of Expired x = replies.Expired x.0
reply_of NoPaths x = replies.NoPaths x.0
reply_of Busy x = replies.Busy x.0
reply_of Payload x = replies.Payload x.0
reply_of PayloadPrio x = replies.PayloadPrio (id x.0) x.1.0 x.1.1.0
reply_of Empty x = replies.Empty
reply_of Ticked x = replies.Ticked
reply_of TickSpent x = replies.TickSpent x.0
reply_of TickNotReserved x = replies.TickNotReserved x.0
reply_of Low x = replies.Low x.0
reply_of BadEnd x = replies.BadEnd
reply_of Frame x = replies.Frame x.0 x.1.0 x.1.1.0
reply_of TooLong x = without_items links.TooLong
reply_of Short x = without_items (links.Short x.0 x.1.0)
reply_of Magic x = without_items links.Magic
reply_of Version x = without_items links.Version
reply_of NotForMe x = without_items links.NotForMe
reply_of BadTag x = without_items links.BadTag
reply_of Learned x = without_items (links.Learned x.0)
reply_of Stale x = without_items (links.Stale x.0 x.1.0)
reply_of Topology x = without_items (links.Topology x.0)
reply_of (Section sections.Cut) x = without_items (links.Section sections.Cut)
reply_of (Section sections.Count) x = without_items (links.Section sections.Count)
reply_of (Section sections.Object) x = without_items (links.Section sections.Object)
reply_of (Section sections.Tail) x = without_items (links.Section sections.Tail)
reply_of Started x = replies.Started x.0 x.1.0
reply_of Exhausted x = replies.Exhausted x.0
reply_of Stopped x = replies.Stopped
reply_of Down x = replies.Down
reply_of Adopted x = replies.Adopted x.0
reply_of DocumentOld x = replies.DocumentOld
reply_of Withdrawn x = without_items links.Withdrawn

-- ---- items

-- what an object of each kind may be answered
abbrev pub weight_answers : List AnswerWord
weight_answers = answers.New ∷ answers.Foreign ∷ answers.Low ∷ answers.Old ∷ answers.BadSig ∷ []

-- what may be answered to a priority message
abbrev pub prio_answers : List AnswerWord
prio_answers = answers.New ∷ answers.BadEnd ∷ answers.Epoch ∷ answers.Expired ∷ answers.Seen ∷ answers.BadSig ∷ []

-- what may be answered to an acknowledgement
abbrev pub ack_answers : List AnswerWord
ack_answers = answers.New ∷ answers.BadEnd ∷ answers.Epoch ∷ answers.Old ∷ answers.Ahead ∷ answers.BadSig ∷ []

-- what may be answered to a reliable message
abbrev pub rel_answers : List AnswerWord
rel_answers = answers.New ∷ answers.BadEnd ∷ answers.Epoch ∷ answers.Old ∷ answers.Ahead ∷ answers.Gap ∷ answers.Full ∷ answers.InboxFull ∷ answers.BadSig ∷ []

-- what may be answered to a reliable message on paths
abbrev pub krel_answers : List AnswerWord
krel_answers =
    answers.New ∷ answers.BadEnd ∷ answers.Epoch ∷ answers.OffMask ∷ answers.Old ∷ answers.Ahead ∷ answers.Gap ∷ answers.Full ∷ answers.InboxFull
    ∷ answers.BadSig ∷ []

-- what may be answered to an Epoch object
abbrev pub epoch_answers : List AnswerWord
epoch_answers = answers.New ∷ answers.BadEnd ∷ answers.Old ∷ answers.BadSig ∷ []

-- what may be answered to a document
abbrev pub document_answers : List AnswerWord
document_answers = answers.New ∷ answers.Bad ∷ answers.Old ∷ answers.BadSig ∷ answers.Strange ∷ []

-- all items
abbrev pub all_items : List ItemWord
all_items =
    map items.Weight weight_answers
    ++ (map items.Prio prio_answers
    ++ (map items.Ack ack_answers ++ (map items.Rel rel_answers ++ (map items.Kack ack_answers
    ++ (map items.Krel krel_answers ++ (map items.Epoch epoch_answers ++ map items.Document document_answers))))))

-- the item among these that has this word
abbrev pub item_among : List ItemWord → Word → Option ItemWord
item_among among word = find (λ item. same word (item_word item)) among

-- the answer of a word, if it is one
abbrev pub or_form : Option ItemWord → Result ItemWord Fault
or_form None = Err faults.Form
or_form (Some item) = Ok item

-- the item of a word
unfoldable pub item_at : Word → Result ItemWord Fault
item_at word = or_form (item_among all_items word)

-- the items of words, or the first fault
abbrev pub items_at : List Word → Result (List ItemWord) Fault
items_at [] = Ok []
items_at (word ∷ words) = item_at word >>= λ item. items_at words >>= λ more. Ok (item ∷ more)

-- the table has this item
abbrev pub IsItem : ItemWord → Type 0
IsItem item = item_among all_items (item_word item) ≡ Some item

-- ---- reading

-- a reply of a row with values in their ranges, or fresh with items of the table, and not too many
pub data IsGoodReply (reply : Reply) : Type 0 where
  Of_row : (form : Form) (xs : Values (cells form)) → AreIn (cells form) xs → reply ≡ reply_of form xs → IsGoodReply reply
  Of_items : (each : List ItemWord) → All IsItem each → length each ≤ MAX_ITEMS → reply ≡ replies.Arrived links.Fresh each → IsGoodReply reply

-- the form of a reply with these words
abbrev pub form_for : List Word → Option Form
form_for words = form_among cells forms words

-- the reply of words that fit the row of a form
unfoldable pub read_form : Form → List Word → Result Reply Fault
read_form form words = row_at (cells form) words >>= λ xs. Ok (reply_of form xs)

-- the reply that words of a form say, or the first fault
abbrev pub read_for : Option Form → List Word → Result Reply Fault
read_for None words = Err faults.Form
read_for (Some form) words = read_form form words

-- the words after fresh
unfoldable pub read_fresh : List Word → Result Reply Fault
read_fresh words = if nat_le (length words) MAX_ITEMS then (items_at words >>= λ each. Ok (replies.Arrived links.Fresh each)) else Err faults.Form

-- the reply of the words of a line after its number
abbrev pub read_reply : List Word → Result Reply Fault
read_reply [] = Err faults.Form
read_reply (name ∷ words) = if same name (codes "fresh") then read_fresh words else read_for (form_for (name ∷ words)) (name ∷ words)

-- ---- with the number of the entry

-- the greatest number of an entry
abbrev pub MAX_ENTRIES : ℕ
MAX_ENTRIES = 2 ^ 32 - 1

-- the number of an entry and its reply: the number is judged first
abbrev pub read_entry : List Word → Result (ℕ × Reply) Fault
read_entry [] = Err faults.Form
read_entry (number ∷ words) = number_at 1 MAX_ENTRIES number >>= λ n. read_reply words >>= λ reply. Ok (n, reply)
