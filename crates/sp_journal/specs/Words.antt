-- The words of a journal: those of each reply, and those of each effect.
--
--     accepted SEQ           ticked                        toolong              stale BOOT COUNTER
--     full BASE HAVE         tickspent INDEX               short NEED LEFT      topology THEIRS
--     spent INDEX            ticknotreserved BOUND         magic                section cut | count | object | tail
--     expired NOW            low MIN                       version              withdrawn
--     nopaths FOUND          frame NUMBER LENGTH DIGEST    notforme             fresh, and a word for each object: weight: prio: ack: rel: kack: krel: epoch:
--     payload HEX            payload SRC SEQ HEX           badtag                 with new badend epoch offmask foreign low old expired seen ahead gap full
--     empty                  badend                        learned BOOT           inboxfull badsig; or document: with new bad old badsig strange
--     started BOOT INDEX     exhausted BOUND               stopped              down
--     adopted VERSION        document old                  busy K
--
--     + signed HEX                        + delivered rel SRC SEQ HEX
--     + stored PLACE ID SRC SEQ PRIO      + delivered prio SRC SEQ HEX
--     + gone PLACE ID WHY                 + weight ORIGIN EDGE SEQ WEIGHT
--     + version VERSION                   + ended S D
--     + delivered krel SRC SEQ HEX        + kended S D
use Rattle.std.specs.Prelude.{List, [], ◌∷◌, ◌++◌, map, codes}
use Rattle.std.specs.Fmt.{decimal}
use Rattle.sp_text.specs.Spelling.{Word, hex_word}
use Rattle.sp_msg.specs.declared.effect.Effect.{Effect}
use Rattle.sp_msg.specs.declared.effect.Effect.TheVariants as effects
use Rattle.sp_msg.specs.declared.effect.Why.{Why}
use Rattle.sp_msg.specs.declared.effect.Why.TheVariants as whys
use Rattle.sp_journal.specs.declared.entry.Reply.{Reply}
use Rattle.sp_journal.specs.declared.entry.Reply.TheVariants as replies
use Rattle.sp_journal.specs.declared.entry.LinkWord.{LinkWord}
use Rattle.sp_journal.specs.declared.entry.LinkWord.TheVariants as links
use Rattle.sp_journal.specs.declared.entry.SectionWord.{SectionWord}
use Rattle.sp_journal.specs.declared.entry.SectionWord.TheVariants as sections
use Rattle.sp_journal.specs.declared.entry.ItemWord.{ItemWord}
use Rattle.sp_journal.specs.declared.entry.ItemWord.TheVariants as items
use Rattle.sp_journal.specs.declared.entry.AnswerWord.{AnswerWord}
use Rattle.sp_journal.specs.declared.entry.AnswerWord.TheVariants as answers

-- ---- replies

abbrev pub answer_word : AnswerWord → Word
answer_word answers.New = codes "new"
answer_word answers.BadEnd = codes "badend"
answer_word answers.Epoch = codes "epoch"
answer_word answers.OffMask = codes "offmask"
answer_word answers.Foreign = codes "foreign"
answer_word answers.Low = codes "low"
answer_word answers.Old = codes "old"
answer_word answers.Expired = codes "expired"
answer_word answers.Seen = codes "seen"
answer_word answers.Ahead = codes "ahead"
answer_word answers.Gap = codes "gap"
answer_word answers.Full = codes "full"
answer_word answers.InboxFull = codes "inboxfull"
answer_word answers.BadSig = codes "badsig"
answer_word answers.Bad = codes "bad"
answer_word answers.Strange = codes "strange"

-- the word of an object's answer
abbrev pub item_word : ItemWord → Word
item_word (items.Weight answer) = codes "weight:" ++ answer_word answer
item_word (items.Prio answer) = codes "prio:" ++ answer_word answer
item_word (items.Ack answer) = codes "ack:" ++ answer_word answer
item_word (items.Rel answer) = codes "rel:" ++ answer_word answer
item_word (items.Kack answer) = codes "kack:" ++ answer_word answer
item_word (items.Krel answer) = codes "krel:" ++ answer_word answer
item_word (items.Epoch answer) = codes "epoch:" ++ answer_word answer
item_word (items.Document answer) = codes "document:" ++ answer_word answer

-- the word of what is wrong with sections
abbrev pub section_word : SectionWord → Word
section_word sections.Cut = codes "cut"
section_word sections.Count = codes "count"
section_word sections.Object = codes "object"
section_word sections.Tail = codes "tail"

-- the first word of what a link answered, and those after it
abbrev pub link_name : LinkWord → Word
link_name links.TooLong = codes "toolong"
link_name (links.Short need left) = codes "short"
link_name links.Magic = codes "magic"
link_name links.Version = codes "version"
link_name links.NotForMe = codes "notforme"
link_name links.BadTag = codes "badtag"
link_name (links.Learned boot) = codes "learned"
link_name (links.Stale boot counter) = codes "stale"
link_name (links.Topology theirs) = codes "topology"
link_name (links.Section why) = codes "section"
link_name links.Withdrawn = codes "withdrawn"
link_name links.Fresh = codes "fresh"

-- the words behind the name of what a link says
abbrev pub link_fields : LinkWord → List Word
link_fields (links.Short need left) = decimal need ∷ decimal left ∷ []
link_fields (links.Learned boot) = decimal boot ∷ []
link_fields (links.Stale boot counter) = decimal boot ∷ decimal counter ∷ []
link_fields (links.Topology theirs) = decimal theirs ∷ []
link_fields (links.Section why) = section_word why ∷ []
link_fields _ = []

-- the first word of a reply, and those after it
abbrev pub reply_name : Reply → Word
reply_name (replies.Accepted seq) = codes "accepted"
reply_name (replies.Full base have) = codes "full"
reply_name (replies.Spent index) = codes "spent"
reply_name (replies.Expired now) = codes "expired"
reply_name (replies.NoPaths found) = codes "nopaths"
reply_name (replies.Busy paths) = codes "busy"
reply_name (replies.Payload payload) = codes "payload"
reply_name (replies.PayloadPrio src seq payload) = codes "payload"
reply_name replies.Empty = codes "empty"
reply_name replies.Ticked = codes "ticked"
reply_name (replies.TickSpent index) = codes "tickspent"
reply_name (replies.TickNotReserved bound) = codes "ticknotreserved"
reply_name (replies.Low least) = codes "low"
reply_name replies.BadEnd = codes "badend"
reply_name (replies.Frame number length digest) = codes "frame"
reply_name (replies.Arrived link of_each) = link_name link
reply_name (replies.Started boot index) = codes "started"
reply_name (replies.Exhausted bound) = codes "exhausted"
reply_name replies.Stopped = codes "stopped"
reply_name replies.Down = codes "down"
reply_name (replies.Adopted version) = codes "adopted"
reply_name replies.DocumentOld = codes "document"

-- the words behind the name of a reply
abbrev pub reply_fields : Reply → List Word
reply_fields (replies.Accepted seq) = decimal seq ∷ []
reply_fields (replies.Full base have) = decimal base ∷ decimal have ∷ []
reply_fields (replies.Spent index) = decimal index ∷ []
reply_fields (replies.Expired now) = decimal now ∷ []
reply_fields (replies.NoPaths found) = decimal found ∷ []
reply_fields (replies.Busy paths) = decimal paths ∷ []
reply_fields (replies.Payload payload) = hex_word payload ∷ []
reply_fields (replies.PayloadPrio src seq payload) = decimal src.0 ∷ decimal seq ∷ hex_word payload ∷ []
reply_fields replies.Empty = []
reply_fields replies.Ticked = []
reply_fields (replies.TickSpent index) = decimal index ∷ []
reply_fields (replies.TickNotReserved bound) = decimal bound ∷ []
reply_fields (replies.Low least) = decimal least ∷ []
reply_fields replies.BadEnd = []
reply_fields (replies.Frame number length digest) = decimal number ∷ decimal length ∷ hex_word digest ∷ []
reply_fields (replies.Arrived link of_each) = link_fields link ++ map item_word of_each
reply_fields (replies.Started boot index) = decimal boot ∷ decimal index ∷ []
reply_fields (replies.Exhausted bound) = decimal bound ∷ []
reply_fields replies.Stopped = []
reply_fields replies.Down = []
reply_fields (replies.Adopted version) = decimal version ∷ []
reply_fields replies.DocumentOld = codes "old" ∷ []

-- the words of a reply
abbrev pub reply_words : Reply → List Word
reply_words reply = reply_name reply ∷ reply_fields reply

-- ---- effects

-- the word of why an entry left
abbrev pub why_word : Why → Word
why_word whys.Evicted = codes "evicted"
why_word whys.Expired = codes "expired"
why_word whys.Acked = codes "acked"
why_word whys.Taken = codes "taken"
why_word whys.Withdrawn = codes "withdrawn"

-- the words of an effect after its plus
abbrev pub effect_fields : Effect → List Word
effect_fields (effects.Signed body) = codes "signed" ∷ hex_word body ∷ []
effect_fields (effects.Stored place id src seq prio) = codes "stored" ∷ decimal place ∷ decimal id ∷ decimal src.0 ∷ decimal seq ∷ decimal prio ∷ []
effect_fields (effects.Gone place id why) = codes "gone" ∷ decimal place ∷ decimal id ∷ why_word why ∷ []
effect_fields (effects.Delivered src seq payload) = codes "delivered" ∷ codes "rel" ∷ decimal src.0 ∷ decimal seq ∷ hex_word payload ∷ []
effect_fields (effects.DeliveredPrio src seq payload) = codes "delivered" ∷ codes "prio" ∷ decimal src.0 ∷ decimal seq ∷ hex_word payload ∷ []
effect_fields (effects.DeliveredKrel src seq payload) = codes "delivered" ∷ codes "krel" ∷ decimal src.0 ∷ decimal seq ∷ hex_word payload ∷ []
effect_fields (effects.WeightHeld origin edge seq weight) = codes "weight" ∷ decimal origin.0 ∷ decimal edge.0 ∷ decimal seq ∷ decimal weight ∷ []
effect_fields (effects.Ended flow) = codes "ended" ∷ decimal flow.src.0 ∷ decimal flow.dst.0 ∷ []
effect_fields (effects.Kended flow) = codes "kended" ∷ decimal flow.src.0 ∷ decimal flow.dst.0 ∷ []
effect_fields (effects.Version version) = codes "version" ∷ decimal version ∷ []

-- the words of an effect
abbrev pub effect_words : Effect → List Word
effect_words effect = codes "+" ∷ effect_fields effect
