-- The words of a journal for what a node answers: to a datagram and its objects, to a send, and to a tick.
use Rattle.std.specs.Prelude.{Option, None, Some}
use Rattle.sp_frame.specs.declared.refused.SectionRefused.{SectionRefused}
use Rattle.sp_frame.specs.declared.refused.SectionRefused.TheVariants as sections
use Rattle.sp_msg.specs.declared.refused.SendRefused.{SendRefused}
use Rattle.sp_msg.specs.declared.refused.SendRefused.TheVariants as refusals
use Rattle.sp_rules.specs.declared.answers.AckAnswer.{AckAnswer}
use Rattle.sp_rules.specs.declared.answers.AckAnswer.TheVariants as acks
use Rattle.sp_rules.specs.declared.answers.DocumentAnswer.{DocumentAnswer}
use Rattle.sp_rules.specs.declared.answers.DocumentAnswer.TheVariants as documents
use Rattle.sp_rules.specs.declared.answers.EpochAnswer.{EpochAnswer}
use Rattle.sp_rules.specs.declared.answers.EpochAnswer.TheVariants as epochs
use Rattle.sp_rules.specs.declared.answers.Item.{Item}
use Rattle.sp_rules.specs.declared.answers.Item.TheVariants as items
use Rattle.sp_rules.specs.declared.answers.PrioAnswer.{PrioAnswer}
use Rattle.sp_rules.specs.declared.answers.PrioAnswer.TheVariants as prios
use Rattle.sp_rules.specs.declared.answers.RelAnswer.{RelAnswer}
use Rattle.sp_rules.specs.declared.answers.RelAnswer.TheVariants as rels
use Rattle.sp_rules.specs.declared.answers.WeightAnswer.{WeightAnswer}
use Rattle.sp_rules.specs.declared.answers.WeightAnswer.TheVariants as weights
use Rattle.sp_rules.specs.declared.node.LinkReply.{LinkReply}
use Rattle.sp_rules.specs.declared.node.LinkReply.TheVariants as links
use Rattle.sp_rules.specs.declared.node.TickReply.{TickReply}
use Rattle.sp_rules.specs.declared.node.TickReply.TheVariants as ticks
use Rattle.sp_journal.specs.declared.entry.AnswerWord.{AnswerWord}
use Rattle.sp_journal.specs.declared.entry.AnswerWord.TheVariants as answers
use Rattle.sp_journal.specs.declared.entry.ItemWord.{ItemWord}
use Rattle.sp_journal.specs.declared.entry.ItemWord.TheVariants as item_words
use Rattle.sp_journal.specs.declared.entry.LinkWord.{LinkWord}
use Rattle.sp_journal.specs.declared.entry.LinkWord.TheVariants as link_words
use Rattle.sp_journal.specs.declared.entry.Reply.{Reply}
use Rattle.sp_journal.specs.declared.entry.Reply.TheVariants as replies
use Rattle.sp_journal.specs.declared.entry.SectionWord.{SectionWord}
use Rattle.sp_journal.specs.declared.entry.SectionWord.TheVariants as section_words

-- ---- a datagram

-- where sections leave their grammar
abbrev pub section_word : SectionRefused → SectionWord
section_word sections.Cut = section_words.Cut
section_word sections.Count = section_words.Count
section_word sections.Object = section_words.Object
section_word sections.Tail = section_words.Tail

-- what became of a datagram at its link
abbrev pub link_word : LinkReply → LinkWord
link_word links.TooLong = link_words.TooLong
link_word (links.Short short) = link_words.Short short.need short.left
link_word links.Magic = link_words.Magic
link_word links.Version = link_words.Version
link_word links.NotForMe = link_words.NotForMe
link_word links.BadTag = link_words.BadTag
link_word (links.Learned boot) = link_words.Learned boot
link_word (links.Stale boot counter) = link_words.Stale boot counter
link_word (links.OtherTopology theirs) = link_words.Topology theirs
link_word (links.Section refused) = link_words.Section (section_word refused)
link_word links.Withdrawn = link_words.Withdrawn
link_word links.Fresh = link_words.Fresh

-- the answer to an update of a weight
abbrev pub weight_word : WeightAnswer → AnswerWord
weight_word weights.Foreign = answers.Foreign
weight_word (weights.Low least) = answers.Low
weight_word (weights.Old held) = answers.Old
weight_word weights.BadSig = answers.BadSig
weight_word weights.New = answers.New

-- the answer to a priority message
abbrev pub prio_word : PrioAnswer → AnswerWord
prio_word prios.BadEnd = answers.BadEnd
prio_word prios.Epoch = answers.Epoch
prio_word prios.Expired = answers.Expired
prio_word prios.Seen = answers.Seen
prio_word prios.BadSig = answers.BadSig
prio_word prios.New = answers.New

-- the answer to an acknowledgement, of either kind of flow
abbrev pub ack_word : AckAnswer → AnswerWord
ack_word acks.BadEnd = answers.BadEnd
ack_word acks.Epoch = answers.Epoch
ack_word acks.Old = answers.Old
ack_word acks.Ahead = answers.Ahead
ack_word acks.BadSig = answers.BadSig
ack_word acks.New = answers.New

-- the answer to a reliable message, of either kind of flow
abbrev pub rel_word : RelAnswer → AnswerWord
rel_word rels.BadEnd = answers.BadEnd
rel_word rels.Epoch = answers.Epoch
rel_word rels.OffMask = answers.OffMask
rel_word rels.Old = answers.Old
rel_word rels.Ahead = answers.Ahead
rel_word rels.Gap = answers.Gap
rel_word rels.Full = answers.Full
rel_word rels.InboxFull = answers.InboxFull
rel_word rels.BadSig = answers.BadSig
rel_word rels.New = answers.New

-- the answer to an Epoch object
abbrev pub epoch_word : EpochAnswer → AnswerWord
epoch_word epochs.BadEnd = answers.BadEnd
epoch_word epochs.Old = answers.Old
epoch_word epochs.BadSig = answers.BadSig
epoch_word epochs.New = answers.New

-- the answer to a document
abbrev pub document_word : DocumentAnswer → AnswerWord
document_word documents.Bad = answers.Bad
document_word (documents.Old held) = answers.Old
document_word documents.BadSig = answers.BadSig
document_word documents.Strange = answers.Strange
document_word (documents.Adopted version) = answers.New

-- the kind of an object and its answer
abbrev pub item_word : Item → ItemWord
item_word (items.Weight answer) = item_words.Weight (weight_word answer)
item_word (items.Prio answer) = item_words.Prio (prio_word answer)
item_word (items.Ack answer) = item_words.Ack (ack_word answer)
item_word (items.Rel answer) = item_words.Rel (rel_word answer)
item_word (items.Kack answer) = item_words.Kack (ack_word answer)
item_word (items.Krel answer) = item_words.Krel (rel_word answer)
item_word (items.Epoch answer) = item_words.Epoch (epoch_word answer)
item_word (items.Document answer) = item_words.Document (document_word answer)

-- ---- the other calls. None for an answer that no event of a schedule gets

-- why a message or a weight was refused
abbrev pub refused_word : SendRefused → Option Reply
refused_word (refusals.Full base have) = Some (replies.Full base have)
refused_word (refusals.Expired now) = Some (replies.Expired now)
refused_word (refusals.NoPaths found) = Some (replies.NoPaths found)
refused_word (refusals.Busy paths) = Some (replies.Busy paths)
refused_word (refusals.Low least) = Some (replies.Low least)
refused_word (refusals.Spent index) = Some (replies.Spent index)
refused_word refusals.BadEnd = Some replies.BadEnd
refused_word _ = None

-- what a tick did
abbrev pub tick_word : TickReply → Reply
tick_word ticks.Ticked = replies.Ticked
tick_word (ticks.TickSpent index) = replies.TickSpent index
tick_word (ticks.TickNotReserved bound) = replies.TickNotReserved bound
