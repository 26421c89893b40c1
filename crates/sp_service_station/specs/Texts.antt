-- What a recording has the digest of, for what a node answered: of a tick and a datagram the lines of its journal without a number, of a poll the frame.
use Rattle.std.specs.Prelude.{ℕ, List, [], map, Option, Some, None}
use Rattle.sp_journal.specs.JournalText.{reply_text}
use Rattle.sp_journal.specs.declared.entry.Reply.{Reply}
use Rattle.sp_journal.specs.declared.entry.Reply.TheVariants as replies
use Rattle.sp_msg.specs.declared.effect.Effect.{Effect}
use Rattle.sp_rules.specs.Steps as steps
use Rattle.sp_node_words.specs.Words.{item_word, link_word, tick_word}

-- what a journal says of the answer to a tick or a datagram. None of any other
abbrev pub word_of : steps.Reply → Option Reply
word_of (steps.Ticked reply) = Some (tick_word reply)
word_of (steps.Arrived link items) = Some (replies.Arrived (link_word link) (map item_word items))
word_of _ = None

-- the line of this reply and those of its effects. Nothing where there is no reply
abbrev pub lines_of : Option Reply → List Effect → List ℕ
lines_of None effects = []
lines_of (Some reply) effects = reply_text (record { reply = reply; effects = effects })

-- the text of an answer and its effects
abbrev pub answer_text : steps.Output → List ℕ
answer_text output = lines_of (word_of output.reply) output.effects

-- the frame that was made. Nothing where the node wasn't polled
abbrev pub frame_in : steps.Reply → List ℕ
frame_in (steps.Frame bytes) = bytes
frame_in _ = []
