-- What the journal says of a step: its reply in words, frames by their number, length and digest; and its effects as they are.
use Rattle.std.specs.Prelude.{ℕ, ◌≡◌, List, length, map, Option, None, Some}
use Rattle.sp_journal.specs.declared.entry.Entry.{Entry}
use Rattle.sp_journal.specs.declared.entry.Reply.TheVariants as replies
use Rattle.sp_journal.specs.declared.entry.Reply.{Reply}
use Rattle.sp_msg.specs.declared.body.Body.TheVariants as bodies
use Rattle.sp_msg.specs.declared.body.Body.{Body}
use Rattle.sp_node_words.specs.Words.{item_word, link_word, refused_word, tick_word}
use Rattle.sp_rules.specs.declared.answers.DocumentAnswer.{DocumentAnswer}
use Rattle.sp_rules.specs.declared.answers.DocumentAnswer.TheVariants as documents
use Rattle.sp_rules.specs.Steps as steps
use Rattle.sp_rules.specs.Steps.{Output}
use Rattle.sp_rules.specs.declared.store.Entry.{Entry as Stored}
use Rattle.sp_runs.specs.Settings.{Setting}

-- what a client took of a flow
abbrev pub payload_word : Option (List ℕ) → Reply
payload_word None = replies.Empty
payload_word (Some payload) = replies.Payload payload

-- what it took of the priority inbox
abbrev pub body_word : Body → Option Reply
body_word (bodies.Prio p) = Some (replies.PayloadPrio p.src p.seq p.payload)
body_word _ = None

-- the same, where there may be nothing
abbrev pub message_word : Option Stored → Option Reply
message_word None = Some replies.Empty
message_word (Some e) = body_word e.kept.body

-- what a node answers to a document that it is handed. Each is signed, and succeeds all before it
abbrev pub replaced_word : DocumentAnswer → Option Reply
replaced_word (documents.Adopted version) = Some (replies.Adopted version)
replaced_word (documents.Old held) = Some replies.DocumentOld
replaced_word _ = None

-- the words of a reply; a frame is told under this number, by its length and its digest
abbrev pub reply_word : Setting → ℕ → steps.Reply → Option Reply
reply_word x number (steps.Frame bytes) = Some (replies.Frame number (length bytes) (x.digest bytes))
reply_word x number (steps.Arrived link of_each) = Some (replies.Arrived (link_word link) (map item_word of_each))
reply_word x number (steps.Ticked reply) = Some (tick_word reply)
reply_word x number (steps.Accepted seq) = Some (replies.Accepted seq)
reply_word x number (steps.Refused refused) = refused_word refused
reply_word x number (steps.NotCalled refused) = None
reply_word x number (steps.Payload payload) = Some (payload_word payload)
reply_word x number (steps.Message entry) = message_word entry
reply_word x number (steps.Replaced answer) = replaced_word answer

-- the entry is that of a step with this output
pub record Says (x : Setting) (number : ℕ) (output : Output) (entry : Entry) : Type 0 where
  pub reply : reply_word x number output.reply ≡ Some entry.reply
  pub effects : entry.effects ≡ output.effects
