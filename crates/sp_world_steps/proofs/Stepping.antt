-- What a call of a node gives: its refusal has its word.
use Rattle.std.proofs.Common.{◌≡◌, ◌≢◌, ℕ, List, Option, None, Some, Result, Ok, Err, [], refl, ap, ◌∙◌, subst}
use Rattle.std.specs.Prelude.{IfErr}
use Rattle.sp_base.specs.declared.id.NodeId.{NodeId}
use Rattle.sp_journal.specs.declared.entry.Entry.{Entry}
use Rattle.sp_msg.specs.declared.effect.Why.TheVariants.{Taken as TakenAway}
use Rattle.sp_msg.specs.declared.refused.SendRefused.{SendRefused}
use Rattle.sp_msg.specs.declared.refused.SendRefused.TheVariants as sends
use Rattle.sp_node.specs.Calls.{Datagrams, Polls, Publishes, TakesPrio, Ticks, published}
use Rattle.sp_node_format.specs.Format.{format_of}
use Rattle.sp_node_state.specs.Sends.{Sends}
use Rattle.sp_rules.specs.Node.{NodeState, call_refusal}
use Rattle.sp_rules.specs.Polls.{frame_to}
use Rattle.sp_rules.specs.PrioPeer.{gone}
use Rattle.sp_rules.specs.Steps.{Frame, Input, Message, NodeStep, Output, Publish, Refused, TakePrio, arrived, refused_call, replied}
use Rattle.sp_rules.specs.declared.answers.DocumentAnswer.{DocumentAnswer}
use Rattle.sp_rules.specs.declared.node.NodeRefused.{NodeRefused}
use Rattle.sp_rules.specs.declared.node.NodeRefused.TheVariants as calls
use Rattle.sp_rules.specs.declared.node.Step.{Step}
use Rattle.sp_rules.specs.declared.store.Entry.{Entry as Stored}
use Rattle.sp_node_words.specs.Words.{refused_word}
use Rattle.sp_runs.specs.Journals.{body_word, replaced_word}
use Rattle.sp_world_steps.specs.Gave.{Gave, HasWords}

-- after want of memory a node is as before
pub memory_by_send : (input : Input) (refusal : Option SendRefused) (old new : NodeState) (done : Result (Step ℕ) SendRefused)
    → Sends input refusal old done new
    → done ≡ Err sends.Memory → new ≡ old
memory_by_send input refusal old new done gave is = (subst (λ (d : Result (Step ℕ) SendRefused). Sends input refusal old d new) is gave).1

pub words_by_send : (input : Input) (refusal : Option SendRefused) (old new : NodeState) (done : Result (Step ℕ) SendRefused) → HasWords old input
    → Sends input refusal old done new → IfErr done (λ refused. refused ≢ sends.Memory → refused_word refused ≡ None → ⊥)
words_by_send input refusal old new (Ok step) has gave = tt
words_by_send input refusal old new (Err sends.Memory) has gave = λ other. absurd (other refl)
words_by_send input refusal old new (Err sends.BadEnd) has gave = λ other. has.words (replied (Refused sends.BadEnd)) new gave
words_by_send input refusal old new (Err (sends.Full base have)) has gave = λ other. has.words (replied (Refused (sends.Full base have))) new gave
words_by_send input refusal old new (Err (sends.Busy paths)) has gave = λ other. has.words (replied (Refused (sends.Busy paths))) new gave
words_by_send input refusal old new (Err (sends.Expired now)) has gave = λ other. has.words (replied (Refused (sends.Expired now))) new gave
words_by_send input refusal old new (Err (sends.NoPaths found)) has gave = λ other. has.words (replied (Refused (sends.NoPaths found))) new gave
words_by_send input refusal old new (Err (sends.Low least)) has gave = λ other. has.words (replied (Refused (sends.Low least))) new gave
words_by_send input refusal old new (Err (sends.Spent index)) has gave = λ other. has.words (replied (Refused (sends.Spent index))) new gave
words_by_send input refusal old new (Err (sends.NotReserved bound)) has gave = λ other. has.words (replied (Refused (sends.NotReserved bound))) new gave

-- a send that is refused, with the word of its refusal
refused_gave : (input : Input) (old new : NodeState) (refused : SendRefused) (entry : Entry)
    → NodeStep (format_of old.fixed) old input (replied (Refused refused)) new
    → refused_word refused ≡ Some entry.reply → entry.effects ≡ [] → Gave old input entry new
refused_gave input old new refused entry step word effects = record {
  output = replied (Refused refused);
  step = step;
  tells = λ s. record { reply = word; effects = effects };
  no_object = refl;
  none_adopted = refl;
}

pub gave_by_send : (input : Input) (refusal : Option SendRefused) (old new : NodeState) (refused : SendRefused) (entry : Entry)
    → refused_word refused ≡ Some entry.reply → entry.effects ≡ [] → Sends input refusal old (Err refused) new → Gave old input entry new
gave_by_send input refusal old new sends.Memory entry word effects gave = absurd (cc)
gave_by_send input refusal old new sends.BadEnd entry word effects gave = refused_gave input old new sends.BadEnd entry gave word effects
gave_by_send input refusal old new (sends.Full base have) entry word effects gave = refused_gave input old new (sends.Full base have) entry gave word effects
gave_by_send input refusal old new (sends.Busy paths) entry word effects gave = refused_gave input old new (sends.Busy paths) entry gave word effects
gave_by_send input refusal old new (sends.Expired now) entry word effects gave = refused_gave input old new (sends.Expired now) entry gave word effects
gave_by_send input refusal old new (sends.NoPaths found) entry word effects gave = refused_gave input old new (sends.NoPaths found) entry gave word effects
gave_by_send input refusal old new (sends.Low least) entry word effects gave = refused_gave input old new (sends.Low least) entry gave word effects
gave_by_send input refusal old new (sends.Spent index) entry word effects gave = refused_gave input old new (sends.Spent index) entry gave word effects
gave_by_send input refusal old new (sends.NotReserved bound) entry word effects gave =
    refused_gave input old new (sends.NotReserved bound) entry gave word effects

-- a call that is answered is refused for want of memory alone
pub memory_by_poll : (old : NodeState) (v : NodeId) (new : NodeState) (refused : NodeRefused) → call_refusal old v ≡ None → Polls old v (Err refused) new
    → new ≡ old
memory_by_poll old v new calls.NotNeighbour called gave =
    let e = ap (λ (o : Output). o.reply) (gave.0 ∙ ap (λ r. refused_call r (replied (Frame (frame_to (format_of old.fixed) old v)))) called) in absurd (cc)
memory_by_poll old v new calls.Worn called gave =
    let e = ap (λ (o : Output). o.reply) (gave.0 ∙ ap (λ r. refused_call r (replied (Frame (frame_to (format_of old.fixed) old v)))) called) in absurd (cc)
memory_by_poll old v new calls.Memory called gave = gave.1

pub memory_by_datagram : (old : NodeState) (u : NodeId) (bytes : List ℕ) (new : NodeState) (refused : NodeRefused) → call_refusal old u ≡ None
    → Datagrams old u bytes (Err refused) new → new ≡ old
memory_by_datagram old u bytes new calls.NotNeighbour called gave =
    let e = ap (λ (o : Output). o.reply) (gave.0 ∙ ap (λ r. refused_call r (arrived (format_of old.fixed) old u bytes)) called) in absurd (cc)
memory_by_datagram old u bytes new calls.Worn called gave =
    let e = ap (λ (o : Output). o.reply) (gave.0 ∙ ap (λ r. refused_call r (arrived (format_of old.fixed) old u bytes)) called) in absurd (cc)
memory_by_datagram old u bytes new calls.Memory called gave = gave.1

pub memory_by_tick : (old : NodeState) (now : ℕ) (new : NodeState) (refused : NodeRefused) → Ticks old now (Err refused) new → new ≡ old
memory_by_tick old now new refused gave = gave.1

pub memory_by_publish : (old : NodeState) (document : List ℕ) (new : NodeState) (refused : NodeRefused) → Publishes old document (Err refused) new → new ≡ old
memory_by_publish old document new refused gave = gave.1

-- the answer to a document has its word
pub words_by_publish : (old : NodeState) (document : List ℕ) (step : Step DocumentAnswer) (new : NodeState) → HasWords old (Publish document)
    → Publishes old document (Ok step) new → replaced_word step.reply ≡ None → ⊥
words_by_publish old document step new has gave = has.words (published step) new gave

-- what is taken of a priority inbox is a priority message
pub words_by_take_prio : (old : NodeState) (entry : Stored) (new : NodeState) → HasWords old TakePrio → TakesPrio old (Some entry) new
    → body_word entry.kept.body ≡ None → ⊥
words_by_take_prio old entry new has gave =
    has.words (record { reply = Message (Some entry); effects = gone 0 TakenAway (Some entry); answered = []; adopted = None }) new gave
