-- What a local answers to the commands that it does, and which steps its calls are.
use Rattle.std.specs.Prelude.{ℕ, ◌≡◌, List, Option, Some, None, Result, Ok, Err, Bool, true, false, ⊤}
use Rattle.sp_msg.specs.declared.body.Body.{Body}
use Rattle.sp_msg.specs.declared.body.Body.TheVariants as bodies
use Rattle.sp_rules.specs.Changes.{FitsAFormat}
use Rattle.sp_rules.specs.declared.store.Entry.{Entry}
use Rattle.sp_client.specs.declared.request.Command.{Command}
use Rattle.sp_client.specs.declared.request.Command.TheVariants as commands
use Rattle.sp_rules.specs.declared.sends.PrioSend as lent
use Rattle.sp_rules.specs.declared.kflow.KSend as lent_paths
use Rattle.sp_client.specs.declared.answer.Answer.{Answer}
use Rattle.sp_client.specs.declared.answer.Answer.TheVariants as answers
use Rattle.sp_client.specs.Sessions.{Steps}
use Rattle.sp_client.specs.declared.local.BadEnd.{BadEnd}
use Rattle.sp_msg.specs.declared.refused.SendRefused.{SendRefused}
use Rattle.sp_msg.specs.declared.refused.SendRefused.TheVariants as refusals

-- the command that sends a priority message
abbrev pub command_of : lent.PrioSend → Command
command_of m = commands.SendPrio m.dst m.prio m.expiry m.paths m.payload.now

-- and the one that sends a reliable message on paths
abbrev pub krel_command : lent_paths.KSend → Command
krel_command m = commands.SendKrel m.dst m.paths m.payload.now

-- ---- answers

-- what a client is told of a send or a weight. None where memory was wanting
abbrev pub sent : Result ℕ SendRefused → Option Answer
sent (Ok seq) = Some (answers.Accepted seq)
sent (Err refusals.BadEnd) = Some answers.BadEnd
sent (Err (refusals.Full base have)) = Some (answers.Full base have)
sent (Err (refusals.Busy paths)) = Some (answers.BusyPaths paths)
sent (Err (refusals.Expired now)) = Some (answers.Expired now)
sent (Err (refusals.NoPaths found)) = Some (answers.NoPaths found)
sent (Err (refusals.Low min)) = Some (answers.Low min)
sent (Err (refusals.Spent index)) = Some (answers.Spent index)
sent (Err (refusals.NotReserved bound)) = Some (answers.NotReserved bound)
sent (Err refusals.Memory) = None

-- what a client is told of the oldest reliable message of a node, of either kind
abbrev pub took : Result (Option (List ℕ)) BadEnd → Answer
took (Ok (Some payload)) = answers.Payload payload
took (Ok None) = answers.Empty
took (Err e) = answers.BadEnd

-- and of the oldest priority message. An entry has no other
abbrev pub message : Body → Answer
message (bodies.Prio p) = answers.Message p.src p.seq p.payload
message _ = answers.Empty

-- the answer to a client that takes a priority message
abbrev pub took_prio : Option Entry → Answer
took_prio (Some entry) = message entry.kept.body
took_prio None = answers.Empty

-- ---- steps

-- a call is the step of its answer. Without memory it leaves all as it was
abbrev pub StepsBy : {L : Type 0} → Steps L → L → Command → Option Answer → L → Type 0
StepsBy steps old command (Some answer) new = steps old command answer new
StepsBy steps old command None new = new ≡ old

-- ---- what holds of every local

-- a reliable send refuses only so
abbrev pub may_refuse_rel : SendRefused → Bool
may_refuse_rel refusals.BadEnd = true
may_refuse_rel (refusals.Full base have) = true
may_refuse_rel (refusals.Spent index) = true
may_refuse_rel (refusals.NotReserved bound) = true
may_refuse_rel refusals.Memory = true
may_refuse_rel _ = false

-- a priority send
abbrev pub may_refuse_prio : SendRefused → Bool
may_refuse_prio refusals.BadEnd = true
may_refuse_prio (refusals.Expired now) = true
may_refuse_prio (refusals.Spent index) = true
may_refuse_prio (refusals.NotReserved bound) = true
may_refuse_prio (refusals.NoPaths found) = true
may_refuse_prio refusals.Memory = true
may_refuse_prio _ = false

-- a reliable send on paths
abbrev pub may_refuse_krel : SendRefused → Bool
may_refuse_krel refusals.BadEnd = true
may_refuse_krel (refusals.Full base have) = true
may_refuse_krel (refusals.Busy paths) = true
may_refuse_krel (refusals.Spent index) = true
may_refuse_krel (refusals.NotReserved bound) = true
may_refuse_krel (refusals.NoPaths found) = true
may_refuse_krel refusals.Memory = true
may_refuse_krel _ = false

-- a weight
abbrev pub may_refuse_weight : SendRefused → Bool
may_refuse_weight refusals.BadEnd = true
may_refuse_weight (refusals.Low min) = true
may_refuse_weight (refusals.Spent index) = true
may_refuse_weight (refusals.NotReserved bound) = true
may_refuse_weight refusals.Memory = true
may_refuse_weight _ = false

-- whether an object is a priority message
abbrev pub IsPrio : Body → Type 0
IsPrio (bodies.Prio p) = ⊤
IsPrio _ = ⊥

-- an entry is a priority message in its ranges
abbrev pub IsPrioEntry : Entry → Type 0
IsPrioEntry entry = IsPrio entry.kept.body × FitsAFormat entry.kept.body
