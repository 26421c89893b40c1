-- Whole dialogues: what the table answers, and what the protocol says, while the local also moves by what others ask of it.
use Rattle.std.specs.Prelude.{ℕ, zero, suc, ◌≡◌, ◌<◌, ◌+◌, ◌^◌, true, List, [], ◌∷◌, length, Some, None, ⊤}
use Rattle.sp_client.specs.declared.limits.TheConstants.{MAX_REQUEST_NUMBER}
use Rattle.sp_client.specs.declared.request.Command.{Command}
use Rattle.sp_client.specs.declared.request.Command.TheVariants as commands
use Rattle.sp_client.specs.declared.request.Request.{Request}
use Rattle.sp_client.specs.declared.answer.Answer.{Answer}
use Rattle.sp_client.specs.declared.answer.Answer.TheVariants as answers
use Rattle.sp_client.specs.Replies.{bad_reply, reply_line}
use Rattle.sp_client.specs.Requests.{IsInRange, IsRequest}
use Rattle.sp_client.specs.Sessions.{Exchange, IsAnswered, Steps, exchange, is_open, session_answer, session_of}
use Rattle.sp_client.specs.Tables.{Datagram, Session, Table, no_sessions, refusal_of}

-- a datagram of a port, and the reply to it
pub record Told : Type 0 where
  pub port : ℕ
  pub bytes : List ℕ
  pub reply : List ℕ

-- what happens at a local: a datagram of a client comes, or others move it, as ticks, polls and frames move a node
pub data Happening (L : Type 0) : Type 0 where
  Asked : (t : Told) → Happening L
  Moved : (from to : L) → Happening L

-- These happened one after another, the latest first, and led from no sessions and this local to a table and a local. A move leaves the
-- table, and stands in the list, so that it hides nothing that a request did
pub data Served {L : Type 0} (steps : Steps L) (first : L) : List (Happening L) → Table → L → Type 0 where
  Starts : Served steps first [] no_sessions first
  Goes_on : {before : List (Happening L)} {table new : Table} {local after : L} (t : Told) → Served steps first before table local → t.port < 2 ^ 16
      → Datagram steps table t.port t.bytes t.reply new local after → Served steps first (Asked t ∷ before) new after
  Meanwhile : {before : List (Happening L)} {table : Table} {local : L} (after : L) → Served steps first before table local
      → Served steps first (Moved local after ∷ before) table after

-- The same by the protocol: a datagram that is no request is told so and leaves nothing behind, and a request is answered by what
-- was asked and answered before
pub data Follows {L : Type 0} (steps : Steps L) (first : L) : List (Happening L) → List Exchange → L → Type 0 where
  Nothing_said : Follows steps first [] [] first
  No_request : {before : List (Happening L)} {history : List Exchange} {local : L} (t : Told) → Follows steps first before history local
      → ((r : Request) → IsRequest t.bytes r → ⊥) → t.reply ≡ bad_reply → Follows steps first (Asked t ∷ before) history local
  A_request : {before : List (Happening L)} {history : List Exchange} {local after : L} (t : Told) (r : Request) (answer : Answer)
      → Follows steps first before history local
      → IsRequest t.bytes r → IsAnswered steps history t.port r local answer after → t.reply ≡ reply_line r.number answer
      → Follows steps first (Asked t ∷ before) (exchange history t.port r answer ∷ history) after
  Went_on : {before : List (Happening L)} {history : List Exchange} {local : L} (after : L) → Follows steps first before history local
      → Follows steps first (Moved local after ∷ before) history after

-- the law that whole dialogues are answered as the protocol says
abbrev pub DialoguesAreAnswered : {L : Type 0} → Steps L → Type 0
DialoguesAreAnswered {L} steps = (first : L) (told : List (Happening L)) (table : Table) (after : L) → Served steps first told table after
    → (history : List Exchange) × Follows steps first told history after

-- the requests of a session, the latest first, have the numbers up to their count, each once and in order
abbrev pub AreNumbered : List Exchange → Type 0
AreNumbered [] = ⊤
AreNumbered (e ∷ es) = (e.request.number ≡ length (e ∷ es)) × AreNumbered es

-- the earliest of them is an `open`
abbrev pub BeginsWithOpen : List Exchange → Type 0
BeginsWithOpen [] = ⊤
BeginsWithOpen (e ∷ []) = is_open e.request.command ≡ true
BeginsWithOpen (e ∷ x ∷ es) = BeginsWithOpen (x ∷ es)

-- exchanges that begin with `open` and are numbered one after another
pub record IsSession (es : List Exchange) : Type 0 where
  pub numbered : AreNumbered es
  pub begins : BeginsWithOpen es

-- whatever was repeated, delayed or left out
abbrev pub EachRunsOnce : {L : Type 0} → Steps L → Type 0
EachRunsOnce {L} steps = (first : L) (told : List (Happening L)) (history : List Exchange) (after : L) → Follows steps first told history after
    → (port : ℕ) → IsSession (session_of history port)

-- a request of any number of a session at the last one is a repeat, or refused
abbrev pub TheLastNumberRunsNoMore : Type 0
TheLastNumberRunsNoMore = (s : Session) (count : ℕ) (r : Request) → s.last ≡ MAX_REQUEST_NUMBER → IsInRange r
    → refusal_of (Some s) count r ≡ Some (answers.BadNumber s.last)

-- ---- the worked row

-- a request
abbrev pub asks : ℕ → Command → Request
asks number command = record { number = number; command = command }

-- a request that ran from this port, and its answer
abbrev pub did : ℕ → ℕ → Command → Answer → Exchange
did port number command answer = record { port = port; request = asks number command; ran = true; answer = answer }

-- a send of two bytes to node 3
abbrev pub hello : Command
hello = commands.Send (record { 0 = 3 }) (104 ∷ 105 ∷ [])

-- port 9000 opened a session, and its send was accepted under number 1
abbrev pub opened : List Exchange
opened = did 9000 1 commands.Open answers.Opened ∷ []

-- an exchange in which a message was sent
abbrev pub sent : List Exchange
sent = did 9000 2 hello (answers.Accepted 1) ∷ opened

-- the send once more
abbrev pub again : List Exchange
again = exchange sent 9000 (asks 2 hello) (answers.Accepted 1) ∷ sent

-- so many ports from 9000 on opened a session, the last first
abbrev pub all_open : ℕ → List Exchange
all_open zero = []
all_open (suc n) = did (9000 + n) 1 commands.Open answers.Opened ∷ all_open n

-- what the protocol says of a short dialogue
pub record WorkedRow : Type 0 where
  pub opens : session_answer [] 9000 (asks 1 commands.Open) ≡ Some answers.Opened
  pub asks_the_node : session_answer opened 9000 (asks 2 hello) ≡ None
  pub repeats : session_answer sent 9000 (asks 2 hello) ≡ Some (answers.Accepted 1)
  pub and_again : session_answer again 9000 (asks 2 hello) ≡ Some (answers.Accepted 1)
  pub ahead : session_answer again 9000 (asks 4 commands.Close) ≡ Some (answers.BadNumber 2)
  pub stranger : session_answer again 9001 (asks 2 commands.Listen) ≡ Some answers.NoSession
  pub ninth : session_answer (all_open 8) 9008 (asks 1 commands.Open) ≡ Some answers.SessionsFull
