-- Sessions as a reader of the protocol says them: by the list of what was asked and answered, the latest first.
use Rattle.std.specs.Prelude.{ℕ, ◌≡◌, ◌+◌, ◌^◌, ◌==◌, ◌&&◌, ◌||◌, nat_lt, Bool, true, false, not, List, length, filter, find, take_while}
use Rattle.std.specs.Prelude.{option_map, slice_get, Option, Some, None, if◌then◌else◌}
use Rattle.std.specs.List.{list_any, range_with_len}
use Rattle.sp_client.specs.declared.limits.TheConstants.{MAX_SESSIONS}
use Rattle.sp_client.specs.declared.request.Command.{Command}
use Rattle.sp_client.specs.declared.request.Command.TheVariants as commands
use Rattle.sp_client.specs.declared.request.Request.{Request}
use Rattle.sp_client.specs.declared.answer.Answer.{Answer}
use Rattle.sp_client.specs.declared.answer.Answer.TheVariants as answers

-- what a client asked from a port, whether it ran, and what it was answered
pub record Exchange : Type 0 where
  pub port : ℕ
  pub request : Request
  pub ran : Bool
  pub answer : Answer

-- ---- commands and answers

-- whether a command opens a session
abbrev pub is_open : Command → Bool
is_open commands.Open = true
is_open _ = false

-- whether a command closes a session
abbrev pub is_close : Command → Bool
is_close commands.Close = true
is_close _ = false

-- what the local does
abbrev pub is_local : Command → Bool
is_local commands.Open = false
is_local commands.Listen = false
is_local commands.Close = false
is_local _ = true

-- whether an answer says that the client listens from now on
abbrev pub is_listening : Answer → Bool
is_listening answers.Listening = true
is_listening _ = false

-- a `listen` that was answered `listening`
abbrev pub begins_listening : Command → Answer → Bool
begins_listening commands.Listen answer = is_listening answer
begins_listening _ _ = false

-- ---- the session of a port

-- the requests of a port that ran
abbrev pub ran_from : ℕ → List Exchange → List Exchange
ran_from port history = filter (λ e. e.ran && (e.port == port)) history

-- those after its last `close`: the first of them is the `open` that began the session. Without a session there are none
abbrev pub session_of : List Exchange → ℕ → List Exchange
session_of history port = take_while (λ e. not (is_close e.request.command)) (ran_from port history)

-- how many requests ran in the session
abbrev pub last_of : List Exchange → ℕ → ℕ
last_of history port = length (session_of history port)

-- whether a port has a session
abbrev pub has_session : List Exchange → ℕ → Bool
has_session history port = nat_lt 0 (last_of history port)

-- what the last of them was answered
abbrev pub kept_reply : List Exchange → ℕ → Option Answer
kept_reply history port = option_map (λ e. e.answer) (slice_get (session_of history port) 0)

-- ---- all ports

-- it stays closed, since it is long
unfoldable pub ports : List ℕ
ports = range_with_len 0 (2 ^ 16)

-- the ports that have a session
abbrev pub open_ports : List Exchange → List ℕ
open_ports history = filter (has_session history) ports

-- whether the session of a port listens: a `listen` of it was answered `listening`
abbrev pub listens : List Exchange → ℕ → Bool
listens history port = list_any (λ e. begins_listening e.request.command e.answer) (session_of history port)

-- the port that listens
abbrev pub holder_of : List Exchange → Option ℕ
holder_of history = find (listens history) ports

-- ---- what is answered

-- whether a request runs: it is the next one of a session, or begins one
abbrev pub runs : List Exchange → ℕ → Request → Bool
runs history port r =
    (r.number == last_of history port + 1)
    && (has_session history port || (is_open r.command && nat_lt (length (open_ports history)) MAX_SESSIONS))

-- the answer of a request that doesn't run, in a session: the kept one to a repeat
abbrev pub idle_answer : Option Answer → ℕ → ℕ → Answer
idle_answer (Some kept) last number = if number == last then kept else answers.BadNumber last
idle_answer None last number = answers.BadNumber last

-- and without one
abbrev pub outside_answer : Request → Answer
outside_answer r = if is_open r.command then (if r.number == 1 then answers.SessionsFull else answers.BadNumber 0) else answers.NoSession

-- the answer to a request that isn't run
abbrev pub unrun_answer : List Exchange → ℕ → Request → Answer
unrun_answer history port r =
    if has_session history port then idle_answer (kept_reply history port) (last_of history port) r.number
    else outside_answer r

-- what a take is answered before the local is asked: only who listens may take
abbrev pub take_answer : Option ℕ → ℕ → Option Answer
take_answer None port = Some answers.NotListening
take_answer (Some holder) port = if holder == port then None else Some (answers.Busy holder)

-- and a `listen`
abbrev pub listen_answer : Option ℕ → ℕ → Answer
listen_answer None port = answers.Listening
listen_answer (Some holder) port = if holder == port then answers.Listening else answers.Busy holder

-- the answer of the sessions to a request that runs, by who listens. None where the local answers
abbrev pub own_answer : Option ℕ → ℕ → Command → Option Answer
own_answer holder port commands.Open = Some answers.Opened
own_answer holder port commands.Close = Some answers.Closed
own_answer holder port commands.Listen = Some (listen_answer holder port)
own_answer holder port (commands.Take from) = take_answer holder port
own_answer holder port commands.TakePrio = take_answer holder port
own_answer holder port (commands.TakeKrel from) = take_answer holder port
own_answer holder port _ = None

-- the answer that the sessions give by themselves, if the node isn't asked
abbrev pub session_answer : List Exchange → ℕ → Request → Option Answer
session_answer history port r =
    if runs history port r then own_answer (holder_of history) port r.command
    else Some (unrun_answer history port r)

-- the steps of a local: the state before, the command, its answer, the state after
abbrev pub Steps : Type 0 → Type 1
Steps L = L → Command → Answer → L → Type 0

-- the answer is the sessions' own, and the local stays; or it is that of one step of the local
abbrev pub Answers : {L : Type 0} → Steps L → Option Answer → L → Command → Answer → L → Type 0
Answers steps (Some own) before command answer after = (answer ≡ own) × (after ≡ before)
Answers steps None before command answer after = steps before command answer after

-- the answer to a request of this port after what was asked and answered, by the order of the protocol
abbrev pub IsAnswered : {L : Type 0} → Steps L → List Exchange → ℕ → Request → L → Answer → L → Type 0
IsAnswered steps history port r before answer after = Answers steps (session_answer history port r) before r.command answer after

-- what a request leaves behind
abbrev pub exchange : List Exchange → ℕ → Request → Answer → Exchange
exchange history port r answer = record { port = port; request = r; ran = runs history port r; answer = answer }
