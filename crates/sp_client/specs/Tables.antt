-- The table of sessions that is kept in place of the list of what was asked and answered, and its step.
use Rattle.std.specs.Prelude.{ℕ, ◌≡◌, ◌+◌, ◌==◌, nat_lt, Bool, List, [], ◌∷◌, ◌++◌, length, find, Option, Some, None, if◌then◌else◌}
use Rattle.sp_base.specs.Rows.{replace_where}
use Rattle.sp_rules.specs.Choices.{less_first}
use Rattle.sp_client.specs.declared.limits.TheConstants.{MAX_SESSIONS}
use Rattle.sp_client.specs.declared.request.Command.{Command}
use Rattle.sp_client.specs.declared.request.Request.{Request}
use Rattle.sp_client.specs.declared.answer.Answer.{Answer}
use Rattle.sp_client.specs.declared.answer.Answer.TheVariants as answers
use Rattle.sp_base.specs.Finds.{Finds}
use Rattle.sp_client.specs.Requests.{IsRequest}
use Rattle.sp_client.specs.Replies.{bad_reply, reply_line}
use Rattle.sp_client.specs.Sessions.{Answers, Steps, begins_listening, is_close, is_open, own_answer}

-- a port's session: the number of its last request, and the whole reply to that
pub record Session : Type 0 where
  pub port : ℕ
  pub last : ℕ
  pub kept : List ℕ

-- the sessions in the order in which they began, and the port that listens
pub record Table : Type 0 where
  pub sessions : List Session
  pub holder : Option ℕ

-- a table without sessions
abbrev pub no_sessions : Table
no_sessions = record { sessions = []; holder = None }

-- whether a session is of this port
abbrev pub has_port : ℕ → Session → Bool
has_port port s = s.port == port

-- the session of a port
abbrev pub session_in : Table → ℕ → Option Session
session_in t port = find (has_port port) t.sessions

-- ---- what doesn't run

-- the reply that a session keeps under this number
abbrev pub kept_of : Option Session → ℕ → Option (List ℕ)
kept_of None number = None
kept_of (Some s) number = if number == s.last then Some s.kept else None

-- the reply to a repeat
abbrev pub repeat : Table → ℕ → ℕ → Option (List ℕ)
repeat t port number = kept_of (session_in t port) number

-- without a session, while so many ports have one. None where one begins
abbrev pub outside : Request → ℕ → Option Answer
outside r count =
    if is_open r.command then (if r.number == 1 then (if nat_lt count MAX_SESSIONS then None else Some answers.SessionsFull)
    else Some (answers.BadNumber 0)) else Some answers.NoSession

-- why a request isn't run, if it isn't
abbrev pub refusal_of : Option Session → ℕ → Request → Option Answer
refusal_of None count r = outside r count
refusal_of (Some s) count r = if r.number == s.last + 1 then None else Some (answers.BadNumber s.last)

-- the answer to what neither is a repeat nor runs
abbrev pub refusal : Table → ℕ → Request → Option Answer
refusal t port r = refusal_of (session_in t port) (length t.sessions) r

-- ---- what runs

-- a session
abbrev pub session : ℕ → ℕ → List ℕ → Session
session port last kept = record { port = port; last = last; kept = kept }

-- the sessions after a reply
abbrev pub sessions_after : Option Session → List Session → ℕ → Request → List ℕ → List Session
sessions_after None all port r reply = all ++ session port r.number reply ∷ []
sessions_after (Some s) all port r reply =
    if is_close r.command then less_first (has_port port) all
    else replace_where (has_port port) (session port r.number reply) all

-- nobody, where it was this port
abbrev pub without : Option ℕ → ℕ → Option ℕ
without None port = None
without (Some holder) port = if holder == port then None else Some holder

-- who listens after a command
abbrev pub holder_after : Option ℕ → ℕ → Command → Answer → Option ℕ
holder_after holder port command answer =
    if is_close command then without holder port else (if begins_listening command answer then Some port else holder)

-- the table after a request of this port ran and got this answer, with this reply
abbrev pub ran : Table → ℕ → Request → Answer → List ℕ → Table
ran t port r answer reply = record {
  sessions = sessions_after (session_in t port) t.sessions port r reply;
  holder = holder_after t.holder port r.command answer;
}

-- ---- the step

-- the request runs: the answer is the sessions' own, or that of one step of the local
pub record Runs {L : Type 0} (steps : Steps L) (old : Table) (port : ℕ) (r : Request) (reply : List ℕ) (new : Table) (before after : L) : Type 0 where
  pub answer : Answer
  pub answered : Answers steps (own_answer old.holder port r.command) before r.command answer after
  pub spelling : reply ≡ reply_line r.number answer
  pub table : new ≡ ran old port r answer reply

-- a request with its kept reply, where it is a repeat, and its refusal, where it is refused. Else it runs
abbrev pub Served : {L : Type 0} → Steps L → Option (List ℕ) → Option Answer
    → Table → ℕ → Request → List ℕ → Table → L → L → Type 0
Served steps (Some kept) refused old port r reply new before after = (reply ≡ kept) × (new ≡ old) × (after ≡ before)
Served steps None (Some answer) old port r reply new before after = (reply ≡ reply_line r.number answer) × (new ≡ old) × (after ≡ before)
Served steps None None old port r reply new before after = Runs steps old port r reply new before after

-- what serving a request makes of table and local
abbrev pub Serves : {L : Type 0} → Steps L → Table → ℕ → Request → List ℕ → Table → L → L → Type 0
Serves steps old port r reply new before after =
    Served steps (repeat old port r.number) (refusal old port r) old port r reply new before after

-- what handling a datagram makes of table and local
abbrev pub Handles : {L : Type 0} → Steps L → Option Request → Table → ℕ → List ℕ → Table → L → L → Type 0
Handles steps None old port reply new before after = (reply ≡ bad_reply) × (new ≡ old) × (after ≡ before)
Handles steps (Some r) old port reply new before after = Serves steps old port r reply new before after

-- a datagram of a port got this reply. Before all else it is a request or none
pub record Datagram {L : Type 0} (steps : Steps L) (old : Table) (port : ℕ) (bytes reply : List ℕ) (new : Table) (before after : L) : Type 0 where
  pub read : Option Request
  pub right : Finds (IsRequest bytes) read
  pub handled : Handles steps read old port reply new before after
