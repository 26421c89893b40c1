-- What `ask` does, as data: the calls that it makes, what each of its receives gave, and which datagram is the reply. In this order:
--
--     its own side is opened       the port that it asks from, and nothing on the overlay side
--     the request is sent          once; it goes on where that fails
--     one receive after another    as many as its turns, or up to the first reply
--
-- A reply to a request of number 2 is a datagram of the port that was asked which begins with these two bytes:   50 32   "2 "
use Rattle.std.specs.Prelude.{ℕ, ◌≡◌, ◌≤◌, ◌==◌, ◌&&◌, Bool, true, false, List, [], ◌∷◌, ◌++◌, length, map, find, nat_eq, Option, Some, None}
use Rattle.std.specs.List.{starts_with}
use Rattle.std.specs.Fmt.{decimal}
use Rattle.sp_outside.specs.Calls.{Call, Came, Got, Opened, Received, Sent, Tells}
use Rattle.sp_outside.specs.declared.side.Side.TheVariants.{Client}
use Rattle.sp_client.specs.Requests.{IsRequest}
use Rattle.sp_client.specs.declared.request.Request.{Request}
use Rattle.sp_service_ask.specs.declared.question.Question.{Question}

-- how the replies to a request of this number begin
abbrev pub front_of : ℕ → List ℕ
front_of number = decimal number ++ 32 ∷ []

-- whether a receive gave a datagram of this port that begins so
abbrev pub is_reply : ℕ → List ℕ → Got → Bool
is_reply port front (Came from bytes) = (from == port) && starts_with nat_eq bytes front
is_reply port front _ = false

-- the calls, by whether the request was sent and by what each receive gave
abbrev pub calls_of : Question → Bool → List Got → List Call
calls_of q is_sent heard = Opened 0 q.local true ∷ Sent Client q.port q.request.now is_sent ∷ map (λ got. Received Client got) heard

-- no receive gave a reply
abbrev pub HasNone : ℕ → List ℕ → List Got → Type 0
HasNone port front heard = find (is_reply port front) heard ≡ None

-- the reply came last, and no other one before it
pub record CameLast (port : ℕ) (front reply : List ℕ) (heard : List Got) : Type 0 where
  pub before : List Got
  pub none_before : HasNone port front before
  pub is_one : is_reply port front (Came port reply) ≡ true
  pub last : heard ≡ before ++ Came port reply ∷ []

-- of so many turns: all were made and none gave a reply, or the last of those that were made gave this one
abbrev pub Ends : ℕ → List ℕ → ℕ → Option (List ℕ) → List Got → Type 0
Ends port front turns None heard = HasNone port front heard × (length heard ≡ turns)
Ends port front turns (Some reply) heard = CameLast port front reply heard × (length heard ≤ turns)

-- the question was asked, and this is the reply, or none came
pub record Asked (q : Question) (before after : Option (List Call)) (reply : Option (List ℕ)) : Type 0 where
  pub request : Request
  pub right : IsRequest q.request.now request
  pub is_sent : Bool
  -- what each receive gave
  pub heard : List Got
  pub calls : Tells before after (calls_of q is_sent heard)
  pub ends : Ends q.port (front_of request.number) q.turns reply heard

-- the port to ask from couldn't be opened
pub record Unopened (q : Question) (before after : Option (List Call)) : Type 0 where
  pub request : Request
  pub right : IsRequest q.request.now request
  pub calls : Tells before after (Opened 0 q.local false ∷ [])
