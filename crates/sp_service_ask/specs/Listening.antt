-- What the calls of `ask` promise. A reply lies at the front of the buffer, and is told by its length.
use Rattle.std.specs.Prelude.{ℕ, ◌≡◌, Bool, true, false, List, [], ◌∷◌, map, take, option_map, Option, Some, None}
use Rattle.sp_outside.specs.Calls.{Call, Came, Got, Received, Tells}
use Rattle.sp_outside.specs.declared.side.Side.TheVariants.{Client}
use Rattle.sp_service_ask.specs.Asking.{Ends, calls_of, is_reply}
use Rattle.sp_service_ask.specs.declared.question.Question.{Question}

-- what lies in the buffer, by its length
abbrev pub lies_in : List ℕ → Option ℕ → Option (List ℕ)
lies_in buffer count = option_map (λ n. take n buffer) count

-- what one receive gives: a reply, or nothing that is one
abbrev pub IsHeard : ℕ → List ℕ → Got → Option (List ℕ) → Type 0
IsHeard port front got None = is_reply port front got ≡ false
IsHeard port front got (Some reply) = (is_reply port front got ≡ true) × (got ≡ Came port reply)

-- one receive was made
pub record Heard (port : ℕ) (front : List ℕ) (before after : Option (List Call)) (reply : Option (List ℕ)) : Type 0 where
  pub got : Got
  pub calls : Tells before after (Received Client got ∷ [])
  pub is : IsHeard port front got reply

-- so many were made, or as many as there were up to the first reply
pub record Listened (port : ℕ) (front : List ℕ) (turns : ℕ) (before after : Option (List Call)) (reply : Option (List ℕ)) : Type 0 where
  pub heard : List Got
  pub calls : Tells before after (map (λ got. Received Client got) heard)
  pub ends : Ends port front turns reply heard

-- the port was opened and the request was sent before that
pub record Conversed (q : Question) (front : List ℕ) (before after : Option (List Call)) (reply : Option (List ℕ)) : Type 0 where
  pub is_sent : Bool
  pub heard : List Got
  pub calls : Tells before after (calls_of q is_sent heard)
  pub ends : Ends q.port front q.turns reply heard
