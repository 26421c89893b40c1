-- What a wire and a clock tell of themselves: their calls, in order, with how each came out.
use Rattle.std.specs.Prelude.{ℕ, ◌≡◌, Bool, true, false, List, ◌++◌, take, Option, None, Some, Result, Ok, Err}
use Rattle.sp_outside.specs.declared.side.Side.{Side}

-- what a receive gave
pub data Got : Type 0 where
  Nothing : Got
  Lost : Got
  Came : (port : ℕ) (bytes : List ℕ) → Got

-- a call of the system, with what came of it
pub data Call : Type 0 where
  Opened : (overlay client : ℕ) (is_done : Bool) → Call
  Received : (side : Side) (got : Got) → Call
  Sent : (side : Side) (port : ℕ) (bytes : List ℕ) (is_done : Bool) → Call

-- just these were added to what is told. An object that tells nothing, tells nothing from then on
abbrev pub Tells : {X : Type 0} → Option (List X) → Option (List X) → List X → Type 0
Tells old None more = Unit {0}
Tells None (Some new) more = ⊥
Tells (Some old) (Some new) more = new ≡ old ++ more

-- whether a call was done
abbrev pub is_done : {T E : Type 0} → Result T E → Bool
is_done (Ok x) = true
is_done (Err e) = false

-- by the answer of a receive and the buffer after it
abbrev pub got_of : {E : Type 0} → Result (Option (ℕ × ℕ)) E → List ℕ → Got
got_of (Ok None) buffer = Nothing
got_of (Ok (Some datagram)) buffer = Came datagram.0 (take datagram.1 buffer)
got_of (Err e) buffer = Lost
