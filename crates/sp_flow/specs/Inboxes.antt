-- A flow at its destination: its numbers, and the messages that were delivered and not yet taken.
use Rattle.std.specs.Prelude.{ℕ, ◌≡◌, ◌≤◌, List, []}

pub record InboxState : Type 0 where
  pub bound : ℕ
  pub base : ℕ
  pub have : ℕ
  pub items : List (List ℕ)

-- an inbox of so many messages, with none
abbrev pub empty_inbox : ℕ → InboxState
empty_inbox bound = record { bound = bound; base = 0; have = 0; items = [] }

-- it has room for just as many messages as its bound says, and holds at most so many
pub record IsSoundInbox (bound count room : ℕ) : Type 0 where
  pub within : count ≤ bound
  pub taken_at_the_start : room ≡ bound
