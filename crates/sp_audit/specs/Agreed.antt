-- Messages that come, held against those that were sent.
use Rattle.std.specs.Prelude.{ℕ, ◌≡◌, ◌≤◌, ◌+◌, List, ◌++◌, length}
use Rattle.sp_base.specs.Lists.{IsPrefix}
use Rattle.sp_runs.specs.Told.{Message}

-- after so many of those that were sent these are the next ones, up to that number
pub record Agrees (sent : List Message) (count : ℕ) (these : List Message) (next : ℕ) : Type 0 where
  pub within : next ≤ length sent
  pub counted : next ≡ count + length these
  pub goes_on : (before : List Message) → length before ≡ count → IsPrefix before sent → IsPrefix (before ++ these) sent

-- they aren't
abbrev pub Differs : (sent : List Message) (count : ℕ) (these : List Message) → Type 0
Differs sent count these = (before : List Message) → length before ≡ count → IsPrefix before sent → IsPrefix (before ++ these) sent → ⊥
