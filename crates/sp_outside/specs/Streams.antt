-- What reading a source to its end gives, and what writing a whole text to a sink leaves.
use Rattle.std.specs.Prelude.{ℕ, ◌≡◌, ◌<◌, ◌≤◌, Bool, List, ◌++◌, length, take, nat_lt, Option, None, Some, Result, IfOk}
use Rattle.std.specs.Io.KnownBytes.{Appends, Consumes, IsAtEnd}

-- the first bytes of what was left, and whether there were more. A source that tells nothing may give any
abbrev pub IsInput : Option (List ℕ) → ℕ → List ℕ → Bool → Type 0
IsInput None most bytes is_cut = Unit {0}
IsInput (Some left) most bytes is_cut = (bytes ≡ take most left) × (is_cut ≡ nat_lt most (length left))

-- one piece came from the source to the end of the bytes. It is empty only at the source's end
pub record ReadsMore (before after : Option (List ℕ)) (old new : List ℕ) (count : ℕ) : Type 0 where
  pub piece : List ℕ
  pub consumed : Consumes before after piece
  pub appended : new ≡ old ++ piece
  pub counted : length piece ≡ count
  pub at_end : count ≡ 0 → IsAtEnd after

-- at least one byte of a piece that isn't empty
abbrev pub TakesSome : {E : Type 0} → Result ℕ E → List ℕ → Type 0
TakesSome result piece = 0 < length piece → IfOk result (λ count. 0 < count)

-- the sink got a beginning of these bytes
pub record AppendsFront (before after : Option (List ℕ)) (bytes : List ℕ) : Type 0 where
  pub count : ℕ
  pub within : count ≤ length bytes
  pub appended : Appends before after (take count bytes)
