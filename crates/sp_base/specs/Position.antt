-- Where a flow stands at a node, over messages of any kind.
use Rattle.std.specs.Prelude.{ℕ, ◌≡◌, ◌+◌, ◌-◌, List, [], ◌∷◌, ◌++◌, length, drop, max}

-- All messages up to base are acknowledged. All messages up to have came here, or are acknowledged.
-- The list has the messages base + 1 to have, in order.
pub record Position (X : Type 0) : Type 0 where
  pub base : ℕ
  pub have : ℕ
  pub list : List X

-- each number from base + 1 to have has its message
abbrev pub IsPosition : {X : Type 0} → Position X → Type 0
IsPosition p = p.have ≡ p.base + length p.list

-- no message yet
abbrev pub start : {X : Type 0} → Position X
start = record { base = 0; have = 0; list = [] }

-- message have + 1 came and is kept
abbrev pub kept : {X : Type 0} → Position X → X → Position X
kept p x = record { base = p.base; have = p.have + 1; list = p.list ++ x ∷ [] }

-- message have + 1 came and is delivered, so it isn't kept
abbrev pub delivered : {X : Type 0} → Position X → Position X
delivered p = record { base = p.base; have = p.have + 1; list = p.list }

-- all messages up to this number are acknowledged
abbrev pub acknowledged : {X : Type 0} → Position X → ℕ → Position X
acknowledged p number = record { base = max p.base number; have = max p.have number; list = drop (number - p.base) p.list }

-- a position with the bound of its list
pub record Buffer (X : Type 0) : Type 0 where
  pub bound : ℕ
  pub at : Position X

-- a buffer of so many messages, with none
abbrev pub empty_buffer : {X : Type 0} → ℕ → Buffer X
empty_buffer bound = record { bound = bound; at = start }
