-- What a call on the key states of all nodes makes of their numbers, and what it answers.
use Rattle.std.specs.Prelude.{ℕ, ◌≡◌, ◌<◌, ◌≤◌, List, Result, Ok, Err}
use Rattle.sp_base.specs.declared.id.NodeId.{NodeId}
use Rattle.sp_keystate.specs.declared.numbers.Numbers.{Numbers}
use Rattle.sp_epoch.specs.declared.started.Started.{Started}
use Rattle.sp_epoch.specs.declared.refused.EpochRefused.{EpochRefused}
use Rattle.sp_epoch.specs.declared.refused.EpochRefused.TheVariants.{Exhausted, Memory}
use Rattle.sp_epoch.specs.Numbers.{after_more, after_start, next_bound, numbers_at, started_at, with_numbers}

-- A start is given exactly where an index of this total isn't reserved yet. Else all indexes are reserved, and it is refused with their bound
abbrev pub IsNext : (total : ℕ) → NodeId → List Numbers → Result Started EpochRefused → Type 0
IsNext total u all (Ok started) = ((numbers_at all u).bound < total) × (started ≡ started_at total (numbers_at all u))
IsNext total u all (Err (Exhausted bound)) = (total ≤ (numbers_at all u).bound) × (bound ≡ (numbers_at all u).bound)
IsNext total u all (Err Memory) = ⊥

-- the same, taken: a start that is refused changes no number
abbrev pub Starts : (total : ℕ) → NodeId → (old new : List Numbers) → Result Started EpochRefused → Type 0
Starts total u old new (Ok started) =
    ((numbers_at old u).bound < total) × (started ≡ started_at total (numbers_at old u)) × (new ≡ with_numbers old u (after_start total (numbers_at old u)))
Starts total u old new (Err (Exhausted bound)) = (total ≤ (numbers_at old u).bound) × (bound ≡ (numbers_at old u).bound) × (new ≡ old)
Starts total u old new (Err Memory) = ⊥

-- A reserve gives the new bound: the node may use the indexes from the old one on, below this one
abbrev pub Reserves : (total : ℕ) → NodeId → (old new : List Numbers) → (bound : ℕ) → Type 0
Reserves total u old new bound =
    (bound ≡ next_bound total (numbers_at old u)) × (new ≡ with_numbers old u (after_more total (numbers_at old u)))
