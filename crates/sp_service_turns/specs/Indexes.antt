-- When a turn reserves indexes of its node's signing key, and that none lacks then.
use Rattle.std.specs.Prelude.{ℕ, ◌≡◌, ◌≤◌, ◌+◌, ◌-◌, ◌⊎◌, ◌&&◌, nat_lt, min, Bool, Option, None, Some, if◌then◌else◌}
use Rattle.sp_keystate.specs.declared.starts.TheConstants.{RESERVED}
use Rattle.sp_service_turns.specs.declared.indexes.Indexes.{Indexes}
use Rattle.sp_keystate.specs.declared.starts.TheConstants.{LEAST_LEFT}

-- fewer reserved indexes are left than a turn begins with, and not all indexes are reserved
abbrev pub are_few : Indexes → Bool
are_few i = nat_lt (i.bound - i.index) LEAST_LEFT && nat_lt i.bound i.total

-- the bound of so many more, the total at most
abbrev pub next_bound : Indexes → ℕ
next_bound i = min (i.bound + RESERVED) i.total

-- the bound up to which a turn that begins so reserves. None where it doesn't
abbrev pub reserved_by : Indexes → Option ℕ
reserved_by i = if are_few i then Some (next_bound i) else None

-- so many reserved indexes are left, or all indexes are reserved
abbrev pub HaveLeft : ℕ → Indexes → Type 0
HaveLeft n i = (i.index + n ≤ i.bound) ⊎ (i.total ≤ i.bound)

-- so many indexes were used at most, and none was reserved
pub record UsesAtMost (n : ℕ) (old new : Indexes) : Type 0 where
  pub index : new.index ≤ old.index + n
  pub bound : new.bound ≡ old.bound
  pub total : new.total ≡ old.total

-- the indexes up to this bound were reserved, where it is one that there may be
abbrev pub AreReserved : Indexes → ℕ → Indexes → Type 0
AreReserved old upto new = old.bound ≤ upto → upto ≤ old.total → new ≡ record old { bound = upto }
