-- What goes along the lanes that are used, counted over every set of parts. No public clause names these.
--
-- Where r paths lead from s to t, any set of parts is entered as often as it is left, but for those that begin or end in it.
-- Of the set of one part this says that what comes in goes out; of a cut it says how much crosses.
use Rattle.std.specs.Prelude.{ℕ, ◌≡◌, ◌+◌, Bool, false, cond, List}
use Rattle.std.specs.List.{sum_by}
use Rattle.sp_paths.specs.declared.lane.Lane.{Lane}

-- the lane without its mark
abbrev pub bare : Lane → Lane
bare l = record { from = l.from; to = l.to; cost = l.cost; used = false }

-- 1 where the lane is used and begins in the set
abbrev pub begins : (ℕ → Bool) → Lane → ℕ
begins c l = cond l.used (cond (c l.from) 1 0) 0

-- 1 where the lane is used and ends in the set
abbrev pub ends : (ℕ → Bool) → Lane → ℕ
ends c l = cond l.used (cond (c l.to) 1 0) 0

-- r paths from s to t go along the lanes
abbrev pub Flow : ℕ → ℕ → ℕ → List Lane → Type 0
Flow s t r lanes = (c : ℕ → Bool) → sum_by (begins c) lanes + cond (c t) r 0 ≡ sum_by (ends c) lanes + cond (c s) r 0

-- r paths from s to t go along them, and one more from here to t
abbrev pub Halfway : ℕ → ℕ → ℕ → ℕ → List Lane → Type 0
Halfway s t r here lanes = (c : ℕ → Bool) → sum_by (begins c) lanes + cond (c t) (r + 1) 0 ≡ sum_by (ends c) lanes + cond (c s) r 0 + cond (c here) 1 0
