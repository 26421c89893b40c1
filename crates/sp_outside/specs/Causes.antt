-- Why a call over the outside failed: a fault that the object itself counted.
use Rattle.std.specs.Prelude.{ℕ, ◌+◌, ◌-◌, ◌^◌, ◌≤◌, ◌≡◌, min, Result, OnOk, OnErr}

-- the count rose, or stands at its end
abbrev pub Rose : ℕ → ℕ → Type 0
Rose before now = min (before + 1) (2 ^ 64 - 1) ≤ now

-- the count never falls, a call that failed raised it, and a call that did its work left it
pub record HasCause {T E : Type 0} (before now : ℕ) (result : Result T E) : Type 0 where
  pub later : before ≤ now
  pub failed : OnErr result (Rose before now)
  pub fine : OnOk result (now ≡ before)
