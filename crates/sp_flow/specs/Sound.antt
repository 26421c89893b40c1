-- What always holds of a flow's buffer: it has room for just as many messages as its bound says, and keeps at most so many.
use Rattle.std.specs.Prelude.{ℕ, ◌≡◌, ◌+◌, ◌^◌, ◌<◌, ◌≤◌}

pub record IsSound (bound base count room : ℕ) : Type 0 where
  pub within : count ≤ bound
  pub taken_at_the_start : room ≡ bound
  pub numbers_fit : base + count < 2 ^ 64
