-- What is found in a datagram, as what is told of it.
use Rattle.std.specs.Prelude.{ℕ, ◌≤◌, length}
use Rattle.sp_runs.specs.declared.what.What.{What}
use Rattle.sp_runs.specs.declared.what.What.TheVariants as whats
use Rattle.sp_forgery.specs.declared.judging.Forgery.{Forgery}
use Rattle.sp_forgery.specs.declared.judging.Forgery.TheVariants as forgeries

abbrev pub what_of : Forgery → What
what_of forgeries.Tag = whats.Tag
what_of (forgeries.Object body) = whats.Object body.now

-- there is room for its bytes
abbrev pub IsShort : (room : ℕ) → Forgery → Type 0
IsShort room forgeries.Tag = Unit {0}
IsShort room (forgeries.Object body) = length body.now ≤ room
