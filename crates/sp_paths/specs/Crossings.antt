-- How many lanes lead out of a set of parts. No public clause names these.
use Rattle.std.specs.Prelude.{ℕ, ◌&&◌, Bool, not, cond}
use Rattle.sp_paths.specs.declared.lane.Lane.{Lane}

-- 1 where the lane leads out of the set
abbrev pub leaves : (ℕ → Bool) → Lane → ℕ
leaves c l = cond (c l.from && not (c l.to)) 1 0
