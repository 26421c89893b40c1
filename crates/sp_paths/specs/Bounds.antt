-- How great the numbers of a search can be. No public clause names these.
use Rattle.std.specs.Prelude.{ℕ, ◌+◌, ◌*◌}
use Rattle.sp_base.specs.declared.limits.TheConstants.{MAX_WEIGHT}
use Rattle.sp_paths.specs.declared.limits.TheConstants.{MAX_PATHS}

-- a search may have so many parts: those of 63 nodes
abbrev pub most_parts : ℕ
most_parts = 128

-- one turn raises a potential by no more: each part that is reached has an arc, and one arc more leads out
abbrev pub most_gap : ℕ
most_gap = (most_parts + 1) * MAX_WEIGHT

-- one path raises it by no more: each turn reaches a part
abbrev pub most_rise : ℕ
most_rise = most_parts * most_gap

-- no potential is greater
abbrev pub most_potential : ℕ
most_potential = MAX_PATHS * most_rise
