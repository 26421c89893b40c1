-- What the laws of runs ask of arts, of each format.
use Rattle.std.specs.Prelude.{ℕ}
use Rattle.sp_node_format.specs.Format.{format_in}
use Rattle.laws_runs.specs.Premises.{Carries}

-- of all frames, tags and signatures
abbrev pub FormatCarries : Type 0
FormatCarries = (format : ℕ) → Carries format (format_in format)
