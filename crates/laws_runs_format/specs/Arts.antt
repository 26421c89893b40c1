-- The arts of a setting: those of its topology's format.
use Rattle.sp_node_format.specs.Format.{format_in}
use Rattle.sp_rules.specs.Arts.{Arts}
use Rattle.sp_runs.specs.Settings.{Setting}

abbrev pub arts_of : Setting → Arts
arts_of x = format_in x.topology.format
