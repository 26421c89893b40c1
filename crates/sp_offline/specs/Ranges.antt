-- The ranges of the offline commands.
use Rattle.sp_offline.specs.Queries.{IsQuery}
use Rattle.sp_offline.specs.declared.command.Offline.{Offline}
use Rattle.sp_offline.specs.declared.command.Offline.TheVariants as commands

-- its numbers are in their ranges
abbrev pub IsOffline : Offline → Type 0
IsOffline commands.Topology = Unit {0}
IsOffline (commands.Paths q) = IsQuery q
