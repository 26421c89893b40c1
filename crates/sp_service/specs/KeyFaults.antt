-- What the judgements promise each other.
use Rattle.std.specs.Prelude.{ℕ, ◌≡◌, ◌≢◌, ◌==◌, List, Option, None, Some}
use Rattle.sp_config.specs.declared.config.Config.{Config}
use Rattle.sp_topology.specs.declared.topology.Topology.{Topology}
use Rattle.sp_service.specs.Fits.{ArePeers, HasOwnKey, IsStranger, Misfits}
use Rattle.sp_service.specs.declared.refused.SetupRefused.{SetupRefused}
use Rattle.sp_service.specs.declared.refused.SetupRefused.TheVariants as refusals

-- what is wrong with the node's key
abbrev pub IsKeyFault : Config → Topology → Option SetupRefused → Type 0
IsKeyFault c t None = HasOwnKey c t
IsKeyFault c t (Some refusals.Me) = IsStranger c t
IsKeyFault c t (Some refusals.Key) = ¬ IsStranger c t × ¬ HasOwnKey c t
IsKeyFault c t _ = ⊥
