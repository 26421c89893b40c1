-- What the text of a configuration comes to: the configuration with the topology that it fits, or the line that refuses it.
--
--     refused 0 Toml                    the text is no TOML, or no UTF-8
--     refused 0 Unknown KEY             also Missing and Range
--     refused 0 Topology KIND           the document's first fault, or Signature, Me, Key, Peer
use Rattle.std.specs.Prelude.{ℕ, ◌≡◌, ◌≢◌, ◌⊎◌, List, [], ◌++◌, Result, Ok, Err, codes}
use Rattle.std.specs.Str.{IsUtf8}
use Rattle.sp_config.specs.Readings.{config_of}
use Rattle.sp_config.specs.RefusedLines.{fault_word, refused_line}
use Rattle.sp_config.specs.declared.config.Config.{Config}
use Rattle.sp_config.specs.declared.refused.ConfigRefused.{ConfigRefused}
use Rattle.sp_config.specs.declared.refused.ConfigRefused.TheVariants as refusals
use Rattle.sp_service.specs.NodeParts.{IsKeyOf}
use Rattle.sp_service.specs.Fits.{Fits, Misfits}
use Rattle.sp_service.specs.declared.refused.SetupRefused.{SetupRefused}
use Rattle.sp_service.specs.declared.refused.SetupRefused.TheVariants as setups
use Rattle.sp_topology.specs.Ranges.{IsTopology}
use Rattle.sp_topology.specs.declared.topology.Topology.{Topology}
use Rattle.sp_service.specs.declared.configured.Configured.{Configured}
use Rattle.sp_service.specs.declared.configured.Configured.TheVariants as configured

-- ---- good configurations

-- the bytes say this configuration, or are refused so. Bytes that are no UTF-8 are no TOML
abbrev pub SaysConfig : List ℕ → Result Config ConfigRefused → Type 0
SaysConfig text (Ok config) = IsUtf8 text × (config_of text ≡ Ok config)
SaysConfig text (Err refused) = (IsUtf8 text × (config_of text ≡ Err refused)) ⊎ ((IsUtf8 text → ⊥) × (refused ≡ refusals.Toml))

-- the text says this configuration, which fits this topology
pub record IsConfigured (text : List ℕ) (c : Config) (t : Topology) : Type 0 where
  pub says : SaysConfig text (Ok c)
  pub fits : Fits c t
  pub topology : IsTopology t

-- ---- refusals

-- the word of the judgement that a configuration fails. Want of memory is told by no line
abbrev pub misfit_word : SetupRefused → List ℕ
misfit_word (setups.Document fault) = fault_word fault
misfit_word setups.Signature = codes "Signature"
misfit_word setups.Me = codes "Me"
misfit_word setups.Key = codes "Key"
misfit_word setups.Peer = codes "Peer"
misfit_word setups.Memory = []

-- the line of a configuration that doesn't fit its topology
unfoldable pub misfit_line : SetupRefused → List ℕ
misfit_line refused = codes "refused 0 Topology " ++ (misfit_word refused ++ codes "\n")

-- the text says no configuration
pub record IsBadText (text out : List ℕ) : Type 0 where
  pub refused : ConfigRefused
  pub no_want : refused ≢ refusals.Memory
  pub says : SaysConfig text (Err refused)
  pub written : out ≡ refused_line refused

-- the text says a configuration that doesn't fit its topology
pub record IsMisfit (text out : List ℕ) : Type 0 where
  pub config : Config
  pub says : SaysConfig text (Ok config)
  pub refused : SetupRefused
  pub no_want : refused ≢ setups.Memory
  pub misfits : Misfits config refused
  pub written : out ≡ misfit_line refused

-- what is written for a text that is refused
abbrev pub IsRefused : List ℕ → List ℕ → Type 0
IsRefused text out = IsBadText text out ⊎ IsMisfit text out

-- what the text comes to
abbrev pub ComesTo : List ℕ → Configured → Type 0
ComesTo text (configured.Fits c fitted) = IsConfigured text c fitted.topology × IsKeyOf c fitted.topology.height fitted.key
ComesTo text (configured.Refused out) = IsRefused text out
