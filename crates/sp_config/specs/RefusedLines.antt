-- How the refusal of a configuration or a draft is told: one line with its kind, and the key or the inner kind.
--
--     refused 0 Toml
--     refused 0 Unknown KEY       also Missing and Range: the key's bytes as they are
--     refused 0 Topology KIND
--     refused 0 TooBig            more bytes than may be read
use Rattle.std.specs.Prelude.{ℕ, List, [], ◌++◌, codes}
use Rattle.sp_config.specs.declared.refused.ConfigRefused.{ConfigRefused}
use Rattle.sp_config.specs.declared.refused.ConfigRefused.TheVariants as refusals
use Rattle.sp_topology.specs.declared.refused.TopologyRefused.{TopologyRefused}
use Rattle.sp_topology.specs.declared.refused.TopologyRefused.TheVariants as faults

abbrev pub fault_word : TopologyRefused → List ℕ
fault_word (faults.Short place) = codes "Short"
fault_word faults.Magic = codes "Magic"
fault_word faults.Format = codes "Format"
fault_word faults.Height = codes "Height"
fault_word faults.TooFew = codes "TooFew"
fault_word faults.TooMany = codes "TooMany"
fault_word faults.Order = codes "Order"
fault_word faults.Twice = codes "Twice"
fault_word faults.Key = codes "Key"
fault_word faults.Loop = codes "Loop"
fault_word faults.Unknown = codes "Unknown"
fault_word faults.Weight = codes "Weight"
fault_word faults.Memory = codes "Memory"

-- want of memory is told by no line
abbrev pub refused_words : ConfigRefused → List ℕ
refused_words refusals.Toml = codes "Toml"
refused_words (refusals.Unknown key) = codes "Unknown " ++ key
refused_words (refusals.Missing key) = codes "Missing " ++ key
refused_words (refusals.Range key) = codes "Range " ++ key
refused_words (refusals.Topology fault) = codes "Topology " ++ fault_word fault
refused_words refusals.Memory = []

-- the line of a refusal
unfoldable pub refused_line : ConfigRefused → List ℕ
refused_line refused = codes "refused 0 " ++ (refused_words refused ++ codes "\n")

-- the line of a text with too many bytes
abbrev pub too_big_line : List ℕ
too_big_line = codes "refused 0 TooBig\n"
