-- What is written for the input of a verification, a configuration and a recording.
--
--     verified N                          all digests of the recording, so many, are those of the node's answers
--     mismatch LINE RECORDED COMPUTED     the first digest that isn't, with no bad line before it
--     refused LINE Form                   the first bad line of the recording, where no digest before it differs. Under a document of format 2 a
--                                         first line whose INDEX isn't below its BOUND is one, since the node signs its boot with that index
--     refused 0 ..                        the input is no configuration that fits; this comes before all else
use Rattle.std.specs.Prelude.{ℕ, ◌≡◌, ◌+◌, ◌⊎◌, Bool, true, false, List, [], ◌∷◌, take, drop, None, Some, codes}
use Rattle.std.specs.Fmt.{decimal}
use Rattle.sp_config.specs.RefusedLines.{too_big_line}
use Rattle.sp_config.specs.declared.config.Config.{Config}
use Rattle.sp_lines.specs.Rows.{line_text}
use Rattle.sp_recording.specs.Reading.{IsReading, opening_in}
use Rattle.sp_recording.specs.declared.line.Digest.{Digest}
use Rattle.sp_recording.specs.declared.line.Opening.{Opening}
use Rattle.sp_recording.specs.declared.stage.Ending.TheVariants as endings
use Rattle.sp_recording.specs.declared.stage.Reading.{Reading}
use Rattle.sp_service.specs.Fits.{neighbours}
use Rattle.sp_service_station.specs.Stations.{Station, StationStep}
use Rattle.sp_service_turns.specs.Compared.{AgreesWhole, DiffersAt, IsBadAfter}
use Rattle.sp_text.specs.Spelling.{hex_word}
use Rattle.sp_topology.specs.declared.topology.Topology.{Topology}
use Rattle.sp_service.specs.Configured.{IsConfigured, IsRefused}
use Rattle.sp_service.specs.Splits.{IsSplit, line_count}
use Rattle.sp_service.specs.Starts.{CanAnnounce, IsStarted, total_of}
use Rattle.sp_service.specs.declared.verdict.Verdict.{Verdict}
use Rattle.sp_service.specs.declared.verdict.Verdict.TheVariants as verdicts

-- ---- the lines

abbrev pub verified_line : ℕ → List ℕ
verified_line count = line_text (codes "verified" ∷ decimal count ∷ [])

-- the line of the first answer that differs
abbrev pub mismatch_line : ℕ → Digest → Digest → List ℕ
mismatch_line line recorded computed = line_text (codes "mismatch" ∷ decimal line ∷ hex_word recorded.0 ∷ hex_word computed.0 ∷ [])

-- the line of a recording that is malformed
abbrev pub form_line : ℕ → List ℕ
form_line line = line_text (codes "refused" ∷ decimal line ∷ codes "Form" ∷ [])

-- ---- what was read

-- the text is read so, by the indexes and the neighbours of this configuration, where so many lines stand before it
abbrev pub Reads : Config → Topology → ℕ → List ℕ → Reading → Type 0
Reads c t before text reading = IsReading (total_of t) (neighbours c t) before text reading

-- the node at the start that the recording's first line says, which has an index where the node signs its boot
pub record IsPlayed (c : Config) (t : Topology) (reading : Reading) (start : Station) : Type 0 where
  pub opening : Opening
  pub opens : opening_in reading.stage ≡ Some opening
  pub announces : CanAnnounce t opening
  pub started : IsStarted c t opening start

-- ---- verdicts

-- what comes of the text of a recording, before which so many lines stand
pub data IsVerdict (c : Config) (t : Topology) (before : ℕ) (text : List ℕ) : Verdict → List ℕ → Type 0 where
  All_agree : (reading : Reading) (start last : Station) (count : ℕ) → Reads c t before text reading → IsPlayed c t reading start
      → AgreesWhole StationStep start reading last count → IsVerdict c t before text verdicts.Verified (verified_line count)
  One_differs : (reading : Reading) (start : Station) (line : ℕ) (recorded computed : Digest) → Reads c t before text reading → IsPlayed c t reading start
      → DiffersAt StationStep start before reading line recorded computed
      → IsVerdict c t before text verdicts.Mismatch (mismatch_line line recorded computed)
  Bad_line : (reading : Reading) (start : Station) (line : ℕ) → Reads c t before text reading → IsPlayed c t reading start
      → IsBadAfter StationStep start reading line → IsVerdict c t before text verdicts.Refused (form_line line)
  No_first_index : (reading : Reading) (opening : Opening) → Reads c t before text reading → opening_in reading.stage ≡ Some opening → ¬ CanAnnounce t opening
      → IsVerdict c t before text verdicts.Refused (form_line (before + 1))
  No_first_line : (reading : Reading) (line : ℕ) → Reads c t before text reading → opening_in reading.stage ≡ None → reading.ending ≡ endings.Form line
      → IsVerdict c t before text verdicts.Refused (form_line line)

-- the input is a configuration that fits, and a text after it that comes to this
pub record IsCompared (text : List ℕ) (verdict : Verdict) (out : List ℕ) : Type 0 where
  pub place : ℕ
  pub split : IsSplit text place
  pub config : Config
  pub topology : Topology
  pub configured : IsConfigured (take place text) config topology
  pub comes : IsVerdict config topology (line_count (take place text)) (drop place text) verdict out

-- the front of the input is no configuration that fits
pub record IsUnconfigured (text : List ℕ) (verdict : Verdict) (out : List ℕ) : Type 0 where
  pub place : ℕ
  pub split : IsSplit text place
  pub refused : IsRefused (take place text) out
  pub verdict_is : verdict ≡ verdicts.Refused

-- what is written for an input, of which there was more where it is cut
abbrev pub IsJudged : List ℕ → Bool → Verdict → List ℕ → Type 0
IsJudged text false verdict out = IsCompared text verdict out ⊎ IsUnconfigured text verdict out
IsJudged text true verdict out = (verdict ≡ verdicts.Refused) × (out ≡ too_big_line)
