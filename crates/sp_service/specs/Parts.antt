-- What the parts of a daemon and of a verification promise each other.
use Rattle.std.specs.Prelude.{ℕ, ◌≡◌, ◌⊎◌, List, Result, Ok, Err}
use Rattle.std.specs.Io.KnownBytes.{Appends}
use Rattle.sp_config.specs.declared.config.Config.{Config}
use Rattle.sp_recording.specs.declared.line.Digest.{Digest}
use Rattle.sp_recording.specs.declared.line.Opening.{Opening}
use Rattle.sp_recording.specs.declared.stage.Reading.{Reading}
use Rattle.sp_service_station.specs.Stations.{Station, StationStep, indexes_in}
use Rattle.sp_service_turns.specs.Compared.{AgreesWhole, DiffersAt, IsBadAfter}
use Rattle.sp_service_turns.specs.declared.compared.VerifyRefused.{VerifyRefused}
use Rattle.sp_service_turns.specs.declared.compared.VerifyRefused.TheVariants as refusals
use Rattle.sp_service_turns.specs.Daemons.{first_text}
use Rattle.sp_service_turns.specs.declared.daemon.Daemon.{Daemon}
use Rattle.sp_keystate.specs.declared.starts.Started.{Started}
use Rattle.sp_service.specs.NodeParts.{peers_of}
use Rattle.sp_service_turns.specs.Outside.{IsQuiet, Outside, Text}
use Rattle.sp_service_turns.specs.Served.{EndsTurns, FailsToOpen, IsOpened, opening_of}
use Rattle.sp_service_turns.specs.declared.served.Served.{Served}
use Rattle.sp_service_turns.specs.declared.served.Served.TheVariants as served
use Rattle.sp_topology.specs.declared.topology.Topology.{Topology}
use Rattle.sp_service.specs.Starts.{IsStarted, total_of}
use Rattle.sp_service.specs.Served.{EndsOpened, ports_of}
use Rattle.sp_service.specs.Verdicts.{form_line, mismatch_line, verified_line}
use Rattle.sp_service.specs.declared.verdict.Verdict.{Verdict}
use Rattle.sp_service.specs.declared.verdict.Verdict.TheVariants as verdicts

-- ---- a daemon

-- how a daemon of a configuration that fits ended
pub data EndsConfigured (c : Config) (t : Topology) (count : ℕ) (before after : Outside) (ended : Served) : Type 0 where
  Is_unopened : FailsToOpen (ports_of c) (total_of t) before after ended → EndsConfigured c t count before after ended
  Is_nodeless : (started : Started) → IsOpened (ports_of c) (total_of t) started before after → ended ≡ served.Memory
      → EndsConfigured c t count before after ended
  Is_daemon : EndsOpened c t count ended before after → EndsConfigured c t count before after ended
  Is_forgotten : IsQuiet before after → after.text ≡ before.text → ended ≡ served.Memory → EndsConfigured c t count before after ended

-- how it ended once its wire was open and its start was taken
abbrev pub EndsStarted : Config → Topology → ℕ → Started → Served → Outside → Outside → Type 0
EndsStarted c t count started ended before after =
    ((start : Station) × IsStarted c t (opening_of started) start
    × EndsTurns StationStep indexes_in (peers_of c) (opening_of started) count start started.state before after ended)
    ⊎ ((ended ≡ served.Memory) × (after ≡ before))

-- the daemon whose wire was open and whose start was taken: what its recording got is its first line
pub record BeginsStarted (c : Config) (t : Topology) (started : Started) (before after : Text) (daemon : Daemon Station) : Type 0 where
  pub is_start : IsStarted c t (opening_of started) daemon.node
  pub keys : daemon.keys ≡ started.state
  pub peers : daemon.peers.items ≡ peers_of c
  pub fresh : (daemon.turns ≡ 0) × (daemon.lost ≡ 0)
  pub first : Appends before after (first_text (opening_of started))

-- ---- verification

-- the verdict and the line of what a verification gives
abbrev pub TellsVerified : Result ℕ VerifyRefused → Verdict → List ℕ → Type 0
TellsVerified (Ok count) verdict out = (verdict ≡ verdicts.Verified) × (out ≡ verified_line count)
TellsVerified (Err (refusals.Mismatch line recorded computed)) verdict out = (verdict ≡ verdicts.Mismatch) × (out ≡ mismatch_line line recorded computed)
TellsVerified (Err (refusals.Form line)) verdict out = (verdict ≡ verdicts.Refused) × (out ≡ form_line line)
TellsVerified (Err refusals.Memory) verdict out = ⊥

-- what comes of the lines of a recording, asked of a node again from here on
abbrev pub ComeTo : Station → ℕ → Reading → Verdict → List ℕ → Type 0
ComeTo start before reading verdicts.Verified out = (last : Station) × (count : ℕ) × AgreesWhole StationStep start reading last count
    × (out ≡ verified_line count)
ComeTo start before reading verdicts.Mismatch out =
    (line : ℕ) × (recorded : Digest) × (computed : Digest) × DiffersAt StationStep start before reading line recorded computed
    × (out ≡ mismatch_line line recorded computed)
ComeTo start before reading verdicts.Refused out = (line : ℕ) × IsBadAfter StationStep start reading line × (out ≡ form_line line)

-- what comes of those lines, where the node starts as the first line of the recording says
pub record ComesFrom (c : Config) (t : Topology) (o : Opening) (before : ℕ) (reading : Reading) (verdict : Verdict) (out : List ℕ) : Type 0 where
  pub start : Station
  pub started : IsStarted c t o start
  pub comes : ComeTo start before reading verdict out
