-- How a daemon of a configuration ends: from its input, what its wire, its clock, its key file and its recording tell.
use Rattle.std.specs.Prelude.{ℕ, ◌≡◌, Bool, true, false, List}
use Rattle.std.specs.Io.KnownBytes.{Appends}
use Rattle.sp_config.specs.RefusedLines.{too_big_line}
use Rattle.sp_config.specs.declared.config.Config.{Config}
use Rattle.sp_keystate.specs.Starting.{StartsSafely}
use Rattle.sp_keystate.specs.declared.starts.Started.{Started}
use Rattle.sp_service.specs.NodeParts.{peers_of}
use Rattle.sp_service_station.specs.Stations.{Station, StationStep, indexes_in}
use Rattle.sp_service_turns.specs.Daemons.{first_text}
use Rattle.sp_service_turns.specs.Keys.{HoldsKeys}
use Rattle.sp_service_turns.specs.Outside.{IsQuiet, Outside}
use Rattle.sp_service_turns.specs.Served.{EndsTurns, FailsToOpen, IsOpened, opening_of}
use Rattle.sp_service_turns.specs.Told.{IsTold}
use Rattle.sp_service_turns.specs.declared.daemon.Daemon.{Daemon}
use Rattle.sp_service_turns.specs.declared.opened.Ports.{Ports}
use Rattle.sp_service_turns.specs.declared.served.Served.{Served}
use Rattle.sp_service_turns.specs.declared.served.Served.TheVariants as served
use Rattle.sp_topology.specs.declared.topology.Topology.{Topology}
use Rattle.sp_service.specs.Configured.{IsConfigured, IsRefused}
use Rattle.sp_service.specs.Starts.{IsStarted, total_of}

abbrev pub ports_of : Config → Ports
ports_of c = record { overlay = c.port; client = c.client_port }

-- The daemon of a configuration that fits: its wire was opened and a start taken from its key file, and then its node, which has the indexes of that
-- start, made its turns
pub record EndsOpened (c : Config) (t : Topology) (count : ℕ) (ended : Served) (before after : Outside) : Type 0 where
  pub started : Started
  pub between : Outside
  pub opened : IsOpened (ports_of c) (total_of t) started before between
  pub start : Station
  pub is_start : IsStarted c t (opening_of started) start
  pub ends : EndsTurns StationStep indexes_in (peers_of c) (opening_of started) count start started.state between after ended

-- The daemon of a configuration that fits, at its start: its wire was opened and a start taken from its key file, its node has the indexes of that start,
-- and its first line is written
pub record BeginsConfigured (c : Config) (t : Topology) (before after : Outside) (daemon : Daemon Station) : Type 0 where
  pub started : Started
  pub opened : IsOpened (ports_of c) (total_of t) started before (record after { text = before.text })
  pub safe : StartsSafely before.file.disk after.file.disk started
  pub is_start : IsStarted c t (opening_of started) daemon.node
  pub keys : daemon.keys ≡ started.state
  pub held : HoldsKeys after.file.disk daemon.keys (indexes_in daemon.node)
  pub peers : daemon.peers.items ≡ peers_of c
  pub fresh : (daemon.turns ≡ 0) × (daemon.lost ≡ 0)
  pub first : Appends before.text after.text (first_text (opening_of started))

-- the daemon of this input, of which there was no more, at its start
pub record Begins (text : List ℕ) (is_cut : Bool) (before after : Outside) (daemon : Daemon Station) : Type 0 where
  pub config : Config
  pub topology : Topology
  pub whole : is_cut ≡ false
  pub configured : IsConfigured text config topology
  pub begins : BeginsConfigured config topology before after daemon

-- why the input is no configuration that fits: there was more of it than may be read, or the line that refuses it
abbrev pub IsRefusal : List ℕ → Bool → List ℕ → Type 0
IsRefusal text true out = out ≡ too_big_line
IsRefusal text false out = IsRefused text out

-- how a daemon of this input ended that was to make so many turns; of the input there was more where it is cut
pub data Ends (text : List ℕ) (is_cut : Bool) (count : ℕ) (before after : Outside) (ended : Served) : Type 0 where
  -- nothing was opened, and the refusal was written, or a beginning of it
  Refusal : (out : List ℕ) → IsRefusal text is_cut out → IsQuiet before after → IsTold served.Refused out ended before.text after.text
      → Ends text is_cut count before after ended
  -- the configuration fits, and the wire couldn't be opened, or the key file gave no start
  Unopened : (c : Config) (t : Topology) → is_cut ≡ false → IsConfigured text c t → FailsToOpen (ports_of c) (total_of t) before after ended
      → Ends text is_cut count before after ended
  -- both were opened, and there was no memory for the node
  No_node : (c : Config) (t : Topology) (started : Started) → is_cut ≡ false → IsConfigured text c t → IsOpened (ports_of c) (total_of t) started before after
      → ended ≡ served.Memory → Ends text is_cut count before after ended
  -- its daemon ended so
  Is_served : (c : Config) (t : Topology) → is_cut ≡ false → IsConfigured text c t → EndsOpened c t count ended before after
      → Ends text is_cut count before after ended
  -- there was no memory before anything was opened or written
  No_memory : IsQuiet before after → after.text ≡ before.text → ended ≡ served.Memory → Ends text is_cut count before after ended
