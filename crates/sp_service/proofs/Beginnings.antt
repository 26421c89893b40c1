-- How a daemon begins, and how it ends then.
use Rattle.std.proofs.Common.{◌≡◌, ◌∙◌, ℕ, Bool, false, List, Option, Result, Ok, Err, IfErr, IfOk, OnOk, refl, sym, subst, inl}
use Rattle.std.specs.Io.KnownBytes.{Appends}
use Rattle.sp_config.specs.declared.config.Config.{Config}
use Rattle.sp_keystate.specs.Starting.{KeepsAll, StartsSafely}
use Rattle.sp_keystate.specs.declared.key_state.KeyState.{KeyState}
use Rattle.sp_keystate.specs.declared.starts.Started.{Started}
use Rattle.sp_outside.specs.Calls.{Call}
use Rattle.sp_outside.specs.Disk.{Disk}
use Rattle.sp_recording.specs.declared.line.Opening.{Opening}
use Rattle.sp_service.specs.NodeParts.{peers_of}
use Rattle.sp_service_station.specs.Stations.{Station, StationStep, indexes_in}
use Rattle.sp_service_turns.specs.Daemons.{EndsAfter, FailsToWrite, first_text}
use Rattle.sp_service_turns.specs.Keys.{HoldsKeys, KeepsKeys}
use Rattle.sp_service_turns.specs.Outside.{KeptFile, Outside, Text}
use Rattle.sp_service_turns.specs.Served.{Begun, EndsTurns, IsOpened, Unbegun, opening_of}
use Rattle.sp_service_turns.specs.declared.daemon.Daemon.{Daemon}
use Rattle.sp_service_turns.specs.declared.peer.Peer.{Peer}
use Rattle.sp_service_turns.specs.declared.served.Served.{Served}
use Rattle.sp_topology.specs.declared.topology.Topology.{Topology}
use Rattle.sp_service.specs.Configured.{IsConfigured}
use Rattle.sp_service.specs.Parts.{BeginsStarted, EndsStarted}
use Rattle.sp_service.specs.Served.{Begins, BeginsConfigured, Ends, Is_served, ports_of}
use Rattle.sp_service.specs.Starts.{IsStarted, total_of}
use Rattle.sp_service.proofs.Endings.{daemon, kept_on}
use Rattle.sp_service.proofs.Openings.{held_at_start}

abbrev seen : Option (List Call) → Option (List ℕ) → Text → KeptFile → Outside
seen wire clock text file = record { wire = wire; clock = clock; text = text; file = file }

-- ---- what holds of an answer

pub map_ok : {T E : Type 0} (r : Result T E) (P Q : T → Type 0) → ((x : T) → P x → Q x) → IfOk r P → IfOk r Q
map_ok (Ok x) P Q go h = go x h
map_ok (Err e) P Q go h = tt

pub map_err : {T E : Type 0} (r : Result T E) (P Q : E → Type 0) → ((e : E) → P e → Q e) → IfErr r P → IfErr r Q
map_err (Ok x) P Q go h = tt
map_err (Err e) P Q go h = go e h

pub both_ok : {T E : Type 0} (r : Result T E) (P R : T → Type 0) (Q : Type 0) → ((x : T) → P x → Q → R x) → IfOk r P → OnOk r Q → IfOk r R
both_ok (Ok x) P R Q go h q = go x h q
both_ok (Err e) P R Q go h q = tt

-- ---- the node

-- what a daemon that begins has of what it was given
abbrev Given : Station → KeyState → List Peer → Daemon Station → Type 0
Given station keys peers daemon =
    (daemon.node ≡ station) × (daemon.keys ≡ keys) × (daemon.peers.items ≡ peers) × (daemon.turns ≡ 0) × (daemon.lost ≡ 0)

pub begins_so : (c : Config) (t : Topology) (started : Started) (station : Station) (o : Opening) (peers : List Peer) (b0 b1 : Text) (daemon : Daemon Station)
    → IsStarted c t o station → o ≡ opening_of started → peers ≡ peers_of c → Given station started.state peers daemon → Appends b0 b1 (first_text o)
    → BeginsStarted c t started b0 b1 daemon
begins_so c t started station o peers b0 b1 daemon is opens near given first = record {
  is_start = subst (λ (s : Station). IsStarted c t (opening_of started) s) (sym given.0) (subst (λ (p : Opening). IsStarted c t p station) opens is);
  keys = given.1;
  peers = given.2 ∙ near;
  fresh = (given.3, given.4);
  first = subst (λ (p : Opening). Appends b0 b1 (first_text p)) opens first;
}

pub fails_so : (c : Config) (t : Topology) (count : ℕ) (started : Started) (station : Station) (o : Opening) (ended : Served) (w : Option (List Call))
    (k : Option (List ℕ))
    (f : KeptFile) (b0 b1 : Text) → IsStarted c t o station → o ≡ opening_of started → FailsToWrite (first_text o) b0 b1 ended
    → EndsStarted c t count started ended (seen w k b0 f) (seen w k b1 f)
fails_so c t count started station o ended w k f b0 b1 is opens fails =
    inl (
      station,
      subst (λ (p : Opening). IsStarted c t p station) opens is,
      Unbegun (refl, refl, refl) (subst (λ (p : Opening). FailsToWrite (first_text p) b0 b1 ended) opens fails),
    )

-- ---- the configuration

pub configured_so : (c : Config) (t : Topology) (started : Started) (w0 w1 : Option (List Call)) (k : Option (List ℕ)) (f0 f1 : KeptFile) (b0 b b1 : Text)
    (daemon : Daemon Station)
    → IsOpened (ports_of c) (total_of t) started (seen w0 k b0 f0) (seen w1 k b f1) → StartsSafely f0.disk f1.disk started
    → BeginsStarted c t started b b1 daemon
    → BeginsConfigured c t (seen w0 k b0 f0) (seen w1 k b1 f1) daemon
configured_so c t started w0 w1 k f0 f1 b0 b b1 daemon opened safe begun = record {
  started = started;
  opened = record {
    opened = opened.opened;
    starts = opened.starts;
    stands = opened.stands;
    kept = opened.kept;
    faultless = opened.faultless;
    unread = refl;
    unwritten = refl;
  };
  safe = safe;
  is_start = begun.is_start;
  keys = begun.keys;
  held = subst (λ (s : KeyState). HoldsKeys f1.disk s (indexes_in daemon.node)) (sym begun.keys)
      (held_at_start c t started f1.disk daemon.node opened.stands opened.starts.serial begun.is_start);
  peers = begun.peers;
  fresh = begun.fresh;
  first = subst (λ (x : Text). Appends x b1 (first_text (opening_of started))) opened.unwritten begun.first;
}

-- ---- the input

pub begins : (text : List ℕ) (is_cut : Bool) (c : Config) (t : Topology) (before after : Outside) (d : Daemon Station) → is_cut ≡ false → IsConfigured text c t
    → BeginsConfigured c t before after d → Begins text is_cut before after d
begins text is_cut c t before after d whole configured begun = record { config = c; topology = t; whole = whole; configured = configured; begins = begun }

pub served : (text : List ℕ) (is_cut : Bool) (count : ℕ) (before mid after : Outside) (d : Daemon Station) (ended : Served) → Begins text is_cut before mid d
    → EndsAfter StationStep indexes_in d.peers.items count d.node d.keys mid after ended → Ends text is_cut count before after ended
served text is_cut count before mid after d ended b ends =
    let x = b.begins in
    let turns : EndsAfter StationStep indexes_in (peers_of b.config) count d.node x.started.state mid after ended =
    subst (λ (s : KeyState). EndsAfter StationStep indexes_in (peers_of b.config) count d.node s mid after ended) x.keys
    (subst (λ (ps : List Peer). EndsAfter StationStep indexes_in ps count d.node d.keys mid after ended) x.peers ends) in
    Is_served b.config b.topology b.whole b.configured
    (record {
      started = x.started;
      between = record mid { text = before.text };
      opened = x.opened;
      start = d.node;
      is_start = x.is_start;
      ends =
          Begun mid.text x.first turns;
    })

pub kept_begun : (text : List ℕ) (is_cut : Bool) (before mid : Outside) (d : Daemon Station) (p q r : Option (List Disk)) → Begins text is_cut before mid d
    → KeepsAll before.file.disk p q → KeepsKeys d.keys mid.file.disk q r → KeepsAll before.file.disk p r
kept_begun text is_cut before mid d p q r b early late =
    let x = b.begins in
    kept_on before.file.disk mid.file.disk p q r (total_of b.topology) x.started x.opened.starts x.safe early
    (subst (λ (s : KeyState). KeepsKeys s mid.file.disk q r) x.keys late)
