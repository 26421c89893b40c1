-- How a daemon ends, from how its parts ended.
use Rattle.std.proofs.Common.{◌≡◌, ◌≤◌, ◌+◌, ◌<◌, min, ℕ, Bool, false, List, Option, None, Some, refl, sym, ap, subst, ◌∙◌, arith, inl, inr}
use Rattle.std.proofs.lemmas.Option.{none-some}
use Rattle.sp_config.specs.declared.config.Config.{Config}
use Rattle.sp_keystate.proofs.Pieces.{same_some}
use Rattle.sp_keystate.proofs.Since.{since_none, since_on, since_weaker}
use Rattle.sp_keystate.specs.Slots.{in_slot, in_use}
use Rattle.sp_keystate.specs.Soundness.{IsSound, Keeps}
use Rattle.sp_keystate.specs.Starting.{KeepsAll, Starts, StartsSafely}
use Rattle.sp_keystate.specs.declared.numbers.Numbers.{Numbers}
use Rattle.sp_keystate.specs.declared.slot.InUse.{InUse}
use Rattle.sp_keystate.specs.declared.slot.Slot.{Slot}
use Rattle.sp_keystate.specs.declared.starts.Started.{Started}
use Rattle.sp_keystate.specs.declared.starts.TheConstants.{RESERVED}
use Rattle.sp_outside.proofs.DiskLemmas.{bytes_of-still}
use Rattle.sp_outside.specs.Calls.{Call}
use Rattle.sp_outside.specs.Disk.{Disk, bytes_of, still}
use Rattle.sp_recording.specs.declared.line.Opening.{Opening}
use Rattle.sp_service.specs.NodeParts.{peers_of}
use Rattle.sp_service_station.specs.Stations.{Station, StationStep, indexes_in}
use Rattle.sp_service_turns.specs.Keys.{KeepsKeys}
use Rattle.sp_service_turns.specs.Outside.{KeptFile, Outside, Text}
use Rattle.sp_service_turns.specs.Served.{EndsTurns, FailsToOpen, IsOpened, opening_of}
use Rattle.sp_service_turns.specs.Told.{IsTold}
use Rattle.sp_service_turns.specs.declared.peer.Peer.{Peer}
use Rattle.sp_service_turns.specs.declared.served.Served.{Served}
use Rattle.sp_service_turns.specs.declared.served.Served.TheVariants as served
use Rattle.sp_topology.specs.declared.topology.Topology.{Topology}
use Rattle.sp_service.specs.Configured.{IsConfigured}
use Rattle.sp_service.specs.Parts.{EndsConfigured, EndsStarted, Is_daemon, Is_forgotten, Is_nodeless, Is_unopened}
use Rattle.sp_service.specs.Served.{Ends, Is_served, IsRefusal, No_memory, No_node, Refusal, Unopened, ports_of}
use Rattle.sp_service.specs.Starts.{IsStarted, total_of}

abbrev seen : Option (List Call) → Option (List ℕ) → Text → KeptFile → Outside
seen wire clock text file = record { wire = wire; clock = clock; text = text; file = file }

-- ---- a configuration that fits

pub node_ends : (c : Config) (t : Topology) (count : ℕ) (started : Started) (peers : List Peer) (start : Station) (o : Opening) (ended : Served)
    (before after : Outside)
    → IsStarted c t o start → o ≡ opening_of started → peers ≡ peers_of c
    → EndsTurns StationStep indexes_in peers o count start started.state before after ended → EndsStarted c t count started ended before after
node_ends c t count started peers start o ended before after begun opens near ends =
    let P : List Peer → Type 0 = λ ps. EndsTurns StationStep indexes_in ps (opening_of started) count start started.state before after ended in
    let Q : Opening → Type 0 = λ p. EndsTurns StationStep indexes_in peers p count start started.state before after ended in
    inl (start, subst (λ (p : Opening). IsStarted c t p start) opens begun, subst P near (subst Q opens ends))

pub no_node : (c : Config) (t : Topology) (count : ℕ) (started : Started) (before : Outside) → EndsStarted c t count started served.Memory before before
no_node c t count started before = inr (refl, refl)

pub unopened : (c : Config) (t : Topology) (count : ℕ) (ended : Served) (before after : Outside) → FailsToOpen (ports_of c) (total_of t) before after ended
    → EndsConfigured c t count before after ended
unopened c t count ended before after fails = Is_unopened fails

pub opened_ends : (c : Config) (t : Topology) (count : ℕ) (started : Started) (ended : Served) (before between after : Outside)
    → IsOpened (ports_of c) (total_of t) started before between → EndsStarted c t count started ended between after
    → EndsConfigured c t count before after ended
opened_ends c t count started ended before between after opened (inl ends) =
    Is_daemon (record { started = started; between = between; opened = opened; start = ends.0; is_start = ends.1; ends = ends.2 })
opened_ends c t count started ended before between after opened (inr none) =
    Is_nodeless started (subst (λ (x : Outside). IsOpened (ports_of c) (total_of t) started before x) (sym none.1) opened) none.0

pub forgotten : (c : Config) (t : Topology) (count : ℕ) (before : Outside) → EndsConfigured c t count before before served.Memory
forgotten c t count before = Is_forgotten (refl, refl, refl) refl refl

-- ---- the key file

-- a key file that wasn't touched keeps all
pub kept_quiet : (told : Option Disk) (past : Option (List Disk)) → KeepsAll told past past
kept_quiet told past file slot numbers is sound = since_none past (Keeps numbers.bound numbers.boot)

-- the numbers of a start are no lower than those that were found
pub record AreNoLower (numbers : Numbers) (started : Started) : Type 0 where
  pub bound : numbers.bound ≤ started.state.bound
  pub boot : numbers.boot ≤ started.state.boot

no_lower : (first n total : ℕ) → first < total → first ≤ min (first + n) total
no_lower first n total less = grind (arith, less)

found_so : (d : Disk) (e : Option Disk) (total : ℕ) (started : Started) (file : List ℕ) (slot : Slot) (numbers : Numbers) → d ≡ still file
    → IsSound slot numbers file
    → Starts (Some d) e RESERVED total started → AreNoLower numbers started
found_so d e total started file slot numbers is sound starts =
    let bytes : bytes_of d ≡ file = ap bytes_of is ∙ bytes_of-still file in
    let same : starts.begins.found ≡ in_slot slot numbers =
    same_some starts.begins.found (in_slot slot numbers) (sym starts.begins.stood ∙ ap in_use bytes ∙ sound.stands) in
    let bound : starts.begins.found.numbers.bound ≡ numbers.bound = ap (λ (u : InUse). u.numbers.bound) same in
    let boot : starts.begins.found.numbers.boot ≡ numbers.boot = ap (λ (u : InUse). u.numbers.boot) same in
    record {
      bound = omega (arith, no_lower started.first RESERVED total starts.some, starts.bound, starts.begins.first, bound);
      boot = omega (arith, starts.begins.boot, boot);
    }

pub kept_on : (d e : Option Disk) (p q r : Option (List Disk)) (total : ℕ) (started : Started) → Starts d e RESERVED total started → StartsSafely d e started
    → KeepsAll d p q
    → KeepsKeys started.state e q r → KeepsAll d p r
kept_on None e p q r total started starts safe before after file slot numbers told sound = absurd (none-some (still file) told)
kept_on (Some d) e p q r total started starts safe before after file slot numbers told sound =
    let is : d ≡ still file = same_some d (still file) told in
    let here : IsSound slot numbers (bytes_of d) = subst (IsSound slot numbers) (sym (ap bytes_of is ∙ bytes_of-still file)) sound in
    let least = found_so d e total started file slot numbers is sound starts in
    since_on p q r (Keeps numbers.bound numbers.boot) (before file slot numbers told sound)
    (since_weaker q r (Keeps started.state.bound started.state.boot) (Keeps numbers.bound numbers.boot)
    (λ c k. record {
      slot = k.slot;
      numbers = k.numbers;
      sound = k.sound;
      bound_kept = (let h = k.bound_kept in omega (arith, h, least.bound));
      boot_kept = (let h = k.boot_kept in omega (arith, h, least.boot));
    })
    (after (safe slot numbers here)))

-- ---- an input

pub told : (text : List ℕ) (is_cut : Bool) (count : ℕ) (line : List ℕ) (ended : Served) (w : Option (List Call)) (k : Option (List ℕ)) (f : KeptFile)
    (b0 b1 : Text)
    → IsRefusal text is_cut line → IsTold served.Refused line ended b0 b1 → Ends text is_cut count (seen w k b0 f) (seen w k b1 f) ended
told text is_cut count line ended w k f b0 b1 refusal is = Refusal line refusal (refl, refl, refl) is

pub daemon : (text : List ℕ) (is_cut : Bool) (count : ℕ) (c : Config) (t : Topology) (ended : Served) (before after : Outside) → is_cut ≡ false
    → IsConfigured text c t → EndsConfigured c t count before after ended → Ends text is_cut count before after ended
daemon text is_cut count c t ended before after whole configured (Is_unopened fails) = Unopened c t whole configured fails
daemon text is_cut count c t ended before after whole configured (Is_nodeless started opened memory) = No_node c t started whole configured opened memory
daemon text is_cut count c t ended before after whole configured (Is_daemon ends) = Is_served c t whole configured ends
daemon text is_cut count c t ended before after whole configured (Is_forgotten quiet unwritten memory) = No_memory quiet unwritten memory

pub no_memory : (text : List ℕ) (is_cut : Bool) (count : ℕ) (before : Outside) → Ends text is_cut count before before served.Memory
no_memory text is_cut count before = No_memory (refl, refl, refl) refl refl
