-- What an ending of a daemon tells of its input and its key file.
use Rattle.std.proofs.Common.{◌≡◌, ℕ, ◌+◌, ◌<◌, ◌≤◌, Bool, true, false, List, [], ◌∷◌, length, Option, Some, None, sym, subst, ◌∙◌, arith, inl, inr}
use Rattle.std.specs.Prelude.{◌-◌, ◌^◌, IfSome}
use Rattle.std.proofs.lemmas.Option.{none-some}
use Rattle.sp_config.specs.declared.config.Config.{Config}
use Rattle.sp_keystate.proofs.Pieces.{same_some}
use Rattle.sp_keystate.specs.Starting.{AreSpent, NoStart, Starts}
use Rattle.sp_keystate.specs.declared.refused.KeyRefused.{KeyRefused}
use Rattle.sp_keystate.specs.declared.refused.KeyRefused.TheVariants as keys
use Rattle.sp_keystate.specs.declared.slot.InUse.{InUse}
use Rattle.sp_keystate.specs.declared.starts.Started.{Started}
use Rattle.sp_keystate.specs.declared.starts.TheConstants.{RESERVED}
use Rattle.sp_outside.specs.Disk.{Disk}
use Rattle.sp_keystate.specs.declared.key_state.KeyState.{KeyState}
use Rattle.sp_recording.specs.declared.line.Closing.{Closing}
use Rattle.sp_recording.specs.declared.line.Opening.{Opening}
use Rattle.sp_service_station.specs.Stations.{Station, StationStep, indexes_in}
use Rattle.sp_service_turns.specs.Daemons.{Broken, EndsAfter, EndsTurn, Finishes, FailsToWrite, Spent, Stopped, Whole}
use Rattle.sp_service_turns.specs.Keys.{IsEnd, keys_after}
use Rattle.sp_service_turns.specs.Outside.{Outside, Text}
use Rattle.sp_service_turns.specs.Runs.{keys_on}
use Rattle.sp_service_turns.specs.Served.{Begun, EndsTurns, FailsToOpen, No_start, No_wire, Unbegun}
use Rattle.sp_service_turns.specs.Told.{IsTold}
use Rattle.sp_service_turns.specs.Turns.{Turn}
use Rattle.sp_service_turns.specs.declared.peer.Peer.{Peer}
use Rattle.sp_service_turns.specs.declared.served.Served.{Served}
use Rattle.sp_service_turns.specs.declared.served.Served.TheVariants as served
use Rattle.sp_topology.specs.declared.topology.Topology.{Topology}
use Rattle.sp_service.specs.Complete.{GivesNoStart, IsAtEnd, IsConfiguredFor}
use Rattle.sp_service.specs.Configured.{IsConfigured}
use Rattle.sp_service.specs.Served.{Ends, IsRefusal, Is_served, No_memory, No_node, Refusal, Unopened, ports_of}
use Rattle.sp_service.specs.Starts.{total_of}
use Rattle.sp_service.proofs.OneInput.{not_refused, same_topology}

-- the whole input says a configuration that fits, and this holds of how many messages its key signs
pub record Says (Holds : ℕ → Type 0) (text : List ℕ) (is_cut : Bool) : Type 0 where
  pub whole : is_cut ≡ false
  pub configured : IsConfiguredFor Holds text

-- what an ending of a daemon tells
pub data Tells (text : List ℕ) (is_cut : Bool) (turns : ℕ) (disk : Option Disk) : Served → Type 0 where
  By_refusal : (Says (λ _. Unit {0}) text is_cut → ⊥) → Tells text is_cut turns disk served.Refused
  By_turns : Says (λ total. IfSome disk (λ d. GivesNoStart total d → ⊥)) text is_cut → Tells text is_cut turns disk served.Done
  By_keys : (refused : KeyRefused) → Says (λ total. IfSome disk (IsAtEnd total turns)) text is_cut → Tells text is_cut turns disk (served.Keys refused)
  By_keeper : Tells text is_cut turns disk (served.Keys keys.KeeperFault)
  By_wire : Tells text is_cut turns disk served.Wire
  By_sink : Tells text is_cut turns disk served.Sink
  By_memory : Tells text is_cut turns disk served.Memory

-- what holds of one reading of a text holds of each
pub both : (Holds Other : ℕ → Type 0) (text : List ℕ) → IsConfiguredFor Holds text → IsConfiguredFor Other text → (total : ℕ) × Holds total × Other total
both Holds Other text one two = (
  total_of one.topology,
  one.holds,
  subst (λ (t : Topology). Other (total_of t)) (same_topology text two.config one.config two.topology one.topology two.configured one.configured)
      two.holds,
)

-- ---- a start

-- each turn changes the file once at most
few_changes : (keys : KeyState) (ts : List Turn) → (keys_on keys ts).serial ≤ keys.serial + length ts
few_changes keys [] = omega arith
few_changes keys (t ∷ ts) = let rest = few_changes (keys_after keys t.reserved) ts in let here = one t.reserved in omega (arith, rest, here)
  where
    one : (reserved : Option ℕ) → (keys_after keys reserved).serial ≤ keys.serial + 1
    one None = omega arith
    one (Some upto) = omega arith

gave_start : (total : ℕ) (started : Started) (told now : Option Disk) → Starts told now RESERVED total started
    → IfSome told (λ disk. GivesNoStart total disk → ⊥)
gave_start total started None now starts = tt
gave_start total started (Some disk) now starts = none
  where
    spent : (found : InUse) → found ≡ starts.begins.found → AreSpent total found.numbers → ⊥
    spent found same (inl boot) =
        let b : 2 ^ 63 - 1 ≤ starts.begins.found.numbers.boot = subst (λ (f : InUse). 2 ^ 63 - 1 ≤ f.numbers.boot) same boot in
        absurd (omega (arith, b, starts.begins.boot, starts.boot.1))
    spent found same (inr (inl bound)) =
        let b : total ≤ starts.begins.found.numbers.bound = subst (λ (f : InUse). total ≤ f.numbers.bound) same bound in
        absurd (omega (arith, b, starts.begins.first, starts.some))
    spent found same (inr (inr serial)) =
        let b : 2 ^ 64 - 2 ≤ starts.begins.found.numbers.serial = subst (λ (f : InUse). 2 ^ 64 - 2 ≤ f.numbers.serial) same serial in
        absurd (omega (arith, b, starts.begins.serial, starts.serial))

    none : GivesNoStart total disk → ⊥
    none (inl unformatted) = none-some starts.begins.found (sym unformatted ∙ starts.begins.stood)
    none (inr is) = spent is.found (same_some is.found starts.begins.found (sym is.stood ∙ starts.begins.stood)) is.spent

last_serial : (total turns serial : ℕ) (started : Started) (told now : Option Disk) → Starts told now RESERVED total started
    → serial ≡ 2 ^ 64 - 1 → serial < started.state.serial + turns → IfSome told (IsAtEnd total turns)
last_serial total turns serial started None now starts last few = tt
last_serial total turns serial started (Some disk) now starts last few =
    inr (record { found = starts.begins.found; stood = starts.begins.stood; most = omega (arith, last, few, starts.begins.serial) })

-- ---- a daemon

module _ (text : List ℕ) (is_cut : Bool) (turns : ℕ) (c : Config) (t : Topology) (whole : is_cut ≡ false) (configured : IsConfigured text c t) where
  says : (Holds : ℕ → Type 0) → Holds (total_of t) → Says Holds text is_cut
  says Holds holds = record { whole = whole; configured = record { config = c; topology = t; configured = configured; holds = holds } }

  by_keys : (told : Option Disk) (refused : KeyRefused) → IfSome told (IsAtEnd (total_of t) turns) → Tells text is_cut turns told (served.Keys refused)
  by_keys told refused holds = By_keys refused (says (λ total. IfSome told (IsAtEnd total turns)) holds)

  unstarted : (told : Option Disk) (refused : KeyRefused) → NoStart told (total_of t) refused → Tells text is_cut turns told (served.Keys refused)
  unstarted told keys.KeeperFault cause = By_keeper
  unstarted told keys.Formatted cause = absurd cause
  unstarted None keys.Unformatted cause = by_keys None keys.Unformatted tt
  unstarted (Some disk) keys.Unformatted cause = by_keys (Some disk) keys.Unformatted (inl (inl cause))
  unstarted None (keys.Exhausted number) cause = by_keys None (keys.Exhausted number) tt
  unstarted (Some disk) (keys.Exhausted number) cause = by_keys (Some disk) (keys.Exhausted number) (inl (inr cause))

  -- it ended so, or since the line that tells so wasn't written
  by_line : (told : Option Disk) (would ended : Served) (line : List ℕ) (b0 b1 : Text) → IsTold would line ended b0 b1 → Tells text is_cut turns told would
      → Tells text is_cut turns told ended
  by_line told would ended line b0 b1 (inl is) tells = subst (Tells text is_cut turns told) (sym is.0) tells
  by_line told would ended line b0 b1 (inr is) tells = subst (Tells text is_cut turns told) (sym is.0) By_sink

  by_want : (told : Option Disk) (ended : Served) (line : List ℕ) (b0 b1 : Text) → FailsToWrite line b0 b1 ended → Tells text is_cut turns told ended
  by_want told served.Sink line b0 b1 fails = By_sink
  by_want told served.Memory line b0 b1 fails = By_memory
  by_want told served.Done line b0 b1 fails = absurd fails
  by_want told served.Refused line b0 b1 fails = absurd fails
  by_want told served.Wire line b0 b1 fails = absurd fails
  by_want told (served.Keys refused) line b0 b1 fails = absurd fails

  unopened : (before after : Outside) (ended : Served) → FailsToOpen (ports_of c) (total_of t) before after ended
      → Tells text is_cut turns before.file.disk ended
  unopened before after ended (No_wire is told) = by_line before.file.disk served.Wire ended _ before.text after.text told By_wire
  unopened before after ended (No_start refused is told) =
      by_line before.file.disk (served.Keys refused) ended _ before.text after.text told (unstarted before.file.disk refused is.cause)

  stopped : (told now : Option Disk) (started : Started) (ts : List Turn) (refused : KeyRefused) → Starts told now RESERVED (total_of t) started
      → length ts < turns
      → IsEnd (keys_on started.state ts).serial refused → Tells text is_cut turns told (served.Keys refused)
  stopped told now started ts keys.KeeperFault starts few end = By_keeper
  stopped told now started ts keys.Unformatted starts few end = absurd end
  stopped told now started ts keys.Formatted starts few end = absurd end
  stopped told now started ts (keys.Exhausted number) starts few end =
      by_keys told (keys.Exhausted number)
      (last_serial (total_of t) turns (keys_on started.state ts).serial started told now starts end
      (let most = few_changes started.state ts in omega (arith, few, most)))

  module _ (told now : Option Disk) (started : Started) (starts : Starts told now RESERVED (total_of t) started) where
    finished : (line : Closing) (b0 b1 : Text) (ended : Served) → Finishes line b0 b1 ended → Tells text is_cut turns told ended
    finished line b0 b1 served.Done ends =
        By_turns (says (λ total. IfSome told (λ d. GivesNoStart total d → ⊥)) (gave_start (total_of t) started told now starts))
    finished line b0 b1 served.Sink ends = By_sink
    finished line b0 b1 served.Memory ends = By_memory
    finished line b0 b1 served.Refused ends = absurd ends
    finished line b0 b1 served.Wire ends = absurd ends
    finished line b0 b1 (served.Keys refused) ends = absurd ends

    last_turn : (peers : List Peer) (polled : Option Peer) (node : Station) (ts : List Turn) (between after : Outside) (ended : Served) → length ts < turns
        → EndsTurn StationStep indexes_in peers polled node (keys_on started.state ts) between after ended → Tells text is_cut turns told ended
    last_turn peers polled node ts between after ended few (Spent refused why wire clock is) =
        by_line told (served.Keys refused) ended _ between.text after.text is (stopped told now started ts refused starts few why.end)
    last_turn peers polled node ts between after ended few (Broken (inl sink) early) = subst (Tells text is_cut turns told) (sym sink) By_sink
    last_turn peers polled node ts between after ended few (Broken (inr memory) early) = subst (Tells text is_cut turns told) (sym memory) By_memory

    begun : (peers : List Peer) (start : Station) (before after : Outside) (ended : Served)
        → EndsAfter StationStep indexes_in peers turns start started.state before after ended
        → Tells text is_cut turns told ended
    begun peers start before after ended (Whole ts last between counted ran quiet ends) = finished _ between.text after.text ended ends
    begun peers start before after ended (Stopped ts last between few ran ends) = last_turn peers _ last ts between after ended few ends

    turned : (peers : List Peer) (o : Opening) (start : Station) (before after : Outside) (ended : Served)
        → EndsTurns StationStep indexes_in peers o turns start started.state before after ended → Tells text is_cut turns told ended
    turned peers o start before after ended (Unbegun quiet fails) = by_want told ended _ before.text after.text fails
    turned peers o start before after ended (Begun written first ends) = begun peers start _ after ended ends

refusal : (text out : List ℕ) (is_cut : Bool) → IsRefusal text is_cut out → Says (λ _. Unit {0}) text is_cut → ⊥
refusal text out true is says = let whole = says.whole in absurd (cc)
refusal text out false is says = not_refused text out says.configured.config says.configured.topology says.configured.configured is

-- each ending of a daemon tells what it ends with
pub told : (text : List ℕ) (is_cut : Bool) (turns : ℕ) (before after : Outside) (ended : Served) → Ends text is_cut turns before after ended
    → Tells text is_cut turns before.file.disk ended
told text is_cut turns before after ended (Refusal out is quiet (inl line)) =
    subst (Tells text is_cut turns before.file.disk) (sym line.0) (By_refusal (refusal text out is_cut is))
told text is_cut turns before after ended (Refusal out is quiet (inr line)) = subst (Tells text is_cut turns before.file.disk) (sym line.0) By_sink
told text is_cut turns before after ended (Unopened c t whole configured fails) = unopened text is_cut turns c t whole configured before after ended fails
told text is_cut turns before after ended (No_node c t started whole configured opened memory) =
    subst (Tells text is_cut turns before.file.disk) (sym memory) By_memory
told text is_cut turns before after ended (Is_served c t whole configured ends) =
    turned text is_cut turns c t whole configured before.file.disk _ ends.started ends.opened.starts _ _ ends.start ends.between after ended ends.ends
told text is_cut turns before after ended (No_memory quiet unwritten memory) = subst (Tells text is_cut turns before.file.disk) (sym memory) By_memory
