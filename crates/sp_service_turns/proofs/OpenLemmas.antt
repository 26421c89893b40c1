-- How a daemon is opened, or why it isn't.
use Rattle.std.proofs.Common.{◌≡◌, ℕ, List, [], ◌∷◌, Option, Err, true, false, refl}
use Rattle.sp_keystate.specs.RefusedLines.{refused_line}
use Rattle.sp_keystate.specs.Starting.{KeepsAll, NoStart, Starts}
use Rattle.sp_keystate.specs.States.{HasFaultCause, StandsFor}
use Rattle.sp_keystate.specs.declared.refused.KeyRefused.{KeyRefused}
use Rattle.sp_keystate.specs.declared.starts.Started.{Started}
use Rattle.sp_keystate.specs.declared.starts.TheConstants.{RESERVED}
use Rattle.sp_outside.specs.Calls.{Call, Opened, Tells}
use Rattle.sp_outside.specs.Disk.{Disk}
use Rattle.sp_service_turns.specs.Outside.{KeptFile, Outside, Text}
use Rattle.sp_service_turns.specs.Served.{FailsToOpen, IsOpened, No_start, No_wire, wire_line}
use Rattle.sp_service_turns.specs.Told.{IsTold}
use Rattle.sp_service_turns.specs.declared.opened.Ports.{Ports}
use Rattle.sp_service_turns.specs.declared.served.Served.{Served}
use Rattle.sp_service_turns.specs.declared.served.Served.TheVariants as served

abbrev seen : Option (List Call) → Option (List ℕ) → Text → KeptFile → Outside
seen wire clock text file = record { wire = wire; clock = clock; text = text; file = file }

abbrev kept_file : Option Disk → Option (List Disk) → ℕ → KeptFile
kept_file disk past faults = record { disk = disk; past = past; faults = faults }

pub opened : (ports : Ports) (total : ℕ) (started : Started) (w0 w1 : Option (List Call)) (k : Option (List ℕ)) (b : Text) (d0 d1 : Option Disk)
    (p0 p1 : Option (List Disk)) (f0 f1 : ℕ)
    → Tells w0 w1 (Opened ports.overlay ports.client true ∷ []) → Starts d0 d1 RESERVED total started → StandsFor d1 started.state → KeepsAll d0 p0 p1 → f1 ≡ f0
    → IsOpened ports total started (seen w0 k b (kept_file d0 p0 f0)) (seen w1 k b (kept_file d1 p1 f1))
opened ports total started w0 w1 k b d0 d1 p0 p1 f0 f1 wire starts stands kept faultless =
    record { opened = wire; starts = starts; stands = stands; kept = kept; faultless = faultless; unread = refl; unwritten = refl }

pub no_wire : (ports : Ports) (total : ℕ) (ended : Served) (w0 w1 : Option (List Call)) (k : Option (List ℕ)) (f : KeptFile) (b0 b1 : Text)
    → Tells w0 w1 (Opened ports.overlay ports.client false ∷ []) → IsTold served.Wire wire_line ended b0 b1
    → FailsToOpen ports total (seen w0 k b0 f) (seen w1 k b1 f) ended
no_wire ports total ended w0 w1 k f b0 b1 wire told = No_wire (record { opened = wire; unread = refl; untouched = refl }) told

pub no_start : (ports : Ports) (total : ℕ) (ended : Served) (refused : KeyRefused) (w0 w1 : Option (List Call)) (k : Option (List ℕ)) (d0 d1 : Option Disk)
    (p0 p1 : Option (List Disk)) (f0 f1 : ℕ)
    (b0 b1 : Text) → Tells w0 w1 (Opened ports.overlay ports.client true ∷ []) → NoStart d0 total refused → KeepsAll d0 p0 p1
    → HasFaultCause {T = Unit {0}} f0 f1 (Err refused)
    → IsTold (served.Keys refused) (refused_line refused) ended b0 b1
    → FailsToOpen ports total (seen w0 k b0 (kept_file d0 p0 f0)) (seen w1 k b1 (kept_file d1 p1 f1)) ended
no_start ports total ended refused w0 w1 k d0 d1 p0 p1 f0 f1 b0 b1 wire cause kept faults told =
    No_start refused (record { opened = wire; cause = cause; kept = kept; faults = faults; unread = refl }) told
