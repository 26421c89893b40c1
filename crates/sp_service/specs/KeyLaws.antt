-- That daemons never sign two messages with one index: their runs on one key file, stopped at any moments, are a history of its seed.
use Rattle.std.specs.Prelude.{ℕ, ◌≡◌, Bool, List, [], Some}
use Rattle.std.specs.List.{Contains}
use Rattle.sp_hss.specs.Uses.{Rising, Signing}
use Rattle.sp_outside.specs.Disk.{still}
use Rattle.laws_keystate.specs.Histories.{IsSomeSound, formatted}
use Rattle.laws_keystate.specs.RunMoments.{LeavesBetween, LeavesTurns}
use Rattle.laws_keystate.specs.Runs.{Run, RunsFollow, SignsOne, indexes_at, signed_in}
use Rattle.sp_service.specs.NodeParts.{peers_of}
use Rattle.sp_service.specs.Served.{Ends, Is_served}
use Rattle.sp_service.specs.Starts.{total_of}
use Rattle.sp_service_station.specs.Stations.{StationStep, indexes_in}
use Rattle.sp_service_turns.specs.Outside.{Outside}
use Rattle.sp_service_turns.specs.Served.{opening_of}
use Rattle.sp_service_turns.specs.declared.served.Served.{Served}

-- Whatever a crash may leave at a moment of a daemon that ended so, on a file of these bytes: until its start is taken, a run of its station left it that
-- signed
-- nothing; and at each later moment to its end, one that signed what its station had signed at its start, with whatever message, and in its whole turns
abbrev pub EachMomentIsLeft : (found text : List ℕ) (is_cut : Bool) (count : ℕ) (before after : Outside) (ended : Served)
    → Ends text is_cut count before after ended → Type 0
EachMomentIsLeft found text is_cut count before after ended (Is_served c t whole configured opened) =
    LeavesBetween StationStep indexes_in found [] before.file opened.between.file
    × ((signed : List Signing) → SignsOne (indexes_at (total_of t) opened.started) (indexes_in opened.start) signed
    → LeavesTurns StationStep indexes_in found signed (peers_of c) (opening_of opened.started) count opened.start opened.started.state opened.between after
    ended opened.ends)
EachMomentIsLeft found text is_cut count before after ended _ = LeavesBetween StationStep indexes_in found [] before.file after.file

-- a daemon on a sound key file that is all on the disk, however it ended
abbrev pub DaemonsAreRuns : Type 0
DaemonsAreRuns = (text : List ℕ) (is_cut : Bool) (count : ℕ) (before after : Outside) (ended : Served) (ends : Ends text is_cut count before after ended)
    (found : List ℕ) → before.file.disk ≡ Some (still found) → IsSomeSound found → EachMomentIsLeft found text is_cut count before after ended ends

-- over all runs of stations on one file that was formatted, each on what a crash left of the one before, the indexes that they sign with rise, so none signs
-- two messages
abbrev pub NoDaemonSignsAgain : Type 0
NoDaemonSignsAgain = (runs : List Run) → RunsFollow StationStep indexes_in formatted runs
    → Rising 0 (signed_in runs)
    × ((a b : Signing) → Contains (signed_in runs) a → Contains (signed_in runs) b → a.index ≡ b.index → a.message ≡ b.message)
