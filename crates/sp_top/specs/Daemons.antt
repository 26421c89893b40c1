-- How a daemon ends; when it must make its turns, and when its key file ends it.
use Rattle.std.specs.Prelude.{ℕ, ◌≡◌, ◌≤◌, ◌⊎◌, Bool, List, Option, Some, length}
use Rattle.sp_base.specs.declared.limits.TheConstants.{MAX_INPUT_BYTES}
use Rattle.sp_outside.specs.Disk.{Disk}
use Rattle.sp_outside.specs.Streams.{IsInput}
use Rattle.sp_service.specs.Complete.{GivesNoStart, IsAtEnd, IsConfiguredFor}
use Rattle.sp_service.specs.Served.{Ends}
use Rattle.sp_service_turns.specs.Outside.{IsQuiet, Outside}
use Rattle.sp_service_turns.specs.declared.served.Served.{Served}
use Rattle.sp_top.specs.Statuses.{served_status}
use Rattle.sp_words.specs.declared.status.Status.{Status}
use Rattle.sp_words.specs.declared.status.Status.TheVariants as statuses

-- ---- what it did

-- it was the daemon of what a source had left, of which no more is read than may be
pub record ServedFrom (left : Option (List ℕ)) (turns : ℕ) (status : Status) (before after : Outside) : Type 0 where
  pub text : List ℕ
  pub is_cut : Bool
  pub input : IsInput left MAX_INPUT_BYTES text is_cut
  pub ended : Served
  pub status_is : status ≡ served_status ended
  pub ends : Ends text is_cut turns before after ended

-- the input couldn't be read, and nothing else was called
pub record IsUnread (status : Status) (before after : Outside) : Type 0 where
  pub cause : (status ≡ statuses.Source) ⊎ (status ≡ statuses.Memory)
  pub quiet : IsQuiet before after
  pub unwritten : after.text ≡ before.text

-- how a daemon ends: it served, or its input couldn't be read
abbrev pub DaemonEnds : Option (List ℕ) → ℕ → Status → Outside → Outside → Type 0
DaemonEnds left turns status before after = ServedFrom left turns status before after ⊎ IsUnread status before after

-- ---- which must be done

-- the text isn't too long, and says a configuration that fits; and this holds of how many messages its key signs
pub record IsInputFor (Holds : ℕ → Type 0) (text : List ℕ) : Type 0 where
  pub short : length text ≤ MAX_INPUT_BYTES
  pub configured : IsConfiguredFor Holds text

-- the source and the key file are told, and they are so
abbrev pub AreTold : Option (List ℕ) → Option Disk → (Disk → List ℕ → Type 0) → Type 0
AreTold (Some text) (Some disk) Holds = Holds disk text
AreTold _ _ Holds = ⊥

-- the configuration fits, and the key file isn't at its end
abbrev pub CanServe : ℕ → Disk → List ℕ → Type 0
CanServe turns disk = IsInputFor (λ total. IsAtEnd total turns disk → ⊥)

-- the configuration fits, and the key file gives no start
abbrev pub CannotStart : Disk → List ℕ → Type 0
CannotStart disk = IsInputFor (λ total. GivesNoStart total disk)

-- the configuration fits, and the key file is at its end
abbrev pub MayEndByKeys : ℕ → Disk → List ℕ → Type 0
MayEndByKeys turns disk = IsInputFor (λ total. IsAtEnd total turns disk)

-- it ended so, unless there was no memory, or something outside failed
pub data EndsUnlessFailed (wanted : Status) : Status → Type 0 where
  As_wanted : EndsUnlessFailed wanted wanted
  No_memory : EndsUnlessFailed wanted statuses.Memory
  No_source : EndsUnlessFailed wanted statuses.Source
  No_sink : EndsUnlessFailed wanted statuses.Sink
  No_wire : EndsUnlessFailed wanted statuses.Wire
  No_keeper : EndsUnlessFailed wanted statuses.Keeper

-- how a daemon that is to make so many turns ends
pub record DaemonRuns (left : Option (List ℕ)) (turns : ℕ) (status : Status) (before after : Outside) : Type 0 where
  -- what it did, and what it recorded
  pub ends : DaemonEnds left turns status before after
  -- with a configuration that fits and a key file that isn't at its end it makes all its turns
  pub serves : AreTold left before.file.disk (CanServe turns) → EndsUnlessFailed statuses.Done status
  -- with one that gives no start it ends by its key file
  pub stops : AreTold left before.file.disk CannotStart → EndsUnlessFailed statuses.KeyState status
  -- and by no other than one that is at its end
  pub stopped : status ≡ statuses.KeyState → (text : List ℕ) (disk : Disk) → left ≡ Some text → before.file.disk ≡ Some disk → MayEndByKeys turns disk text
