-- The key files of a run with epochs: which nodes run, and that each has the boot and the bound of its file.
use Rattle.std.specs.Prelude.{ℕ, ◌≡◌, ◌≤◌, ◌*◌, ◌+◌, true, false, List, [], ◌∷◌, length, Some}
use Rattle.std.specs.List.{list_any}
use Rattle.sp_base.specs.declared.id.NodeId.{NodeId}
use Rattle.sp_epoch.specs.Numbers.{IsOneOf, numbers_at}
use Rattle.sp_keystate.specs.declared.numbers.Numbers.{Numbers}
use Rattle.sp_rules.specs.Arts.{Arts}
use Rattle.sp_rules.specs.Masks.{greatest_id}
use Rattle.sp_rules.specs.Node.{NodeState}
use Rattle.sp_runs.specs.Runs.{Clean}
use Rattle.sp_runs.specs.Settings.{Setting, SettingFits}
use Rattle.sp_runs.specs.Worlds.{World, is_me, node_in}
use Rattle.sp_journal.specs.declared.entry.Entry.{Entry}
use Rattle.sp_schedule_events.specs.Lives.{is_started}
use Rattle.sp_schedule_events.specs.declared.event.Event.{Event}

-- what a file says after so many events: its format is one change, each start is two, and each reserve is one
pub record AreNumbers (total events : ℕ) (n : Numbers) : Type 0 where
  pub serial : n.serial ≤ 2 * events + 1
  pub boot : n.boot ≤ events
  pub bound : n.bound ≤ total

-- a node that runs has a file, is started, and has the boot and the bound of its file
pub record IsOfFile (x : Setting) (es : List Event) (w : World) (u : NodeId) (n : NodeState) : Type 0 where
  pub there : IsOneOf w.keys u
  pub started : is_started es u.0 ≡ true
  pub boot : n.fixed.boot ≡ (numbers_at w.keys u).boot
  pub bound : n.signer.bound ≡ (numbers_at w.keys u).bound

-- each node runs once
abbrev pub AreOnce : List NodeState → Type 0
AreOnce [] = Unit {0}
AreOnce (n ∷ nodes) = (list_any (is_me n.fixed.me) nodes ≡ false) × AreOnce nodes

-- each node that runs has the boot and the bound of its key file, and runs once
pub record FilesStand (x : Setting) (es : List Event) (w : World) : Type 0 where
  pub nodes : (u : NodeId) (n : NodeState) → node_in w.nodes u ≡ Some n → IsOfFile x es w u n
  pub once : AreOnce w.nodes

-- there is a file for each node; and in a run with epochs they stand as above
pub record KeysStand (x : Setting) (es : List Event) (w : World) : Type 0 where
  pub many : length w.keys ≡ greatest_id x.topology.nodes
  pub numbers : (u : NodeId) → AreNumbers x.total (length es) (numbers_at w.keys u)
  pub files : x.epochs ≡ true → FilesStand x es w

-- of each run without forgery
abbrev pub KeyFilesStand : Type 0
KeyFilesStand = (arts : Arts) (x : Setting) (es : List Event) (js : List Entry) (w : World) → SettingFits arts x → Clean arts x es js w → KeysStand x es w
