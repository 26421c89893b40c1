-- What a compromised node crafts in the names of compromised nodes is never forged, neither by its tag nor by an object; nor is what is no frame.
use Rattle.std.specs.Prelude.{ℕ, ◌≡◌, false, IsTrue, List, None, Err, length}
use Rattle.sp_base.specs.declared.id.NodeId.{NodeId}
use Rattle.sp_frame.specs.declared.refused.FrameRefused.{FrameRefused}
use Rattle.sp_msg.specs.Views.{signer_of}
use Rattle.sp_rules.specs.Arts.{Arts}
use Rattle.sp_runs.specs.Runs.{Clean, InRange, Turn, forged_in}
use Rattle.sp_runs.specs.Settings.{Setting, StaysUp, is_correct, is_node}
use Rattle.sp_runs.specs.Worlds.{World}
use Rattle.sp_journal.specs.declared.entry.Entry.{Entry}
use Rattle.sp_schedule_crafts.specs.Objects.{body_of}
use Rattle.sp_schedule_events.specs.declared.event.Event.{Event}
use Rattle.sp_schedule_events.specs.declared.event.Event.TheVariants as events
use Rattle.laws_runs.specs.Premises.{Carries}

-- a compromised node crafts a status, or an object whose signer by its own words is compromised, whatever key it is signed with
abbrev pub NamesNoCorrectNode : Setting → Event → Type 0
NamesNoCorrectNode x (events.Craft c v key object) = (is_correct x c ≡ false) × (is_correct x (signer_of (body_of object)) ≡ false)
NamesNoCorrectNode x (events.CraftStatus c v s d base have) = is_correct x c ≡ false
NamesNoCorrectNode x _ = ⊥

-- what is crafted is a message that the format has
abbrev pub IsGoodCraft : Arts → Event → Type 0
IsGoodCraft arts (events.Craft c v key object) = IsTrue (arts.is_good (body_of object))
IsGoodCraft arts _ = Unit {0}

-- signatures of every node's key have one length, and not only those of correct ones
abbrev pub AreLong : Arts → Setting → Type 0
AreLong arts x = (key : NodeId) → IsTrue (is_node x key) → (index : ℕ) (message : List ℕ)
    → length (arts.sign x.topology.height (x.seed key.0) index message) ≡ x.signature_len

-- the law that what is crafted in the names of compromised nodes forges nothing
abbrev pub OwnCraftsForgeNothing : Type 0
OwnCraftsForgeNothing = (arts : Arts) (x : Setting) (es : List Event) (js : List Entry) (w : World) → StaysUp arts x → Carries x.topology.format arts
    → AreLong arts x
    → Clean arts x es js w → (e : Event) (j : Entry) (new : World) → InRange x es e → IsGoodCraft arts e → NamesNoCorrectNode x e
    → (turn : Turn arts x w e j new)
    → forged_in arts x es js w e j new turn ≡ None

-- it is refused by its length, its name or its version
abbrev pub IsNoFrame : Arts → List ℕ → Type 0
IsNoFrame arts bytes = (refused : FrameRefused) × (arts.opened bytes ≡ Err refused)

-- from whosever address it comes
abbrev pub NoFrameIsForged : Type 0
NoFrameIsForged = (arts : Arts) (x : Setting) (es : List Event) (js : List Entry) (w new : World) (u v : NodeId) (bytes : List ℕ) (j : Entry)
    → IsNoFrame arts bytes → (turn : Turn arts x w (events.Inject u v bytes) j new) → forged_in arts x es js w (events.Inject u v bytes) j new turn ≡ None
