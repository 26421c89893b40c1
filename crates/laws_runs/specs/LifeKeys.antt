-- The one-time indexes that a node signs with over all its lives, and their boots.
use Rattle.std.specs.Prelude.{ℕ, ◌+◌, ◌<◌, ◌==◌, IsTrue, List, [], ◌∷◌, Option, None, Some, if◌then◌else◌}
use Rattle.std.specs.List.{AllPairs, flat_map}
use Rattle.sp_base.specs.declared.id.NodeId.{NodeId}
use Rattle.sp_rules.specs.Arts.{Arts}
use Rattle.sp_rules.specs.Node.{NodeState}
use Rattle.sp_runs.specs.Runs.{Clean}
use Rattle.sp_runs.specs.Settings.{Setting, SettingFits, is_correct}
use Rattle.sp_runs.specs.Told.{signed_by, told_at}
use Rattle.sp_runs.specs.Worlds.{World}
use Rattle.sp_journal.specs.declared.entry.Entry.{Entry}
use Rattle.sp_journal.specs.declared.entry.Reply.{Reply}
use Rattle.sp_journal.specs.declared.entry.Reply.TheVariants as replies
use Rattle.sp_schedule_events.specs.declared.event.Event.{Event}
use Rattle.sp_schedule_events.specs.declared.event.Event.TheVariants as events
use Rattle.laws_runs.specs.Past.{Happened, past}
use Rattle.laws_runs.specs.Premises.{Carries}

-- each message with the index that signed it, from this one on
abbrev pub indexed : ℕ → List (List ℕ) → List (ℕ × List ℕ)
indexed index [] = []
indexed index (message ∷ messages) = (index, message) ∷ indexed (index + 1) messages

-- the next index of the node that moved, or the one that a start told
abbrev pub index_at : Reply → Option NodeState → ℕ
index_at reply (Some n) = n.signer.index
index_at (replies.Started boot index) None = index
index_at _ None = 0

-- what u signed in a run, in all its lives, each with its index
abbrev pub signatures : List Happened → NodeId → List (ℕ × List ℕ)
signatures happened u = flat_map (λ h. indexed (index_at h.entry.reply h.mover) (told_at u signed_by (h.event, h.entry))) happened

-- a boot that u started with
abbrev pub boot_in : NodeId → Event → Reply → List ℕ
boot_in u (events.Start v) (replies.Started boot index) = if v.0 == u.0 then boot ∷ [] else []
boot_in u _ _ = []

-- the boots of a node, in order
abbrev pub boots : List Happened → NodeId → List ℕ
boots happened u = flat_map (λ h. boot_in u h.event h.entry.reply) happened

-- no index signs twice, whatever starts and stops are between, and no boot comes twice
pub record KeyClaims (u : NodeId) (happened : List Happened) : Type 0 where
  pub indexes : AllPairs (λ one two. one.0 < two.0) (signatures happened u)
  pub boots : AllPairs (λ one two. one < two) (boots happened u)

-- of each correct node in each run without forgery, with epochs or without
abbrev pub KeysRise : Type 0
KeysRise = (arts : Arts) (x : Setting) (es : List Event) (js : List Entry) (w : World) → SettingFits arts x → Carries x.topology.format arts
    → (run : Clean arts x es js w) → (u : NodeId) → IsTrue (is_correct x u) → KeyClaims u (past arts x es js w run)
