-- What every state of a run has: its correct nodes, and only what was signed.
use Rattle.std.specs.Prelude.{ℕ, ◌≡◌, ◌&&◌, ◌||◌, Bool, not, IsTrue, List, Ok, Some, slice_get, take}
use Rattle.std.specs.List.{All}
use Rattle.sp_base.specs.declared.id.NodeId.{NodeId}
use Rattle.sp_frame.specs.Sections.{Contents}
use Rattle.sp_msg.specs.Views.{signer_of}
use Rattle.sp_msg.specs.declared.kept.Kept.{Kept}
use Rattle.sp_rules.specs.Arts.{Arts}
use Rattle.sp_rules.specs.Node.{NodeState}
use Rattle.sp_rules.specs.Parts.{is_signed_by}
use Rattle.sp_rules.specs.Pieces.{pieces_of}
use Rattle.sp_topology.specs.Keys.{key_of}
use Rattle.laws_node.specs.Nodes.{KeepsOnly}
use Rattle.laws_node.specs.Objects.{objects_in}
use Rattle.sp_runs.specs.Forgery.{is_among}
use Rattle.sp_runs.specs.Runs.{Clean}
use Rattle.sp_runs.specs.Settings.{Setting, SettingFits, StaysUp, fixed_at, fixed_of, is_correct}
use Rattle.sp_runs.specs.Told.{signed}
use Rattle.sp_runs.specs.Worlds.{World, frames_in, node_in}
use Rattle.sp_journal.specs.declared.entry.Entry.{Entry}
use Rattle.sp_schedule_events.specs.declared.event.Event.{Event}
use Rattle.laws_runs.specs.Past.{past}
use Rattle.laws_runs.specs.Premises.{Carries}

-- ---- who is there

-- the nodes that have a state are the correct ones, each as the header made it
pub record NodeClaims (x : Setting) (w : World) : Type 0 where
  pub there : (u : NodeId) → IsTrue (is_correct x u) → (n : NodeState) × (node_in w.nodes u ≡ Some n)
  pub correct : (u : NodeId) (n : NodeState) → node_in w.nodes u ≡ Some n → IsTrue (is_correct x u) × (n.fixed ≡ fixed_of x u)

-- of each run without forgery and without epochs
abbrev pub CorrectNodesAreThere : Type 0
CorrectNodesAreThere = (arts : Arts) (x : Setting) (es : List Event) (js : List Entry) (w : World) → StaysUp arts x → Carries x.topology.format arts
    → Clean arts x es js w
    → NodeClaims x w

-- with epochs too, only correct nodes run, each as the header makes it for its boot
abbrev pub OnlyCorrectNodesRun : Type 0
OnlyCorrectNodesRun = (arts : Arts) (x : Setting) (es : List Event) (js : List Entry) (w : World) → SettingFits arts x → Carries x.topology.format arts
    → Clean arts x es js w
    → (u : NodeId) (n : NodeState) → node_in w.nodes u ≡ Some n → IsTrue (is_correct x u) × (n.fixed ≡ fixed_at x u n.fixed.boot)

-- ---- what is signed

-- the message bears its signer's valid signature
abbrev pub is_valid_in : Arts → Setting → Kept → Bool
is_valid_in arts x o = is_signed_by arts (key_of (signer_of o.body).0 x.topology.nodes) (arts.spell o.body) o.signature

-- and where its signer is correct, that node signed it in this run
abbrev pub is_known_in : Arts → Setting → List Event → List Entry → Kept → Bool
is_known_in arts x es js o = not (is_correct x (signer_of o.body)) || is_among (arts.spell o.body) (signed es js (signer_of o.body))

-- both
abbrev pub is_good_in : Arts → Setting → List Event → List Entry → Kept → Bool
is_good_in arts x es js o = is_valid_in arts x o && is_known_in arts x es js o

-- what correct nodes keep and send is what its signers signed
pub record SignClaims (arts : Arts) (x : Setting) (es : List Event) (js : List Entry) (w : World) : Type 0 where
  -- each message that a correct node keeps
  pub kept : (u : NodeId) (n : NodeState) → node_in w.nodes u ≡ Some n → KeepsOnly (is_good_in arts x es js) n
  -- and each object of a frame that one made
  pub sent : (u v : NodeId) (k : ℕ) (bytes : List ℕ) (s : Contents) → slice_get (frames_in w.directions u v) k ≡ Some (Some bytes)
      → arts.sections x.signature_len bytes ≡ Ok s → All (λ o. IsTrue (is_good_in arts x es js o)) (objects_in (pieces_of s))

-- the law that in a run without forgery what is kept was signed
abbrev pub WhatIsKeptWasSigned : Type 0
WhatIsKeptWasSigned = (arts : Arts) (x : Setting) (es : List Event) (js : List Entry) (w : World) → SettingFits arts x → Carries x.topology.format arts
    → Clean arts x es js w
    → SignClaims arts x es js w

-- ---- beginnings

-- the first events of a run without forgery, so many of them, are one: so what is claimed of a run holds after each of its events
abbrev pub BeginningsAreClean : Type 0
BeginningsAreClean = (arts : Arts) (x : Setting) (es : List Event) (js : List Entry) (w : World) → Clean arts x es js w
    → (n : ℕ) → (v : World) × Clean arts x (take n es) (take n js) v

-- ---- one world

-- the events of a run and their journal lead to one world, though the paths of a message are chosen freely among the cheapest ones
abbrev pub RunsAreDetermined : Type 0
RunsAreDetermined = (arts : Arts) (x : Setting) (es : List Event) (js : List Entry) (w v : World) → SettingFits arts x → Carries x.topology.format arts
    → Clean arts x es js w → Clean arts x es js v → w ≡ v

-- and in the same states of the nodes that moved. So what is claimed of the past of a run is claimed of its events and their journal
abbrev pub PastIsDetermined : Type 0
PastIsDetermined = (arts : Arts) (x : Setting) (es : List Event) (js : List Entry) (w v : World) → SettingFits arts x → Carries x.topology.format arts
    → (one : Clean arts x es js w) (two : Clean arts x es js v) → past arts x es js w one ≡ past arts x es js v two
