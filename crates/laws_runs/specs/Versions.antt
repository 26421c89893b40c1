-- The versions of the topology over a run: no correct node runs under one that the administrator didn't hand out, whatever compromised nodes bring; each holds
-- its document; and of two correct nodes the one with the lower version can take the document of the other.
use Rattle.std.specs.Prelude.{ℕ, ◌≡◌, ◌<◌, ◌≤◌, ◌⊎◌, true, false, IsTrue, IfSome, List, ◌++◌, length, None, Ok, Some, max, slice_get}
use Rattle.std.specs.List.{All}
use Rattle.sp_base.specs.declared.id.NodeId.{NodeId}
use Rattle.sp_frame.specs.Sections.{Contents}
use Rattle.sp_journal.specs.declared.entry.Entry.{Entry}
use Rattle.sp_rules.specs.Arrivals.{after_datagram, link_says}
use Rattle.sp_rules.specs.Arts.{Arts, Document}
use Rattle.sp_rules.specs.Node.{NodeState, call_refusal, link_in, topology_now, version_of}
use Rattle.sp_rules.specs.Polls.{frame_to}
use Rattle.sp_rules.specs.Topologies.{succeeds, under, weights_in}
use Rattle.sp_rules.specs.Versions.{Live}
use Rattle.sp_rules.specs.declared.link.LinkAnswer.TheVariants as answers
use Rattle.sp_runs.specs.Forgery.{is_published}
use Rattle.sp_runs.specs.Runs.{AreWeights, Clean}
use Rattle.sp_runs.specs.Settings as settings
use Rattle.sp_runs.specs.Settings.{Setting, SettingFits, may_change}
use Rattle.sp_runs.specs.Worlds.{World, frames_in, node_in}
use Rattle.sp_schedule_events.specs.Documents.{comes_back}
use Rattle.sp_schedule_events.specs.declared.event.Event.{Event}
use Rattle.laws_runs.specs.Premises.{Carries}

-- ---- what was handed out

-- the version and the weights are those of the setting, or the administrator handed them out
abbrev pub IsPublished : Setting → List Event → (version : ℕ) → (weights : List ℕ) → Type 0
IsPublished x es version weights =
    ((version ≡ x.topology.version) × (weights ≡ weights_in x.topology.edges)) ⊎ IsTrue (is_published es version weights)

-- no node that the first weights remove comes back by the others
abbrev pub NoneReturns : Setting → (old new : List ℕ) → Type 0
NoneReturns x old new = (u : ℕ) → comes_back (under x.topology.edges old) (under x.topology.edges new) u ≡ false

-- The lists that were published are in their ranges, the administrator has an index for each version, and by no later list a node comes back
pub record ListsStand (x : Setting) (lists : List (List ℕ)) : Type 0 where
  pub weights : All (AreWeights x) lists
  pub few : length lists < x.admin_total
  pub may : 1 ≤ length lists → may_change x ≡ true
  pub chain : (i k : ℕ) (old new : List ℕ) → i < k → slice_get lists i ≡ Some old → slice_get lists k ≡ Some new → NoneReturns x old new

-- ---- what a node runs under

-- these bytes are read as the document of the version with these weights, and the administrator signed it
pub record IsHeld (arts : Arts) (x : Setting) (live : Live) : Type 0 where
  pub document : Document
  pub reads : arts.read_document live.document ≡ Some document
  pub signed : IsTrue (arts.valid x.admin document.message document.signature)
  pub topology : document.topology ≡ settings.version_of x live.version live.weights

-- it was handed out, and where topologies may change, it has its document
pub record RunsUnder (arts : Arts) (x : Setting) (es : List Event) (live : Live) : Type 0 where
  pub published : IsPublished x es live.version live.weights
  pub held : may_change x ≡ true → IsHeld arts x live

-- ---- what frames carry

-- topologies may change, and these bytes are a document of a version that was handed out
pub record Brings (arts : Arts) (x : Setting) (es : List Event) (bytes : List ℕ) : Type 0 where
  pub may : may_change x ≡ true
  pub document : Document
  pub reads : arts.read_document bytes ≡ Some document
  pub published : IsPublished x es document.topology.version (weights_in document.topology.edges)

-- ---- the laws

-- at each correct node
abbrev pub VersionsArePublished : Type 0
VersionsArePublished = (arts : Arts) (x : Setting) (es : List Event) (js : List Entry) (w : World) → SettingFits arts x → Carries x.topology.format arts
    → Clean arts x es js w
    → (u : NodeId) (n : NodeState) → node_in w.nodes u ≡ Some n → IsPublished x es n.live.version n.live.weights

-- at each correct node, where topologies may change: so what it offers to a neighbour, that one can take
abbrev pub DocumentsAreHeld : Type 0
DocumentsAreHeld = (arts : Arts) (x : Setting) (es : List Event) (js : List Entry) (w : World) → SettingFits arts x → Carries x.topology.format arts
    → may_change x ≡ true → Clean arts x es js w
    → (u : NodeId) (n : NodeState) → node_in w.nodes u ≡ Some n → IsHeld arts x n.live

-- a frame of a correct node has no document, or one that was handed out
abbrev pub FramesBringPublished : Type 0
FramesBringPublished = (arts : Arts) (x : Setting) (es : List Event) (js : List Entry) (w : World) → SettingFits arts x → Carries x.topology.format arts
    → Clean arts x es js w
    → (u v : NodeId) (place : ℕ) (bytes : List ℕ) (s : Contents) → slice_get (frames_in w.directions u v) place ≡ Some (Some bytes)
    → arts.sections x.signature_len bytes ≡ Ok s → IfSome s.document (Brings arts x es)

-- Of two correct nodes, the topology of the one with the higher version follows that of the other, however many versions lie between: a node that missed some,
-- or that started anew, takes the last.
abbrev pub LaterVersionsFollow : Type 0
LaterVersionsFollow = (arts : Arts) (x : Setting) (es : List Event) (js : List Entry) (w : World) → SettingFits arts x → Carries x.topology.format arts
    → Clean arts x es js w
    → (u v : NodeId) (n m : NodeState) → node_in w.nodes u ≡ Some n → node_in w.nodes v ≡ Some m → n.live.version < m.live.version
    → IsTrue (succeeds (topology_now n) (topology_now m))

-- u knows that v runs under an older version. The frame that it makes for v then may come to v after any other events, over a withdrawn edge too: where it
-- comes through and is fresh, v runs under the greater version of both.
abbrev pub DocumentsSpread : Type 0
DocumentsSpread = (arts : Arts) (x : Setting) (es : List Event) (js : List Entry) (w : World) (more : List Event) (ks : List Entry) (y : World)
    → SettingFits arts x → Carries x.topology.format arts → may_change x ≡ true
    → Clean arts x es js w → Clean arts x (es ++ more) (js ++ ks) y
    → (u v : NodeId) (n m : NodeState) → node_in w.nodes u ≡ Some n → node_in y.nodes v ≡ Some m
    → 1 ≤ version_of n v → version_of n v < n.live.version
    → call_refusal m u ≡ None → arts.opened (frame_to arts n v) ≡ Ok (frame_to arts n v) → IsTrue (arts.is_document (frame_to arts n v))
    → link_says arts (link_in m u) (frame_to arts n v) ≡ answers.Fresh
    → (after_datagram arts m u (frame_to arts n v)).live.version ≡ max m.live.version n.live.version
