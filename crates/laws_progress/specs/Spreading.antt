-- The way of a document through the overlay, counted in rounds: while the nodes of a path stay up, a version under which one of them runs comes to all of
-- them, over edges that a version withdraws too.
use Rattle.std.specs.Prelude.{ℕ, ◌≡◌, ◌+◌, ◌<◌, ◌≤◌, true, IsTrue, List, ◌++◌, get_or, length, Some}
use Rattle.std.specs.List.{All}
use Rattle.sp_base.specs.declared.id.NodeId.{NodeId}
use Rattle.sp_frame.specs.Ranges.{IsContentsIn, IsHead}
use Rattle.sp_frame.specs.Sections.{with_document}
use Rattle.sp_frame.specs.declared.head.Head.{Head}
use Rattle.sp_rules.specs.Arts.{Arts}
use Rattle.sp_rules.specs.Node.{NodeState}
use Rattle.sp_runs.specs.Forgery.{lists_in}
use Rattle.sp_runs.specs.Paths.{IsCorrectPath, hops}
use Rattle.sp_runs.specs.Runs.{Clean}
use Rattle.sp_runs.specs.Settings.{Setting, SettingFits, may_change}
use Rattle.sp_runs.specs.Worlds.{World, node_in}
use Rattle.sp_journal.specs.declared.entry.Entry.{Entry}
use Rattle.sp_schedule_events.specs.declared.event.Event.{Event}
use Rattle.laws_node.specs.Nodes.{FitsAFrame}
use Rattle.laws_progress.specs.Calm.{StaysUpIn}
use Rattle.laws_progress.specs.Telling.{TellingRounds}
use Rattle.laws_progress.specs.Within.{RunsUnder}
use Rattle.laws_runs.specs.Premises.{Carries, ComesThrough, written}

-- Beside what is asked of each frame: at the other end of its edge one with a document that has room in a frame begins as a frame with a document does.
abbrev pub DocumentsBegin : (format : ℕ) (arts : Arts) (len : ℕ) → Type 0
DocumentsBegin format arts len =
    (h : Head) (document key : List ℕ) → IsHead h → h.format ≡ format → IsContentsIn format len (with_document document) → FitsAFrame document
    → IsTrue (arts.is_document (written arts h (with_document document) key))

-- each of these nodes that runs in the second world runs there under at least the version of each of them in the first
abbrev pub HaveSpread : (w v : World) → List NodeId → Type 0
HaveSpread w v path =
    All (λ u. All (λ o. (n m : NodeState) → node_in w.nodes o ≡ Some n → node_in v.nodes u ≡ Some m → n.live.version ≤ m.live.version) path) path

-- While the nodes of a path stay up, each runs after hops + 1 rounds under at least the version of each of them before. Of frames one each way over each hop is
-- enough in a round. The path is one of the first version, in which no edge is withdrawn, so later ones may withdraw its edges. In the first round the ends
-- of each hop come to know each other's boot and version; in each round after it a node gives its document to a neighbour that runs under an older one.
abbrev pub SpreadsInRounds : Arts → Setting → Type 0
SpreadsInRounds arts x =
    (es : List Event) (js : List Entry) (w : World) (after : List Event) (more : List Entry) (v : World)
    → Clean arts x es js w → Clean arts x (es ++ after) (js ++ more) v
    → (s d : NodeId) (path : List NodeId) → IsCorrectPath x s d path → All (StaysUpIn w after) path
    → (least : ℕ) → 1 ≤ least → TellingRounds least path (hops path + 1) es after
    → HaveSpread w v path

-- of any arts by which frames come through and documents begin, with epochs or without
abbrev pub VersionsSpreadInRounds : Type 0
VersionsSpreadInRounds = (arts : Arts) (x : Setting) → SettingFits arts x → ComesThrough x.topology.format arts x.signature_len
    → DocumentsBegin x.topology.format arts x.signature_len → may_change x ≡ true
    → SpreadsInRounds arts x

-- What the way of a document is for: after the last publication a version that has spread over a path is that of the path. Where a node of it ran under the
-- last version, each of them runs under it at the end, with its weights. So from a publication the rounds are counted until a path runs under the version, and
-- from there those of a delivery within it.
abbrev pub SpreadPathsRunUnder : Type 0
SpreadPathsRunUnder = (arts : Arts) (x : Setting) → SettingFits arts x → Carries x.topology.format arts
    → (es : List Event) (js : List Entry) (w : World) (after : List Event) (more : List Entry) (v : World)
    → Clean arts x es js w → Clean arts x (es ++ after) (js ++ more) v
    → (path : List NodeId) → HaveSpread w v path
    -- the node at this place runs under the last version
    → (i : ℕ) (none : NodeId) → i < length path → (n : NodeState) → node_in w.nodes (get_or path i none) ≡ Some n
    → length (lists_in (es ++ after)) < n.live.version
    → All (RunsUnder n.live.version n.live.weights v) path
