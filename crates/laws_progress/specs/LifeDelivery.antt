-- Counted delivery of flows of either kind where nodes start and stop. While a path is calm, messages of the present lives of its ends that may go along it are
-- delivered after as many rounds as in a run in which all nodes stay up; and after so many rounds that tell starts it is calm. All other nodes may start and
-- stop, and all other events are free.
use Rattle.std.specs.Prelude.{ℕ, ◌≡◌, ◌+◌, ◌≤◌, true, List, ◌++◌, length, Some}
use Rattle.std.specs.List.{All}
use Rattle.sp_base.specs.declared.id.NodeId.{NodeId}
use Rattle.sp_rules.specs.Arts.{Arts}
use Rattle.sp_rules.specs.Node.{NodeState}
use Rattle.sp_rules.specs.declared.kflow.FlowKind.{FlowKind}
use Rattle.sp_runs.specs.Paths.{IsCorrectPath, hops}
use Rattle.sp_runs.specs.Rounds.{CompleteRounds, flow_count}
use Rattle.sp_runs.specs.Runs.{Clean}
use Rattle.sp_runs.specs.Settings.{Setting, SettingFits}
use Rattle.sp_runs.specs.Worlds.{World, node_in}
use Rattle.sp_journal.specs.declared.entry.Entry.{Entry}
use Rattle.sp_schedule_events.specs.declared.event.Event.{Event}
use Rattle.laws_progress.specs.Calm.{IsCalm, KnowEachOther, StaysUpIn}
use Rattle.laws_progress.specs.Delivery.{HasReturned, IsDelivered}
use Rattle.laws_progress.specs.Telling.{TellingRounds}
use Rattle.laws_progress.specs.Within.{IsPathUnder, MayGo, StaysUnder}
use Rattle.laws_runs.specs.Flows.{flow_at}
use Rattle.laws_runs.specs.LifeFlows.{acknowledged_under}
use Rattle.laws_runs.specs.Past.{delivered_under, past, sent_under}
use Rattle.laws_runs.specs.Premises.{ComesThrough}

-- Of the messages that s accepted for d under the boots of both by the beginning of a calm interval, each that is at most k above the source's base then is
-- delivered under these boots after hops + k + 1 complete rounds.
abbrev pub DeliversInLives : Arts → Setting → Type 0
DeliversInLives arts x = (kind : FlowKind)
    -- a run without forgery, and how it went on
    → (es : List Event) (js : List Entry) (w : World) (after : List Event) (more : List Entry) (v : World)
    → (run : Clean arts x es js w) → (longer : Clean arts x (es ++ after) (js ++ more) v)
    → (version : ℕ) (weights : List ℕ) (s d : NodeId) (path : List NodeId) → IsPathUnder x weights s d path → StaysUnder version weights path w v
    → (a b : ℕ) → IsCalm w after s a d b path
    → (n : NodeState) → node_in w.nodes s ≡ Some n → MayGo kind x n d path
    → (q k : ℕ) → 1 ≤ q → q ≤ length (sent_under kind (past arts x es js w run) s a d b) → q ≤ (flow_at kind n s d).at.base + k
    -- a sweep has at least as many polls as flows may wait
    → (least : ℕ) → flow_count kind x (es ++ after) ≤ least → CompleteRounds kind least s d path (hops path + k + 1) es after
    → IsDelivered (sent_under kind (past arts x es js w run) s a d b) (delivered_under kind (past arts x (es ++ after) (js ++ more) v longer) s a d b) q

-- What d acknowledged to s under the boots of both by the beginning of a calm interval has returned to s after hops + 1 complete rounds.
abbrev pub ReturnsInLives : Arts → Setting → Type 0
ReturnsInLives arts x = (kind : FlowKind)
    → (es : List Event) (js : List Entry) (w : World) (after : List Event) (more : List Entry) (v : World)
    → Clean arts x es js w → Clean arts x (es ++ after) (js ++ more) v
    → (version : ℕ) (weights : List ℕ) (s d : NodeId) (path : List NodeId) → IsPathUnder x weights s d path → StaysUnder version weights path w v
    → (a b : ℕ) → IsCalm w after s a d b path
    → (n : NodeState) → node_in v.nodes s ≡ Some n
    → (least : ℕ) → flow_count kind x (es ++ after) ≤ least → CompleteRounds kind least s d path (hops path + 1) es after
    → HasReturned x.buffer (acknowledged_under kind arts es js s a d b) (flow_at kind n s d)

-- While the nodes of a path stay up, each holds the boot of each other's life after hops + 1 rounds that tell starts, whatever they held before.
abbrev pub StartsAreTold : Arts → Setting → Type 0
StartsAreTold arts x =
    (es : List Event) (js : List Entry) (w : World) (after : List Event) (more : List Entry) (v : World)
    → Clean arts x es js w → Clean arts x (es ++ after) (js ++ more) v
    → (version : ℕ) (weights : List ℕ) (s d : NodeId) (path : List NodeId) → IsPathUnder x weights s d path → StaysUnder version weights path w v
    → All (StaysUpIn w after) path
    -- a sweep has at least as many polls as there are nodes
    → (least : ℕ) → length x.topology.nodes ≤ least → TellingRounds least path (hops path + 1) es after
    → KnowEachOther v path

-- ---- the laws, of any arts by which frames come through, with epochs or without

-- the law of counted delivery where nodes start and stop
abbrev pub CountedDeliveryInLives : Type 0
CountedDeliveryInLives = (arts : Arts) (x : Setting) → SettingFits arts x → ComesThrough x.topology.format arts x.signature_len → 1 ≤ x.buffer
    → DeliversInLives arts x

-- the law of counted acknowledgement where nodes start and stop
abbrev pub CountedReturnInLives : Type 0
CountedReturnInLives = (arts : Arts) (x : Setting) → SettingFits arts x → ComesThrough x.topology.format arts x.signature_len → 1 ≤ x.buffer
    → ReturnsInLives arts x

-- with epochs, since without them no start is told
abbrev pub CountedStarts : Type 0
CountedStarts = (arts : Arts) (x : Setting) → SettingFits arts x → ComesThrough x.topology.format arts x.signature_len → x.epochs ≡ true
    → StartsAreTold arts x

-- What told starts are for: a path whose nodes know each other's lives is calm under the boots of its ends for as long as they stay up. So the rounds of both
-- promises together are those from any beginning to a delivery.
abbrev pub ToldPathsAreCalm : Type 0
ToldPathsAreCalm = (arts : Arts) (x : Setting) → SettingFits arts x → ComesThrough x.topology.format arts x.signature_len → x.epochs ≡ true
    → (es : List Event) (js : List Entry) (w : World) (after : List Event) (more : List Entry) (v : World)
    → Clean arts x es js w → Clean arts x (es ++ after) (js ++ more) v
    → (later : List Event) (s d : NodeId) (path : List NodeId) → IsCorrectPath x s d path → All (StaysUpIn w (after ++ later)) path → KnowEachOther v path
    → (n m : NodeState) → node_in v.nodes s ≡ Some n → node_in v.nodes d ≡ Some m
    → IsCalm v later s n.fixed.boot d m.fixed.boot path
