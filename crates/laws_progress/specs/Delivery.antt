-- Counted delivery of flows of either kind: what a source accepted is delivered, and its acknowledgement is back, after so many complete rounds of a path that
-- it may go. All other events are free: whatever compromised nodes send, and whatever the network loses, repeats and reorders. Nothing is said of time, nor
-- that rounds happen.
use Rattle.std.specs.Prelude.{ℕ, ◌≡◌, ◌+◌, ◌<◌, ◌≤◌, false, List, ◌++◌, length, Some}
use Rattle.sp_base.specs.declared.id.NodeId.{NodeId}
use Rattle.sp_rules.specs.Arts.{Arts}
use Rattle.sp_rules.specs.Flow.{FlowState, is_full}
use Rattle.sp_rules.specs.Node.{NodeState}
use Rattle.sp_rules.specs.declared.kflow.FlowKind.{FlowKind}
use Rattle.sp_runs.specs.Paths.{hops}
use Rattle.sp_runs.specs.Rounds.{CompleteRounds, flow_count}
use Rattle.sp_runs.specs.Runs.{Clean}
use Rattle.sp_runs.specs.Settings.{Setting, StaysUp}
use Rattle.sp_runs.specs.Told.{Message, delivered, sent}
use Rattle.sp_runs.specs.Worlds.{World, node_in}
use Rattle.sp_journal.specs.declared.entry.Entry.{Entry}
use Rattle.sp_schedule_events.specs.declared.event.Event.{Event}
use Rattle.laws_progress.specs.Within.{IsPathUnder, MayGo, StaysUnder}
use Rattle.laws_runs.specs.Acknowledged.{acknowledged}
use Rattle.laws_runs.specs.Flows.{IsIn, flow_at}
use Rattle.laws_runs.specs.Premises.{ComesThrough}

-- the message of this number was sent, and is delivered with the payload that it was sent with
pub record IsDelivered (S D : List Message) (q : ℕ) : Type 0 where
  pub payload : List ℕ
  pub sent : IsIn S q payload
  pub delivered : IsIn D q payload

-- what was acknowledged counts so at the source, and there is room for as many messages more as a flow may have
pub record HasReturned (buffer a : ℕ) (f : FlowState) : Type 0 where
  pub base : a ≤ f.at.base
  pub room : f.at.have < a + buffer → is_full buffer f ≡ false

-- ---- the promises, of runs with these arts in this setting

-- Of the messages that s accepted for d by the end of some events, each that is at most b above the source's base then is delivered after hops + b + 1 complete
-- rounds of a path of a version that they may go, if its nodes run under that version meanwhile.
abbrev pub DeliversInRounds : Arts → Setting → Type 0
DeliversInRounds arts x = (kind : FlowKind)
    -- a run without forgery, and how it went on
    → (es : List Event) (js : List Entry) (w : World) (after : List Event) (more : List Entry) (v : World)
    → Clean arts x es js w → Clean arts x (es ++ after) (js ++ more) v
    → (version : ℕ) (weights : List ℕ) (s d : NodeId) (path : List NodeId) → IsPathUnder x weights s d path → StaysUnder version weights path w v
    → (n : NodeState) → node_in w.nodes s ≡ Some n → MayGo kind x n d path
    → (q b : ℕ) → 1 ≤ q → q ≤ length (sent kind es js s d) → q ≤ (flow_at kind n s d).at.base + b
    -- a sweep has at least as many polls as flows may wait
    → (least : ℕ) → flow_count kind x (es ++ after) ≤ least → CompleteRounds kind least s d path (hops path + b + 1) es after
    → IsDelivered (sent kind es js s d) (delivered kind (es ++ after) (js ++ more) s d) q

-- What d acknowledged to s by the end of some events has returned to s after hops + 1 complete rounds.
abbrev pub ReturnsInRounds : Arts → Setting → Type 0
ReturnsInRounds arts x = (kind : FlowKind)
    → (es : List Event) (js : List Entry) (w : World) (after : List Event) (more : List Entry) (v : World)
    → Clean arts x es js w → Clean arts x (es ++ after) (js ++ more) v
    → (version : ℕ) (weights : List ℕ) (s d : NodeId) (path : List NodeId) → IsPathUnder x weights s d path → StaysUnder version weights path w v
    → (n : NodeState) → node_in v.nodes s ≡ Some n
    → (least : ℕ) → flow_count kind x (es ++ after) ≤ least → CompleteRounds kind least s d path (hops path + 1) es after
    → HasReturned x.buffer (acknowledged kind arts es js s d) (flow_at kind n s d)

-- ---- the laws, of any arts by which frames come through, and of settings without epochs

-- the law that what a source accepted is delivered after so many complete rounds
abbrev pub CountedDelivery : Type 0
CountedDelivery = (arts : Arts) (x : Setting) → StaysUp arts x → ComesThrough x.topology.format arts x.signature_len → 1 ≤ x.buffer
    → DeliversInRounds arts x

-- the law that what a destination acknowledged has returned after so many complete rounds
abbrev pub CountedReturn : Type 0
CountedReturn = (arts : Arts) (x : Setting) → StaysUp arts x → ComesThrough x.topology.format arts x.signature_len → 1 ≤ x.buffer → ReturnsInRounds arts x
