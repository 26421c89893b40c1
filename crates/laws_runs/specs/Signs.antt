-- The part on signed objects: what correct nodes keep and send bears valid signatures, and a correct signer made it in this run.
use Rattle.std.specs.Prelude.{ℕ, ◌≡◌, ◌≤◌, true, false, IsTrue, List, [], ◌∷◌, ◌++◌, length, None, Ok, Some, slice_get, IfSome}
use Rattle.sp_base.specs.Spelling.{AreBytes}
use Rattle.sp_base.specs.declared.id.NodeId.{NodeId}
use Rattle.sp_frame.specs.Sections.{Contents}
use Rattle.sp_msg.specs.Views.{signer_of}
use Rattle.sp_msg.specs.declared.kept.Kept.{Kept}
use Rattle.sp_topology.specs.Keys.{key_of}
use Rattle.sp_rules.specs.Rel.{is_over}
use Rattle.sp_rules.specs.Arts.{Arts}
use Rattle.sp_rules.specs.Node.{NodeState}
use Rattle.sp_rules.specs.Parts.{flows_of, is_signed_by, nodes_of}
use Rattle.sp_rules.specs.declared.kflow.FlowKind.{FlowKind}
use Rattle.laws_node.specs.Withdrawals.{Obeys}
use Rattle.laws_node.specs.Nodes.{NodeHolds}
use Rattle.laws_node.specs.Shapes.{shape_at_start, shape_of}
use Rattle.laws_node.specs.Sizes.{Sizes}
use Rattle.sp_rules.specs.Pieces.{pieces_of}
use Rattle.sp_runs.specs.Forgery.{is_among, lists_in}
use Rattle.sp_runs.specs.Settings.{Setting, SettingFits, fixed_at, is_correct, link_keys, signer_from}
use Rattle.sp_runs.specs.Told.{signed}
use Rattle.sp_runs.specs.Worlds.{World, at_start, frames_in, node_in}
use Rattle.sp_journal.specs.declared.entry.Entry.{Entry}
use Rattle.sp_schedule_events.specs.Documents.{published}
use Rattle.sp_schedule_events.specs.declared.event.Event.{Event}
use Rattle.laws_runs.specs.Premises.{Carries, IsOfBytes}
use Rattle.laws_runs.specs.KeyFiles.{KeysStand}
use Rattle.laws_runs.specs.Dated.{AreDated}
use Rattle.laws_runs.specs.Unborn.{Unborn}
use Rattle.laws_runs.specs.Versions.{Brings, ListsStand, RunsUnder}
use Rattle.std.specs.List.{All}
use Rattle.laws_node.specs.Objects.{objects_in}
use Rattle.sp_rules.specs.Flow.{FlowState, number_said, ends}
use Rattle.sp_runs.specs.Runs.{InRange, Turn, forged_in}

-- ---- signed objects

-- its signer signed it, where that node is correct
abbrev pub Known : Arts → Setting → List Event → List Entry → Kept → Type 0
Known arts x es js o = IsTrue (is_correct x (signer_of o.body)) → is_among (arts.spell o.body) (signed es js (signer_of o.body)) ≡ true

-- and it bears its signer's valid signature, is of bytes, and is good
pub record Good (arts : Arts) (x : Setting) (es : List Event) (js : List Entry) (o : Kept) : Type 0 where
  pub known : Known arts x es js o
  pub right : IsTrue (is_signed_by arts (key_of (signer_of o.body).0 x.topology.nodes) (arts.spell o.body) o.signature)
  pub bytes : IsOfBytes o
  pub good : IsTrue (arts.is_good o.body)

-- the sizes of a node of this setting
abbrev pub sizes_at : Setting → (Kept → Type 0) → NodeId → Sizes
sizes_at x P u = record {
  me = u;
  format = x.topology.format;
  nodes = nodes_of x.topology;
  edges = x.topology.edges;
  signature_len = x.signature_len;
  buffer = x.buffer;
  store = x.store;
  keeps = P;
}

-- the flow's kept acknowledgement has this number
pub record Numbered (f : FlowState) : Type 0 where
  pub ack : Kept
  pub kept : f.ack ≡ Some ack
  pub number : number_said ack.body ≡ f.at.base

-- Where something counts as acknowledged, the acknowledgement of exactly that number is kept. These nodes are removed
pub record FlowAck (removed : List NodeId) (f : FlowState) : Type 0 where
  pub sound : f.at.base ≤ f.at.have
  pub ack : 1 ≤ f.at.base → Numbered f
  -- no more waits for clients than came, unless the flow has ended
  pub inbox : is_over removed (ends f) ≡ false → length f.inbox ≤ f.at.have

-- a node that started before the first event
pub record IsPlainNode (x : Setting) (n : NodeState) : Type 0 where
  pub first : n.fixed.boot ≡ 1
  pub whole : n.signer.bound ≡ x.total
  pub unborn : Unborn n.parts

-- a node of this setting, within its bounds, which keeps messages that are asked this alone
pub record NodeIs (x : Setting) (P : Kept → Type 0) (u : NodeId) (n : NodeState) : Type 0 where
  pub correct : IsTrue (is_correct x u)
  pub fixed : n.fixed ≡ fixed_at x u n.fixed.boot
  pub seed : n.signer.seed ≡ x.seed u.0
  pub total : n.signer.total ≡ x.total
  -- with its rows and bounds as at its start
  pub shape : shape_of n ≡ shape_at_start (fixed_at x u n.fixed.boot) (signer_from x u 0 n.signer.bound) (link_keys x u) x.buffer x.store
  pub holds : NodeHolds (sizes_at x P u) n
  pub acks : (kind : FlowKind) → All (FlowAck (flows_of kind n.parts).removed) (flows_of kind n.parts).flows
  -- its parts know of its topology what it is now
  pub obeys : Obeys n
  -- what it keeps of a flow names the boots that it holds of both ends
  pub dated : AreDated n.parts
  -- without epochs it is in its first life, has all indexes of its key, and knows of no start
  pub plain : x.epochs ≡ false → IsPlainNode x n

-- all that nodes keep, and all that their frames carry, is good, and their frames are bytes; and each version that they run under was handed out
pub record Signs (arts : Arts) (x : Setting) (es : List Event) (js : List Entry) (w : World) : Type 0 where
  pub entries : length es ≡ length js
  pub nodes : (u : NodeId) (n : NodeState) → node_in w.nodes u ≡ Some n → NodeIs x (Good arts x es js) u n
  pub frames : (u v : NodeId) (k : ℕ) (bytes : List ℕ) (s : Contents) → slice_get (frames_in w.directions u v) k ≡ Some (Some bytes)
      → arts.sections x.signature_len bytes ≡ Ok s → All (Good arts x es js) (objects_in (pieces_of s))
  pub bytes : (u v : NodeId) (k : ℕ) (bytes : List ℕ) → slice_get (frames_in w.directions u v) k ≡ Some (Some bytes) → AreBytes bytes
  -- a document that a frame has was handed out
  pub documents : (u v : NodeId) (k : ℕ) (bytes : List ℕ) (s : Contents) → slice_get (frames_in w.directions u v) k ≡ Some (Some bytes)
      → arts.sections x.signature_len bytes ≡ Ok s → IfSome s.document (Brings arts x es)
  pub live : (u : NodeId) (n : NodeState) → node_in w.nodes u ≡ Some n → RunsUnder arts x es n.live
  pub published : w.published ≡ published es
  pub lists : ListsStand x (lists_in es)

-- ---- the laws: it holds at the start, and each turn of which nothing is forged keeps it

-- the law that the claims of signed objects hold at the start
abbrev pub SignsBegin : Type 0
SignsBegin = (arts : Arts) (x : Setting) → SettingFits arts x → Signs arts x [] [] (at_start x)

-- the law that each turn keeps the claims of signed objects
abbrev pub TurnsKeepSigns : Type 0
TurnsKeepSigns = (arts : Arts) (x : Setting) (es : List Event) (js : List Entry) (old : World) (e : Event) (j : Entry) (new : World)
    → SettingFits arts x → Carries x.topology.format arts
    → KeysStand x es old → Signs arts x es js old → InRange x es e → (turn : Turn arts x old e j new) → forged_in arts x es js old e j new turn ≡ None
    → Signs arts x (es ++ e ∷ []) (js ++ j ∷ []) new
