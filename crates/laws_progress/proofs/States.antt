-- The states of a run, and what is seen of a flow there.
use Rattle.std.proofs.Common.{sym}
use Rattle.std.proofs.lemmas.List.{append-nil}
use Rattle.std.specs.Prelude.{ℕ, zero, suc, ◌≡◌, ◌≤◌, ◌+◌, ◌-◌, ◌==◌, ◌&&◌, ◌||◌, Bool, true, false, not, IsTrue, List, [], ◌∷◌, ◌++◌, length, map, slice_get}
use Rattle.std.specs.Prelude.{Option, Some, None, if◌then◌else◌}
use Rattle.sp_base.specs.declared.id.Flow.{Flow}
use Rattle.sp_base.specs.declared.id.NodeId.{NodeId}
use Rattle.sp_rules.specs.Arts.{Arts}
use Rattle.sp_rules.specs.Flow.{FlowState, no_flow}
use Rattle.sp_rules.specs.Node.{NodeState, link_in}
use Rattle.laws_progress.proofs.Versions.{has_heard}
use Rattle.sp_rules.specs.Topologies.{is_shut}
use Rattle.sp_topology.specs.Neighbours.{joins}
use Rattle.std.specs.List.{position_or_len}
use Rattle.laws_node.specs.Withdrawals.{removed_now}
use Rattle.sp_rules.specs.Rel.{View, flow_in, is_one_of, no_view, peer_in, view_in}
use Rattle.sp_runs.specs.Runs.{Clean, InRange, Turn, forged_in, is_hop, polls}
use Rattle.sp_runs.specs.Settings.{Setting, is_correct}
use Rattle.sp_runs.specs.Worlds.{World, frames_in, node_in}
use Rattle.sp_journal.specs.declared.entry.Entry.{Entry}
use Rattle.sp_schedule_events.specs.declared.event.Event.{Event}
use Rattle.laws_runs.specs.Past.{holds}
use Rattle.laws_progress.proofs.Facts.{Sight}
use Rattle.laws_progress.proofs.LastBoots.{last_boot}
use Rattle.sp_rules.specs.Parts.{flows_of}
use Rattle.sp_rules.specs.declared.kflow.FlowKind.{FlowKind}

-- ---- the states of a run

-- a state of a clean run whose events are the beginning of all
pub record State (arts : Arts) (x : Setting) (all : List Event) : Type 0 where
  pub events : List Event
  pub journal : List Entry
  pub world : World
  pub run : Clean arts x events journal world
  pub rest : List Event
  pub whole : all ≡ events ++ rest

-- the state at the end of a run
abbrev pub last_state : (arts : Arts) (x : Setting) (es : List Event) (js : List Entry) (w : World) → Clean arts x es js w → State arts x es
last_state arts x es js w run = record { events = es; journal = js; world = w; run = run; rest = []; whole = sym (append-nil es) }

-- one more event leads from one to the next
pub data Follows (arts : Arts) (x : Setting) (all : List Event) (w : State arts x all) (e : Event) (y : State arts x all) : Type 0 where
  Follow : (j : Entry) → y.events ≡ w.events ++ e ∷ [] → y.journal ≡ w.journal ++ j ∷ [] → InRange x w.events e
      → (turn : Turn arts x w.world e j y.world) → forged_in arts x w.events w.journal w.world e j y.world turn ≡ None → Follows arts x all w e y

-- ---- an era: lives of nodes, and a pair of boots of the flow's ends

-- flows of which kind are looked at, whom is watched, in which life, in which version with which weights, which boots of the flow's ends count, and how many
-- places of a direction were there before its node's life
pub record Era : Type 0 where
  pub kind : FlowKind
  -- a window of the numbers of the flow: messages above low, up to high, go over all hops
  pub low : ℕ
  pub high : ℕ
  -- the edges over which they may go
  pub over : ℕ → Bool
  pub on : NodeId → Bool
  pub life : NodeId → ℕ
  pub version : ℕ
  pub weights : List ℕ
  pub sboot : ℕ
  pub dboot : ℕ
  pub early : NodeId → NodeId → ℕ

-- a state that comes no later than the era ends: the lives that are watched are the last ones, and who began its life runs. So whatever a watched node made
-- in its life stands in its place. And so are the versions that they run under, in which none of them is removed
pub record Watched (arts : Arts) (x : Setting) (all : List Event) (era : Era) : Type 0 where
  pub at : State arts x all
  pub most : (u : NodeId) → era.on u ≡ true → (n : NodeState) → node_in at.world.nodes u ≡ Some n → n.fixed.boot ≡ era.life u → n.live.version ≤ era.version
  pub joined : (u v : NodeId) → era.on u ≡ true → era.on v ≡ true → (n : NodeState) → node_in at.world.nodes u ≡ Some n → n.fixed.boot ≡ era.life u
      → is_one_of (removed_now n) v ≡ false
  pub latest : (v : NodeId) → era.on v ≡ true → last_boot x at.world v ≤ era.life v
  pub runs : (v : NodeId) → era.on v ≡ true → last_boot x at.world v ≡ era.life v → (n : NodeState) × (node_in at.world.nodes v ≡ Some n)
  pub placed : (u v : NodeId) → era.on u ≡ true → is_hop x u v ≡ true → (k : ℕ) (bytes : List ℕ)
      → slice_get (frames_in at.world.directions u v) k ≡ Some (Some bytes)
      → (arts.head bytes).boot ≡ era.life u → k + 1 ≡ era.early u v + (arts.head bytes).counter

abbrev pub Leads : (arts : Arts) (x : Setting) (all : List Event) (era : Era) → Watched arts x all era → Event → Watched arts x all era → Type 0
Leads arts x all era w e y = Follows arts x all w.at e y.at

-- ---- what is seen of a flow

-- what is read off a node, where there is one
abbrev pub seen_at : {X : Type 0} → X → (NodeState → X) → Option NodeState → X
seen_at none read None = none
seen_at none read (Some n) = read n

-- a node that is watched, in its life
abbrev pub in_life : Era → NodeId → NodeState → Bool
in_life era u n = era.on u && (n.fixed.boot == era.life u)

-- and it holds the boots of the flow's ends
abbrev pub in_era : Era → Flow → NodeId → NodeState → Bool
in_era era flow u n = in_life era u n && holds n flow.src era.sboot flow.dst era.dboot

-- it knows the neighbour's life; without epochs there is but one
abbrev pub has_met : Setting → Era → NodeId → NodeState → Bool
has_met x era v n = not x.epochs || ((link_in n v).peer_boot == era.life v)

abbrev pub flow_of : Era → Flow → NodeId → NodeState → FlowState
flow_of era flow u n = if in_era era flow u n then flow_in (flows_of era.kind n.parts).flows flow else no_flow flow

abbrev pub view_at : Setting → Era → Flow → NodeId → NodeId → NodeState → View
view_at x era flow u v n = if in_era era flow u n && has_met x era v n then view_in (peer_in (flows_of era.kind n.parts).peers v).views flow else no_view flow

-- the number of a frame in its direction, by its counter. 0 of none
abbrev pub numbered : ℕ → ℕ → ℕ
numbered early zero = 0
numbered early (suc counter) = early + suc counter

abbrev pub knows_life : Era → NodeId → NodeId → NodeState → Bool
knows_life era u v n = in_life era u n && ((link_in n v).peer_boot == era.life v)

-- it heard of the version too, so it carries what is in turn in its frames for it
abbrev pub knows_now : Setting → Era → NodeId → NodeId → NodeState → Bool
knows_now x era u v n = knows_life era u v n && has_heard x era.version v n

abbrev pub actives_of : Era → Flow → NodeId → NodeState → List Bool
actives_of era flow u n = if in_era era flow u n then map (λ f. f.active) (flows_of era.kind n.parts).flows else []

abbrev pub heard_of : Era → NodeId → NodeId → NodeState → ℕ
heard_of era v u n = if knows_life era v u n then numbered (era.early u v) (link_in n u).seen.1 else 0

abbrev pub at_node : {X : Type 0} → (arts : Arts) (x : Setting) (all : List Event) (era : Era) → X → (NodeState → X) → Watched arts x all era → NodeId → X
at_node arts x all era none read w u = seen_at none read (node_in w.at.world.nodes u)

abbrev pub flow_seen : (arts : Arts) (x : Setting) (all : List Event) (era : Era) → Flow → Watched arts x all era → NodeId → FlowState
flow_seen arts x all era flow w u = at_node arts x all era (no_flow flow) (flow_of era flow u) w u

abbrev pub view_seen : (arts : Arts) (x : Setting) (all : List Event) (era : Era) → Flow → Watched arts x all era → NodeId → NodeId → View
view_seen arts x all era flow w u v = at_node arts x all era (no_view flow) (view_at x era flow u v) w u

abbrev pub sight : (arts : Arts) (x : Setting) (all : List Event) (era : Era) → Flow → Sight (Watched arts x all era)
sight arts x all era flow = record {
  kind = era.kind;
  low = era.low;
  high = era.high;
  base = λ w u. (flow_seen arts x all era flow w u).at.base;
  have = λ w u. (flow_seen arts x all era flow w u).at.have;
  taken = λ w. (flow_seen arts x all era flow w flow.dst).at.have - length (flow_seen arts x all era flow w flow.dst).inbox;
  view_base = λ w u v. (view_seen arts x all era flow w u v).base;
  view_have = λ w u v. (view_seen arts x all era flow w u v).have;
  knows = λ w u v. at_node arts x all era false (knows_now x era u v) w u;
  polled = λ w u v. polls w.at.events u v;
  actives = λ w u. at_node arts x all era [] (actives_of era flow u) w u;
  last = λ w u v. at_node arts x all era None (λ n. (peer_in (flows_of era.kind n.parts).peers v).last) w u;
}

-- ---- hops

-- two correct nodes joined by an edge
pub record IsHop (x : Setting) (u v : NodeId) : Type 0 where
  pub first : IsTrue (is_correct x u)
  pub second : IsTrue (is_correct x v)
  pub joined : IsTrue (is_hop x u v)

-- and both are watched, the version doesn't withdraw it, and the messages of the window may go over it
pub record IsBetween (x : Setting) (era : Era) (u v : NodeId) : Type 0 where
  pub hop : IsHop x u v
  pub first : era.on u ≡ true
  pub second : era.on v ≡ true
  pub open_edge : is_shut era.weights (position_or_len (joins u.0 v.0) x.topology.edges) ≡ false
  pub may : era.over (position_or_len (joins u.0 v.0) x.topology.edges) ≡ true

-- ---- what is asked of an era

-- a flow between two different correct nodes
pub record IsRight (x : Setting) (flow : Flow) : Type 0 where
  pub from : is_correct x flow.src ≡ true
  pub to : is_correct x flow.dst ≡ true
  pub different : flow.src ≡ flow.dst → ⊥

-- correct nodes are watched, and both ends of the flow, in the lives of which the boots are that count
pub record IsEra (x : Setting) (flow : Flow) (era : Era) : Type 0 where
  pub right : IsRight x flow
  pub correct : (v : NodeId) → era.on v ≡ true → is_correct x v ≡ true
  pub source : era.on flow.src ≡ true
  pub end : era.on flow.dst ≡ true
  pub some : (v : NodeId) → era.on v ≡ true → 1 ≤ era.life v
  pub taken : x.epochs ≡ true → (era.life flow.src ≡ era.sboot) × (era.life flow.dst ≡ era.dboot)
  pub only : x.epochs ≡ false → (era.sboot ≡ 0) × (era.dboot ≡ 0)
  pub lone : x.epochs ≡ false → (v : NodeId) → era.on v ≡ true → era.life v ≡ 1
