-- The bounds of buffers in the setting of three nodes in a row, with two messages a flow and four entries a store: what they say in numbers, of any state; a
-- state that has as much as may be, and states that have too much.
use Rattle.std.specs.Prelude.{ℕ, ◌≡◌, ◌≤◌, List, [], ◌∷◌, ◌++◌, length, map, replicate, drop, None, Some, Option}
use Rattle.std.specs.List.{All}
use Rattle.sp_base.specs.declared.id.Flow.{Flow}
use Rattle.sp_frame.specs.Views.{as_list}
use Rattle.sp_msg.specs.declared.body.Body.TheVariants as bodies
use Rattle.sp_msg.specs.declared.kept.Kept.{Kept}
use Rattle.sp_rules.specs.Flow.{FlowState, no_flow}
use Rattle.sp_rules.specs.Node.{NodeState}
use Rattle.sp_rules.specs.Parts.{flows_of}
use Rattle.sp_rules.specs.declared.kflow.FlowKind.{FlowKind}
use Rattle.sp_rules.specs.PrioPeer.{PrioPeer}
use Rattle.sp_rules.specs.Rel.{put_flow}
use Rattle.sp_rules.specs.Store.{Store}
use Rattle.sp_rules.specs.declared.store.Entry.{Entry}
use Rattle.laws_node.specs.Story.{node}
use Rattle.sp_runs.specs.Bounds.{IsBounded}
use Rattle.sp_runs.specs.Settings.{node_at_boot}
use Rattle.laws_runs.specs.Story.{line}

-- ---- states of the node in the middle

-- the message of this number from 1 to 3, and an entry of a store
abbrev pub message : ℕ → Kept
message q = record { body = bodies.Rel (record { src = node 1; dst = node 3; sboot = 0; dboot = 0; seq = q; payload = [] }); signature = [] }

-- an entry of a store
abbrev pub entry : Entry
entry = record { id = 1; kept = message 1 }

-- node u says that the weight of the edge between 1 and 2 is 30
abbrev pub update : ℕ → Kept
update u = record { body = bodies.Weight (record { origin = node u; edge = record { 0 = 0 }; seq = 1; weight = 30 }); signature = [] }

-- node 2 at its start
abbrev pub at_boot : NodeState
at_boot = node_at_boot (line []) (node 2)

-- with these rows of flows
abbrev pub with_flows : NodeState → List FlowState → NodeState
with_flows n fs = record n { parts = record n.parts { rel = record n.parts.rel { flows = fs } } }

-- with so many messages of the flow from 1 to 3, and so many payloads that wait
abbrev pub with_messages : (list inbox : ℕ) → NodeState → NodeState
with_messages list inbox n =
    let flow : Flow = record { src = node 1; dst = node 3 } in
    with_flows n (put_flow n.parts.rel.flows flow (record (no_flow flow) {
      at = record { base = 0; have = list; list = replicate list (message 1) };
      ack = Some (message 1);
      inbox = replicate inbox [];
    }))

-- with these rows of neighbours
abbrev pub with_peers : NodeState → List PrioPeer → NodeState
with_peers n ps = record n { parts = record n.parts { prio = record n.parts.prio { peers = ps } } }

-- a store with so many entries
abbrev pub holding : Store → ℕ → Store
holding s count = record s { entries = replicate count entry }

-- a neighbour with so many entries, and so many in flight
abbrev pub waiting : (entries flight : ℕ) → PrioPeer → PrioPeer
waiting entries flight q = record q { store = holding q.store entries; flight = replicate flight (1, 1) }

-- a node with so many entries in each store, and so many on their way
abbrev pub with_entries : (entries flight : ℕ) → NodeState → NodeState
with_entries entries flight n = with_peers n (map (waiting entries flight) n.parts.prio.peers)

-- with so many entries that wait for clients
abbrev pub with_inbox : ℕ → NodeState → NodeState
with_inbox count n = record n { parts = record n.parts { prio = record n.parts.prio { inbox = holding n.parts.prio.inbox count } } }

-- with these rows of weights
abbrev pub with_weights : List (Option Kept) → NodeState → NodeState
with_weights rows n = record n { parts = record n.parts { weights = record n.parts.weights { rows = rows } } }

-- as much as may be: two messages and two payloads, four entries of each store, four in flight, and an update of each end of the first edge
abbrev pub full : NodeState
full = with_weights (Some (update 1) ∷ Some (update 2) ∷ None ∷ None ∷ []) (with_inbox 4 (with_entries 4 4 (with_messages 2 2 at_boot)))

-- ---- what is claimed

-- what the bounds say of a flow here
abbrev pub SaysFlow : FlowState → Type 0
SaysFlow f = (length f.at.list ≤ 2) × (length f.inbox ≤ 2) × (length (as_list f.ack) ≤ 1)

-- what the bounds say of a neighbour's store here
abbrev pub SaysPeer : PrioPeer → Type 0
SaysPeer q = (length q.store.entries ≤ 4) × (length q.flight ≤ 4)

-- the bounds in numbers: six flows of each kind with two messages, two payloads and one acknowledgement; four entries that wait for clients; two neighbours
-- with four entries
-- and four in flight; two edges with four rows
pub record SaysBounds (n : NodeState) : Type 0 where
  pub flows : (kind : FlowKind) → length (flows_of kind n.parts).flows ≡ 6
  pub each_flow : (kind : FlowKind) → All SaysFlow (flows_of kind n.parts).flows
  pub inbox : length n.parts.prio.inbox.entries ≤ 4
  pub peers : map (λ q. q.peer) n.parts.prio.peers ≡ 1 ∷ 3 ∷ []
  pub each_peer : All SaysPeer n.parts.prio.peers
  pub rows : length n.parts.weights.rows ≡ 4

-- a state is within the bounds
abbrev pub IsWithin : NodeState → Type 0
IsWithin n = IsBounded (line []) (node 2) n

-- the bounds hold of as much as may be, and of no more
pub record BoundsAreWorked : Type 0 where
  pub says : (n : NodeState) → IsWithin n → SaysBounds n
  pub as_much : IsWithin full
  -- three of two, five of four
  pub three_messages : IsWithin (with_messages 3 0 at_boot) → ⊥
  pub three_payloads : IsWithin (with_messages 0 3 at_boot) → ⊥
  pub five_wait : IsWithin (with_inbox 5 at_boot) → ⊥
  pub five_entries : IsWithin (with_entries 5 0 at_boot) → ⊥
  pub five_in_flight : IsWithin (with_entries 0 5 at_boot) → ⊥
  -- rows that are there twice, or aren't there
  pub flows_twice : IsWithin (with_flows at_boot (at_boot.parts.rel.flows ++ at_boot.parts.rel.flows)) → ⊥
  pub one_neighbour : IsWithin (with_peers at_boot (drop 1 at_boot.parts.prio.peers)) → ⊥
  pub five_rows : IsWithin (with_weights (replicate 5 None) at_boot) → ⊥
  -- and an update in the row of the other end
  pub other_row : IsWithin (with_weights (Some (update 2) ∷ None ∷ None ∷ None ∷ []) at_boot) → ⊥
