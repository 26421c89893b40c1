-- Worked examples of complete rounds, along three nodes in a row, along a path round a compromised node, and along one of two paths of a message on paths: the
-- first message is delivered by the end of four, and in the row its acknowledgement is back by the end of three more. What a version withdraws of paths. And
-- events in which nothing is published, as these are, and others in which something is.
use Rattle.std.specs.Prelude.{ℕ, zero, suc, ◌≡◌, ◌+◌, ◌*◌, ◌<◌, ◌≤◌, false, List, [], ◌∷◌, ◌++◌, length, map, slice_get, None, Some}
use Rattle.std.specs.List.{All}
use Rattle.sp_base.specs.declared.id.NodeId.{NodeId}
use Rattle.sp_graph.specs.Walks.{steps}
use Rattle.sp_msg.specs.Masks.{bits}
use Rattle.sp_msg.specs.declared.mask.Mask.{Mask}
use Rattle.sp_topology.specs.declared.topology.Edge.{Edge}
use Rattle.sp_topology.specs.declared.topology.LmsHeight.TheVariants.{Five}
use Rattle.sp_topology.specs.declared.topology.NodeKey.{NodeKey}
use Rattle.sp_rules.specs.Arts.{Arts}
use Rattle.sp_rules.specs.Flow.{is_full}
use Rattle.sp_rules.specs.Kflow.{waiting_mask}
use Rattle.sp_rules.specs.Node.{NodeState}
use Rattle.sp_rules.specs.declared.kflow.FlowKind.TheVariants.{Plain, Paths}
use Rattle.sp_runs.specs.Paths.{hops}
use Rattle.sp_runs.specs.Rounds.{CompleteRounds, flow_count}
use Rattle.sp_runs.specs.Runs.{Clean, polls}
use Rattle.sp_runs.specs.Settings.{Setting}
use Rattle.sp_runs.specs.Told.{delivered, sent}
use Rattle.sp_runs.specs.Worlds.{World, node_in}
use Rattle.sp_journal.specs.declared.entry.Entry.{Entry}
use Rattle.sp_schedule_events.specs.declared.event.Event.{Event}
use Rattle.sp_schedule_events.specs.declared.event.Event.TheVariants as events
use Rattle.laws_runs.specs.Acknowledged.{acknowledged}
use Rattle.laws_runs.specs.Flows.{flow_at}
use Rattle.laws_progress.specs.Delivery.{DeliversInRounds, ReturnsInRounds}
use Rattle.laws_progress.specs.Positions.{TopologyStays}
use Rattle.laws_progress.specs.Within.{HasEdge, IsPathUnder, StaysUnder}

abbrev pub node : ℕ → NodeId
node u = record { 0 = u }

-- a node without a key
abbrev pub no_key : ℕ → NodeKey
no_key u = record { id = node u; key = [] }

-- an edge of weight 10
abbrev pub edge : ℕ → ℕ → Edge
edge low high = record { low = node low; high = node high; weight = 10 }

-- a setting of these nodes, edges and compromised nodes. Rounds ask for nothing else
abbrev pub setting : List ℕ → List Edge → List ℕ → Setting
setting ids edges bad = record {
  topology = record { format = 1; version = 1; height = Five; nodes = map no_key ids; edges = edges };
  buffer = 2;
  store = 4;
  bad = map node bad;
  seed = λ u. [];
  signature_len = 0;
  total = 0;
  link_key = λ e. [];
  digest = λ bytes. bytes;
  epochs = false;
  admin = [];
  admin_total = 0;
  document = λ version weights. [];
  unsigned = λ version weights. [];
}

-- so many frames of u for v after so many before, each passed as soon as it is made
abbrev pub frames : (u v made count : ℕ) → List Event
frames u v made zero = []
frames u v made (suc count) = events.Poll (node u) (node v) ∷ (events.Pass (node u) (node v) (made + 1) ∷ frames u v (made + 1) count)

-- a client of 1 sends to 3
abbrev pub send : List Event
send = events.Rel (node 1) (node 3) (104 ∷ 105 ∷ []) ∷ []

-- a client of 3 takes what came from 1
abbrev pub take_it : List Event
take_it = events.Take (node 3) (node 1) ∷ []

-- 3 signs its acknowledgement
abbrev pub tick : List Event
tick = events.Tick (node 3) 5 ∷ []

-- ---- what the two promises say of such a run, over whatever arts they hold

-- Where the nodes of the path run under version 1, with these weights, all the time, and 1 accepted the message, it is the first that 3 delivered by the end of
-- these events, with its payload.
abbrev pub IsDeliveredBy : Setting → (weights : List ℕ) → (path : List NodeId) → List Event → Type 0
IsDeliveredBy x weights path after = (arts : Arts) (js more : List Entry) (w v : World) (n : NodeState)
    → DeliversInRounds arts x → Clean arts x send js w → Clean arts x (send ++ after) (js ++ more) v → StaysUnder 1 weights path w v
    → node_in w.nodes (node 1) ≡ Some n
    → 1 ≤ length (sent Plain send js (node 1) (node 3))
    → (payload : List ℕ) × (slice_get (sent Plain send js (node 1) (node 3)) 0 ≡ Some (1, payload))
    × (slice_get (delivered Plain (send ++ after) (js ++ more) (node 1) (node 3)) 0 ≡ Some (1, payload))

-- where 3 acknowledged it before, that is back at 1 by the end of these events, and 1 has room for messages 2 and 3
abbrev pub HasReturnedBy : Setting → (weights : List ℕ) → (path : List NodeId) → (before after : List Event) → Type 0
HasReturnedBy x weights path before after = (arts : Arts) (js more : List Entry) (w v : World) (n : NodeState)
    → ReturnsInRounds arts x → Clean arts x before js w → Clean arts x (before ++ after) (js ++ more) v → StaysUnder 1 weights path w v
    → node_in v.nodes (node 1) ≡ Some n
    → acknowledged Plain arts before js (node 1) (node 3) ≡ 1
    → (1 ≤ (flow_at Plain n (node 1) (node 3)).at.base)
    × ((flow_at Plain n (node 1) (node 3)).at.have < 3 → is_full 2 (flow_at Plain n (node 1) (node 3)) ≡ false)

-- ---- three nodes in a row

-- three nodes in a row
abbrev pub line : Setting
line = setting (1 ∷ 2 ∷ 3 ∷ []) (edge 1 2 ∷ edge 2 3 ∷ []) []

-- the path along them
abbrev pub line_path : List NodeId
line_path = map node (1 ∷ 2 ∷ 3 ∷ [])

-- one frame over each hop in each direction, and a take before the last, after so many such rounds
abbrev pub line_round : ℕ → List Event
line_round before = frames 2 1 before 1 ++ (frames 1 2 before 1 ++ (frames 3 2 before 1 ++ (take_it ++ frames 2 3 before 1)))

-- the rounds of the message
abbrev pub first_rounds : List Event
first_rounds = line_round 0 ++ (line_round 1 ++ (line_round 2 ++ (line_round 3 ++ [])))

-- the rounds of its acknowledgement
abbrev pub later_rounds : List Event
later_rounds = line_round 4 ++ (line_round 5 ++ (line_round 6 ++ []))

-- the weights of version 1
abbrev pub line_weights : List ℕ
line_weights = 10 ∷ 10 ∷ []

-- a message and its acknowledgement in counted rounds
pub record FirstMessage : Type 0 where
  pub path : IsPathUnder line line_weights (node 1) (node 3) line_path
  pub two_hops : hops line_path ≡ 2
  -- the one flow that a client sends to
  pub one_flow : flow_count Plain line (send ++ (first_rounds ++ (tick ++ later_rounds))) ≡ 1
  -- four rounds are enough for the first message: two hops, one above the base, and one
  pub there : CompleteRounds Plain 1 (node 1) (node 3) line_path 4 send first_rounds
  pub is_delivered : IsDeliveredBy line line_weights line_path first_rounds
  -- and three for its acknowledgement: two hops, and one
  pub back : CompleteRounds Plain 1 (node 1) (node 3) line_path 3 (send ++ (first_rounds ++ tick)) later_rounds
  pub has_returned : HasReturnedBy line line_weights line_path (send ++ (first_rounds ++ tick)) later_rounds

-- ---- round a compromised node

-- a square of which 2 is compromised, and the path from 1 to 3 that goes by 4
abbrev pub square : Setting
square = setting (1 ∷ 2 ∷ 3 ∷ 4 ∷ []) (edge 1 2 ∷ edge 1 4 ∷ edge 2 3 ∷ edge 3 4 ∷ []) (2 ∷ [])

-- the path round the compromised node
abbrev pub square_path : List NodeId
square_path = map node (1 ∷ 4 ∷ 3 ∷ [])

-- seven frames over each hop in each direction, and a take before the last seven, after so many such rounds
abbrev pub square_round : ℕ → List Event
square_round before = frames 4 1 (7 * before) 7 ++ (frames 1 4 (7 * before) 7 ++ (frames 3 4 (7 * before) 7 ++ (take_it ++ frames 4 3 (7 * before) 7)))

-- four rounds along it
abbrev pub four_rounds : List Event
four_rounds = square_round 0 ++ (square_round 1 ++ (square_round 2 ++ (square_round 3 ++ [])))

-- the weights of the square's edges
abbrev pub square_weights : List ℕ
square_weights = 10 ∷ 10 ∷ 10 ∷ 10 ∷ []

-- the rounds of a message round a compromised node
pub record RoundACompromisedNode : Type 0 where
  pub path : IsPathUnder square square_weights (node 1) (node 3) square_path
  pub two_hops : hops square_path ≡ 2
  -- the flow that a client sends to, and the six that begin or end at 2
  pub seven_flows : flow_count Plain square (send ++ four_rounds) ≡ 7
  -- four rounds, which are enough for the first message. Each has seven polls of each of its four directions
  pub rounds : CompleteRounds Plain 7 (node 1) (node 3) square_path 4 send four_rounds
  pub is_delivered : IsDeliveredBy square square_weights square_path four_rounds
  pub events : length four_rounds ≡ 4 * (4 * 7 * 2 + 1)
  pub frames : polls four_rounds (node 4) (node 3) ≡ 28

-- ---- a message on two paths

-- the square in format 2, of which all nodes are correct
abbrev pub two_paths : Setting
two_paths =
    let s = setting (1 ∷ 2 ∷ 3 ∷ 4 ∷ []) (edge 1 2 ∷ edge 1 4 ∷ edge 2 3 ∷ edge 3 4 ∷ []) [] in
    record s { topology = record s.topology { format = 2 } }

-- a client of 1 sends to 3 over two paths, by 2 and by 4
abbrev pub send_twice : List Event
send_twice = events.Krel (node 1) (node 3) 2 (104 ∷ 105 ∷ []) ∷ []

-- a client of 3 takes what came from 1 on paths
abbrev pub take_on_paths : List Event
take_on_paths = events.KTake (node 3) (node 1) ∷ []

-- one frame over each hop of the path by 4 in each direction, and a take before the last, after so many such rounds
abbrev pub upper_round : ℕ → List Event
upper_round before = frames 4 1 before 1 ++ (frames 1 4 before 1 ++ (frames 3 4 before 1 ++ (take_on_paths ++ frames 4 3 before 1)))

-- four rounds along it
abbrev pub upper_rounds : List Event
upper_rounds = upper_round 0 ++ (upper_round 1 ++ (upper_round 2 ++ (upper_round 3 ++ [])))

-- the rounds of a message over one of its paths, while nothing goes over the other one
pub record OnTwoPaths : Type 0 where
  pub path : IsPathUnder two_paths square_weights (node 1) (node 3) square_path
  -- the one flow on paths that a client sends to
  pub one_flow : flow_count Paths two_paths (send_twice ++ upper_rounds) ≡ 1
  pub rounds : CompleteRounds Paths 1 (node 1) (node 3) square_path 4 send_twice upper_rounds
  -- 2 makes no frame
  pub silent : polls upper_rounds (node 2) (node 1) + polls upper_rounds (node 2) (node 3) ≡ 0
  -- a mask of both paths, which has all four edges, has those of this path; one of the other path, which has the first and the third, hasn't
  pub both_paths : (mask : Mask) → bits mask ≡ 15 → All (HasEdge two_paths mask) (steps square_path)
  pub other_path : (mask : Mask) → bits mask ≡ 5 → All (HasEdge two_paths mask) (steps square_path) → ⊥
  -- where 1 accepted the message, and what waits there has the mask of both paths, it is delivered
  pub is_delivered : (arts : Arts) (js more : List Entry) (w v : World) (n : NodeState)
      → DeliversInRounds arts two_paths → Clean arts two_paths send_twice js w → Clean arts two_paths (send_twice ++ upper_rounds) (js ++ more) v
      → StaysUnder 1 square_weights square_path w v → node_in w.nodes (node 1) ≡ Some n
      → ((mask : Mask) → waiting_mask n.parts.kflow (node 3) ≡ Some mask → bits mask ≡ 15)
      → 1 ≤ length (sent Paths send_twice js (node 1) (node 3))
      → (payload : List ℕ) × (slice_get (sent Paths send_twice js (node 1) (node 3)) 0 ≡ Some (1, payload))
      × (slice_get (delivered Paths (send_twice ++ upper_rounds) (js ++ more) (node 1) (node 3)) 0 ≡ Some (1, payload))

-- ---- what a version withdraws

-- which paths a version leaves, and which rounds count under it
pub record WithinAVersion : Type 0 where
  -- one that withdraws both edges of the compromised node leaves the path that goes round it
  pub left : IsPathUnder square (0 ∷ 10 ∷ 0 ∷ 10 ∷ []) (node 1) (node 3) square_path
  -- a path over an edge that it withdraws is none, whether that is the first or the last
  pub first_hop : IsPathUnder line (0 ∷ 10 ∷ []) (node 1) (node 3) line_path → ⊥
  pub last_hop : IsPathUnder line (10 ∷ 0 ∷ []) (node 1) (node 3) line_path → ⊥

-- ---- where the topology stays

-- the administrator publishes version 2, and hands it to 1
abbrev pub publish_it : List Event
publish_it = events.Publish (node 1) (Some (20 ∷ 10 ∷ [])) ∷ []

-- and hands the last version to 3
abbrev pub hand_it : List Event
hand_it = events.Publish (node 3) None ∷ []

-- 2 sends 1 a document of version 2 in the administrator's name
abbrev pub craft_it : List Event
craft_it = events.CraftDocument (node 2) (node 1) 0 2 (Some (20 ∷ 10 ∷ [])) ∷ []

-- which events leave the topology as it is
pub record WhereItStays : Type 0 where
  pub rounds : TopologyStays (send ++ (first_rounds ++ (tick ++ later_rounds)))
  -- who only crafts publishes nothing, and what is handed out again is no version more
  pub crafted : TopologyStays (send ++ (craft_it ++ first_rounds))
  pub handed : TopologyStays (send ++ (hand_it ++ first_rounds))
  -- a list of weights is a version more, after whatever events it comes
  pub published : TopologyStays publish_it → ⊥
  pub published_late : TopologyStays (send ++ (first_rounds ++ publish_it)) → ⊥
  pub published_between : TopologyStays (craft_it ++ (publish_it ++ hand_it)) → ⊥

-- all of them
pub record RoundsAreCounted : Type 0 where
  pub first_message : FirstMessage
  pub compromised : RoundACompromisedNode
  pub on_paths : OnTwoPaths
  pub version : WithinAVersion
  pub stays : WhereItStays
