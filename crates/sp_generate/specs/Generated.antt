-- The schedule of a number: a realistic overlay of eight nodes, two of them compromised, and 3,975 events.
use Rattle.std.specs.Prelude.{ℕ, false, List, [], ◌∷◌, ◌++◌, replicate}
use Rattle.std.specs.List.{flat_map, range_with_len}
use Rattle.byteorder.specs.Endian.{big_bytes}
use Rattle.sp_base.specs.declared.format.TheConstants.{FORMAT_1}
use Rattle.sp_base.specs.declared.id.NodeId.{NodeId}
use Rattle.sp_schedule_crafts.specs.declared.object.CraftedObject.TheVariants as objects
use Rattle.sp_topology.specs.declared.topology.Edge.{Edge}
use Rattle.sp_topology.specs.declared.topology.LmsHeight.TheVariants.{Five}
use Rattle.sp_schedule_events.specs.declared.event.Event.{Event}
use Rattle.sp_schedule_events.specs.declared.event.Event.TheVariants as events
use Rattle.sp_schedule_events.specs.declared.scenario.Scenario.{Scenario}

abbrev pub node : ℕ → NodeId
node u = record { 0 = u }

-- ---- the header

-- each link has the same weight
abbrev pub edge : ℕ → ℕ → Edge
edge a b = record { low = node a; high = node b; weight = 10 }

-- the edges of the overlay
abbrev pub edges : List Edge
edges = edge 1 2 ∷ edge 1 5 ∷ edge 1 8 ∷ edge 2 3 ∷ edge 2 6 ∷ edge 3 4 ∷ edge 3 7 ∷ edge 4 5 ∷ edge 4 8 ∷ edge 5 6 ∷ edge 6 7 ∷ edge 7 8 ∷ []

-- the number as 32 bytes, the highest first
abbrev pub seed : ℕ → List ℕ
seed number = replicate 28 0 ++ big_bytes 4 number

-- the header of a number's schedule
unfoldable pub generated_scenario : ℕ → Scenario
generated_scenario number = record {
  format = FORMAT_1;
  seed = seed number;
  height = Five;
  limits = record { buffer = 16; store = 16 };
  graph = record { nodes = 8; edges = edges };
  bad = node 4 ∷ node 8 ∷ [];
  epochs = false;
}

-- ---- the events

-- the payload of the messages of this turn
abbrev pub payload : ℕ → ℕ → List ℕ
payload number turn = big_bytes 4 number ++ big_bytes 4 turn

-- a message each way between 1 and 7
abbrev pub both_ways : ℕ → ℕ → List Event
both_ways number turn = events.Rel (node 1) (node 7) (payload number turn) ∷ events.Rel (node 7) (node 1) (payload number turn) ∷ []

-- a priority message over all edges, and one over two disjoint paths
abbrev pub by_priority : ℕ → ℕ → List Event
by_priority number turn =
    events.Prio (node 2) (node 6) 5 1000000 0 (payload number turn) ∷ events.Prio (node 1) (node 7) 3 1000000 2 (payload number turn) ∷ []

-- a frame of 4 for its neighbour v with a message of 4 to 6 that a node signed
abbrev pub crafted : ℕ → ℕ → ℕ → Event
crafted number v key =
    events.Craft (node 4) (node v) (node key) (objects.Rel (record { src = node 4; dst = node 6; seq = 1; payload = payload number 1 }))

-- what the compromised nodes send: a message of 4 under its own key, the same under the key of 8, and two bytes that are no frame
abbrev pub hostile : ℕ → List Event
hostile number = crafted number 3 4 ∷ crafted number 5 8 ∷ events.Inject (node 8) (node 1) (255 ∷ 255 ∷ []) ∷ []

-- the directions between correct neighbours, in ascending order
abbrev pub directions : List (ℕ × ℕ)
directions =
    (1, 2) ∷ (1, 5) ∷ (2, 1) ∷ (2, 3) ∷ (2, 6) ∷ (3, 2) ∷ (3, 7) ∷ (5, 1) ∷ (5, 6) ∷ (6, 2) ∷ (6, 5) ∷ (6, 7) ∷ (7, 3) ∷ (7, 6) ∷ []

-- a frame is made and arrives
abbrev pub frame : ℕ → ℕ × ℕ → List Event
frame number d = events.Poll (node d.0) (node d.1) ∷ events.Pass (node d.0) (node d.1) number ∷ []

-- one frame of each direction, and then the clocks of 1 and 7
unfoldable pub cycle : ℕ → List Event
cycle turn = flat_map (frame turn) directions ++ (events.Tick (node 1) turn ∷ events.Tick (node 7) turn ∷ [])

-- each message is taken
abbrev pub takes : List Event
takes = replicate 16 (events.Take (node 7) (node 1)) ++ replicate 16 (events.Take (node 1) (node 7))

-- the events of a number's schedule
unfoldable pub generated_events : ℕ → List Event
generated_events number =
    flat_map (both_ways number) (range_with_len 1 16)
    ++ (flat_map (by_priority number) (range_with_len 1 4) ++ (hostile number ++ (flat_map cycle (range_with_len 1 130) ++ takes)))
