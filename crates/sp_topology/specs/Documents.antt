-- The document of a topology, byte by byte. Numbers have their high byte first.
--
--     4 name, "MTMW" | 1 format, 1 or 2 | 4 version | 1 height, 5 or 10 | 1 node count
--     per node    1 id | 60 key
--     2 edge count
--     per edge    1 low end | 1 high end | 4 weight
--
-- It is read from the left. What is wrong is told where it stands, before what comes after it is asked for.
use Rattle.std.specs.Prelude.{ℕ, zero, suc, ◌≡◌, ◌≢◌, ◌-◌, ◌==◌, ◌||◌, List, [], ◌∷◌, ◌++◌, length, flat_map, Option, Some, None, Result, Ok, Err}
use Rattle.std.specs.Prelude.{if◌then◌else◌}
use Rattle.byteorder.specs.Endian.{big_bytes}
use Rattle.sp_base.specs.Reading.{number_at, piece_at}
use Rattle.sp_base.specs.Spelling.{AreBytes}
use Rattle.sp_base.specs.Refusals.{◌>>=◌, as_refusal}
use Rattle.sp_base.specs.declared.format.TheConstants.{FORMAT_1, FORMAT_2}
use Rattle.sp_topology.specs.declared.topology.LmsHeight.{LmsHeight}
use Rattle.sp_topology.specs.declared.topology.Edge.{Edge}
use Rattle.sp_topology.specs.declared.topology.NodeKey.{NodeKey}
use Rattle.sp_topology.specs.declared.topology.Topology.{Topology}
use Rattle.sp_topology.specs.declared.refused.TopologyRefused.{TopologyRefused}
use Rattle.sp_topology.specs.declared.refused.TopologyRefused.TheVariants as refusals
use Rattle.sp_topology.specs.Faults.{are_nodes, edge_count_fault, ends_fault, id_fault, key_fault, node_count_fault, weight_fault}
use Rattle.sp_topology.specs.Heights.{height_at, height_number}
use Rattle.sp_topology.specs.Ranges.{IsTopology, ends_of, ids_of}

-- "MTMW" as a number
abbrev pub name : ℕ
name = 0x4d544d57

-- ---- spelling

-- a node: its id and its public key
abbrev pub node_bytes : NodeKey → List ℕ
node_bytes n = big_bytes 1 n.id.0 ++ n.key

-- an edge: its two ends, and its weight
abbrev pub edge_bytes : Edge → List ℕ
edge_bytes e = big_bytes 1 e.low.0 ++ (big_bytes 1 e.high.0 ++ big_bytes 4 e.weight)

-- what stands before the nodes
pub record Front : Type 0 where
  pub format : ℕ
  pub version : ℕ
  pub height : LmsHeight
  pub count : ℕ

-- what stands before the nodes: the name of the format, its number, the version, the height of trees, and how many nodes follow
abbrev pub front_bytes : Front → List ℕ
front_bytes f = big_bytes 4 name ++ (big_bytes 1 f.format ++ (big_bytes 4 f.version ++ (big_bytes 1 (height_number f.height) ++ big_bytes 1 f.count)))

-- the front of a topology's document
abbrev pub front_of : Topology → Front
front_of t = record { format = t.format; version = t.version; height = t.height; count = length t.nodes }

-- the bytes of a topology
abbrev pub document : Topology → List ℕ
document t = front_bytes (front_of t) ++ (flat_map node_bytes t.nodes ++ (big_bytes 2 (length t.edges) ++ flat_map edge_bytes t.edges))

-- ---- reading

-- a number of n bytes
abbrev pub field_at : ℕ → List ℕ → Result (ℕ × List ℕ) TopologyRefused
field_at n bytes = as_refusal refusals.Short (number_at n bytes)

-- this value where nothing is wrong, or the fault
abbrev pub unless : {A : Type 0} → Option TopologyRefused → A → Result A TopologyRefused
unless None x = Ok x
unless (Some fault) x = Err fault

-- a number of n bytes, judged
unfoldable pub judged_at : ℕ → (ℕ → Option TopologyRefused) → List ℕ → Result (ℕ × List ℕ) TopologyRefused
judged_at n fault bytes = field_at n bytes >>= λ x. unless (fault x.0) x

-- what is wrong with a name: it isn't that of these documents
abbrev pub name_fault : ℕ → Option TopologyRefused
name_fault number = if number == name then None else Some refusals.Magic

-- what is wrong with the number of a format: there is no such format
abbrev pub format_fault : ℕ → Option TopologyRefused
format_fault number = if (number == FORMAT_1) || (number == FORMAT_2) then None else Some refusals.Format

-- a height by its number
abbrev pub height_or_refusal : Option LmsHeight → List ℕ → Result (LmsHeight × List ℕ) TopologyRefused
height_or_refusal (Some height) bytes = Ok (height, bytes)
height_or_refusal None bytes = Err refusals.Height

-- the height at the front of these bytes, and what follows it
unfoldable pub height_field_at : List ℕ → Result (LmsHeight × List ℕ) TopologyRefused
height_field_at bytes = field_at 1 bytes >>= λ x. height_or_refusal (height_at x.0) x.1

-- the front of a document at the front of these bytes, and what follows it
unfoldable pub front_at : List ℕ → Result (Front × List ℕ) TopologyRefused
front_at bytes = do
  begins ← judged_at 4 name_fault bytes
  format ← judged_at 1 format_fault begins.1
  version ← field_at 4 format.1
  height ← height_field_at version.1
  count ← judged_at 1 (node_count_fault format.0) height.1
  Ok (record { format = format.0; version = version.0; height = height.0; count = count.0 }, count.1)

-- a key, judged
unfoldable pub key_at : LmsHeight → List ℕ → Result (List ℕ × List ℕ) TopologyRefused
key_at height bytes = as_refusal refusals.Short (piece_at 60 bytes) >>= λ key. unless (key_fault height key.0) key

-- a node after one of this id
unfoldable pub node_at : (format : ℕ) → LmsHeight → ℕ → List ℕ → Result (NodeKey × List ℕ) TopologyRefused
node_at format height before bytes = do
  id ← judged_at 1 (id_fault format before) bytes
  key ← key_at height id.1
  Ok (record { id = record { 0 = id.0 }; key = key.0 }, key.1)

-- so many nodes
abbrev pub nodes_at : (format : ℕ) → LmsHeight → ℕ → ℕ → List ℕ → Result (List NodeKey × List ℕ) TopologyRefused
nodes_at format height zero before bytes = Ok ([], bytes)
nodes_at format height (suc count) before bytes =
    node_at format height before bytes >>= λ node. nodes_at format height count node.0.id.0 node.1 >>= λ nodes. Ok (node.0 ∷ nodes.0, nodes.1)

-- the two ends of an edge, judged together
unfoldable pub ends_at : List ℕ → ℕ × ℕ → List ℕ → Result ((ℕ × ℕ) × List ℕ) TopologyRefused
ends_at ids before bytes = do
  low ← field_at 1 bytes
  high ← field_at 1 low.1
  unless (ends_fault (are_nodes ids (low.0, high.0)) before (low.0, high.0)) ((low.0, high.0), high.1)

-- an edge between two of these nodes, after one with these ends
unfoldable pub edge_at : (format : ℕ) → List ℕ → ℕ × ℕ → List ℕ → Result (Edge × List ℕ) TopologyRefused
edge_at format ids before bytes = do
  ends ← ends_at ids before bytes
  weight ← judged_at 4 (weight_fault format) ends.1
  Ok (record { low = record { 0 = ends.0.0 }; high = record { 0 = ends.0.1 }; weight = weight.0 }, weight.1)

-- so many edges
abbrev pub edges_at : (format : ℕ) → List ℕ → ℕ → ℕ × ℕ → List ℕ → Result (List Edge × List ℕ) TopologyRefused
edges_at format ids zero before bytes = Ok ([], bytes)
edges_at format ids (suc count) before bytes =
    edge_at format ids before bytes >>= λ edge. edges_at format ids count (ends_of edge.0) edge.1 >>= λ edges. Ok (edge.0 ∷ edges.0, edges.1)

-- the topology and the bytes after its document, or the first refusal
unfoldable pub topology_at : List ℕ → Result (Topology × List ℕ) TopologyRefused
topology_at bytes = do
  front ← front_at bytes
  nodes ← nodes_at front.0.format front.0.height front.0.count 0 front.1
  count ← judged_at 2 (edge_count_fault front.0.format) nodes.1
  edges ← edges_at front.0.format (ids_of nodes.0) count.0 (0, 0) count.1
  Ok (record { format = front.0.format; version = front.0.version; height = front.0.height; nodes = nodes.0; edges = edges.0 }, edges.1)

-- the topology whose document the bytes begin with, and the length of that document
abbrev pub read_of : List ℕ → Result (Topology × ℕ) TopologyRefused
read_of bytes = topology_at bytes >>= λ read. Ok (read.0, length bytes - length read.1)

-- what a call answered, seen by view, is what reading gives, unless memory was wanting
abbrev pub GivesInMemory : {X Y : Type 0} → (X → Y) → Result X TopologyRefused → Result Y TopologyRefused → Type 0
GivesInMemory view (Ok x) read = read ≡ Ok (view x)
GivesInMemory view (Err refused) read = refused ≢ refusals.Memory → read ≡ Err refused

-- ---- one spelling

-- each document is read as its topology, whatever comes after it
abbrev pub SpelledIsRead : Type 0
SpelledIsRead = (t : Topology) (rest : List ℕ) → IsTopology t → topology_at (document t ++ rest) ≡ Ok (t, rest)

-- bytes that are read begin with the document of what was read, which is in its ranges
abbrev pub ReadIsSpelled : Type 0
ReadIsSpelled = (bytes rest : List ℕ) (t : Topology) → AreBytes bytes → topology_at bytes ≡ Ok (t, rest) → IsTopology t × (bytes ≡ document t ++ rest)
