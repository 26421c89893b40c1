-- What a topology may say. Both its documents and the drafts that they are made of are judged by this.
use Rattle.std.specs.Prelude.{ℕ, ◌≡◌, ◌<◌, ◌≤◌, ◌^◌, ◌==◌, ◌⊎◌, Bool, true, List, [], ◌∷◌, length, map, drop}
use Rattle.std.specs.List.{list_any}
use Rattle.byteorder.specs.Endian.{big_number}
use Rattle.sp_base.specs.Formats.{IsFormat, by_format, max_edges, max_nodes}
use Rattle.sp_base.specs.Spelling.{AreBytes}
use Rattle.sp_base.specs.declared.limits.TheConstants.{MAX_WEIGHT}
use Rattle.sp_topology.specs.declared.topology.LmsHeight.{LmsHeight}
use Rattle.sp_topology.specs.declared.topology.Edge.{Edge}
use Rattle.sp_topology.specs.declared.topology.NodeKey.{NodeKey}
use Rattle.sp_topology.specs.declared.topology.Topology.{Topology}
use Rattle.sp_topology.specs.Heights.{typecode_of}

-- ---- nodes

-- A public key of two levels of this height, with w = 4:
--
--     4 levels, 2 | 4 LMS typecode | 4 LM-OTS typecode, 3 | 16 identifier | 32 root
pub record IsKey (height : LmsHeight) (key : List ℕ) : Type 0 where
  pub long : length key ≡ 60
  pub bytes : AreBytes key
  pub levels : big_number 4 key ≡ 2
  pub tree : big_number 4 (drop 4 key) ≡ typecode_of height
  pub one_time : big_number 4 (drop 8 key) ≡ 3

-- the id comes after that of the node before; 0 stands before the first
abbrev pub IsId : (format : ℕ) → ℕ → ℕ → Type 0
IsId format before id = (before < id) × (id ≤ max_nodes format)

-- ids that ascend from above this one, each in the range of its format
abbrev pub AreIds : (format : ℕ) → ℕ → List ℕ → Type 0
AreIds format before [] = Unit {0}
AreIds format before (id ∷ ids) = IsId format before id × AreIds format id ids

-- nodes whose ids ascend from above this one, each with a public key of this height
abbrev pub AreNodes : (format : ℕ) → LmsHeight → ℕ → List NodeKey → Type 0
AreNodes format height before [] = Unit {0}
AreNodes format height before (n ∷ nodes) = IsId format before n.id.0 × IsKey height n.key × AreNodes format height n.id.0 nodes

-- the ids of nodes
abbrev pub ids_of : List NodeKey → List ℕ
ids_of nodes = map (λ n. n.id.0) nodes

-- ---- edges

-- the ids of an edge's two ends, the lower one first
abbrev pub ends_of : Edge → ℕ × ℕ
ends_of e = (e.low.0, e.high.0)

-- in the order of words: by the first end, and by the second where the first is the same
abbrev pub IsBelow : ℕ × ℕ → ℕ × ℕ → Type 0
IsBelow p q = (p.0 < q.0) ⊎ ((p.0 ≡ q.0) × (p.1 < q.1))

-- whether the id is one of these
abbrev pub has_id : ℕ → List ℕ → Bool
has_id id ids = list_any (λ x. x == id) ids

-- Two different nodes of these, the lower one first, after the ends of the edge before; (0, 0) stands before the first
pub record AreEnds (ids : List ℕ) (before ends : ℕ × ℕ) : Type 0 where
  pub ascend : ends.0 < ends.1
  pub after : IsBelow before ends
  pub low : has_id ends.0 ids ≡ true
  pub high : has_id ends.1 ids ≡ true

-- the weight 0 is that of an edge that is withdrawn, in format 2
abbrev pub least_weight : ℕ → ℕ
least_weight format = by_format format 1 0

-- a weight in the range of its format
abbrev pub IsWeight : (format : ℕ) → ℕ → Type 0
IsWeight format weight = (least_weight format ≤ weight) × (weight ≤ MAX_WEIGHT)

-- edges between these nodes that ascend from above these ends, each with a weight in its range
abbrev pub AreEdges : (format : ℕ) → List ℕ → ℕ × ℕ → List Edge → Type 0
AreEdges format ids before [] = Unit {0}
AreEdges format ids before (e ∷ edges) = AreEnds ids before (ends_of e) × IsWeight format e.weight × AreEdges format ids (ends_of e) edges

-- ---- whole topologies

-- between two and so many nodes, and so many edges between them
pub record IsGraph (format : ℕ) (ids : List ℕ) (edges : List Edge) : Type 0 where
  pub node_count : (2 ≤ length ids) × (length ids ≤ max_nodes format)
  pub edge_count : length edges ≤ max_edges format
  pub are_edges : AreEdges format ids (0, 0) edges

-- a topology whose fields are in the ranges of its format
pub record IsTopology (t : Topology) : Type 0 where
  pub format : IsFormat t.format
  pub version : t.version < 2 ^ 32
  pub nodes : AreNodes t.format t.height 0 t.nodes
  pub graph : IsGraph t.format (ids_of t.nodes) t.edges
