-- What a message of this topology speaks of: its nodes and its edges.
use Rattle.std.specs.Prelude.{◌≡◌, ◌<◌, ◌^◌, true, length}
use Rattle.sp_base.specs.declared.id.NodeId.{NodeId}
use Rattle.sp_msg.specs.Masks.{bits}
use Rattle.sp_msg.specs.declared.body.Body.{Body}
use Rattle.sp_msg.specs.declared.body.Body.TheVariants as bodies
use Rattle.sp_rules.specs.Parts.{nodes_of}
use Rattle.sp_rules.specs.Prio.{is_node}
use Rattle.sp_topology.specs.declared.topology.Topology.{Topology}

-- the topology has this node
abbrev pub HasNode : Topology → NodeId → Type 0
HasNode t u = is_node (nodes_of t) u.0 ≡ true

-- both ends are nodes, and a mask names no edge behind the last; a weight is told by a node, of an edge, and a boot by a node
abbrev pub IsAbout : Topology → Body → Type 0
IsAbout t (bodies.Prio p) = HasNode t p.src × HasNode t p.dst × (bits p.mask < 2 ^ length t.edges)
IsAbout t (bodies.Rel r) = HasNode t r.src × HasNode t r.dst
IsAbout t (bodies.Ack a) = HasNode t a.src × HasNode t a.dst
IsAbout t (bodies.Weight w) = HasNode t w.origin × (w.edge.0 < length t.edges)
IsAbout t (bodies.Krel r) = HasNode t r.src × HasNode t r.dst × (bits r.mask < 2 ^ length t.edges)
IsAbout t (bodies.Kack a) = HasNode t a.src × HasNode t a.dst
IsAbout t (bodies.Epoch e) = HasNode t e.origin
