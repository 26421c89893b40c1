-- Whether a good configuration fits its signed topology: the first of these that applies refuses it.
--
--     Document     the bytes at `topology` don't begin with a document; its first fault
--     Signature    the bytes after the document aren't the administrator's signature of it
--     Me           the node isn't in the document
--     Key          the node's key in the document isn't that of the seed
--     Peer         the peers aren't just the neighbours, each once and ascending, or two of them have one port
use Rattle.std.specs.Prelude.{ℕ, ◌≡◌, ◌==◌, ◌&&◌, Bool, true, false, not, List, [], ◌∷◌, map, take, drop, Some, None, Ok, Err}
use Rattle.std.specs.List.{list_any}
use Rattle.sp_base.specs.declared.id.NodeId.{NodeId}
use Rattle.sp_config.specs.declared.config.Config.{Config}
use Rattle.sp_config.specs.declared.config.Peer.{Peer}
use Rattle.sp_hss.specs.KeyTree.{public_key}
use Rattle.sp_hss.specs.Validity.{IsValid}
use Rattle.sp_sign.specs.Heights.{param_of}
use Rattle.sp_topology.specs.Documents.{read_of}
use Rattle.sp_topology.specs.Keys.{key_of}
use Rattle.sp_topology.specs.Neighbours.{neighbours_from}
use Rattle.sp_topology.specs.declared.topology.Topology.{Topology}
use Rattle.sp_service.specs.declared.refused.SetupRefused.{SetupRefused}
use Rattle.sp_service.specs.declared.refused.SetupRefused.TheVariants as refusals

-- ---- the judgements. The document has so many bytes; what comes after them is its signature

abbrev pub IsSigned : Config → ℕ → Type 0
IsSigned c size = IsValid c.admin (take size c.topology) (drop size c.topology)

-- the node isn't in the topology
abbrev pub IsStranger : Config → Topology → Type 0
IsStranger c t = key_of c.node.0 t.nodes ≡ None

-- the seed gives the node's key in the topology
abbrev pub HasOwnKey : Config → Topology → Type 0
HasOwnKey c t = key_of c.node.0 t.nodes ≡ Some (public_key (param_of t.height) c.seed)

-- the neighbours of the node, ascending
abbrev pub neighbours : Config → Topology → List NodeId
neighbours c t = map (λ n. n.0) (neighbours_from c.node.0 0 t.edges)

-- whether no two of these have one port
abbrev pub have_own_ports : List Peer → Bool
have_own_ports [] = true
have_own_ports (p ∷ ps) = not (list_any (λ q. q.port == p.port) ps) && have_own_ports ps

-- the neighbours are those of the topology, each with a port of its own
pub record ArePeers (c : Config) (t : Topology) : Type 0 where
  pub neighbours_are : map (λ p. p.id) c.peers ≡ neighbours c t
  pub apart : have_own_ports c.peers ≡ true

-- ---- together

-- the configuration fits this topology
pub record Fits (c : Config) (t : Topology) : Type 0 where
  pub size : ℕ
  pub read : read_of c.topology ≡ Ok (t, size)
  pub signed : IsSigned c size
  pub own : HasOwnKey c t
  pub peers : ArePeers c t

-- the first judgement that a configuration with such a document fails
abbrev pub Fails : Config → Topology → ℕ → SetupRefused → Type 0
Fails c t size refusals.Signature = ¬ IsSigned c size
Fails c t size refusals.Me = IsSigned c size × IsStranger c t
Fails c t size refusals.Key = IsSigned c size × ¬ IsStranger c t × ¬ HasOwnKey c t
Fails c t size refusals.Peer = IsSigned c size × HasOwnKey c t × ¬ ArePeers c t
Fails c t size _ = ⊥

-- why a configuration doesn't fit
abbrev pub Misfits : Config → SetupRefused → Type 0
Misfits c (refusals.Document fault) = read_of c.topology ≡ Err fault
Misfits c refusals.Memory = Unit {0}
Misfits c refused = (t : Topology) × (size : ℕ) × (read_of c.topology ≡ Ok (t, size)) × Fails c t size refused
