-- What a configuration that fits makes of a node: its signer, its link keys and where its neighbours are met.
use Rattle.std.specs.Prelude.{ℕ, ◌≡◌, List, map, zip}
use Rattle.sp_base.specs.declared.id.EdgeId.{EdgeId}
use Rattle.sp_config.specs.declared.config.Config.{Config}
use Rattle.sp_hss.specs.SeedKey.{SeedKey}
use Rattle.sp_hss.specs.Signer.{Signer}
use Rattle.sp_service_turns.specs.declared.peer.Peer.{Peer}
use Rattle.sp_sign.specs.Heights.{param_of}
use Rattle.sp_sign.specs.NodeSigner.{NodeSigner}
use Rattle.sp_topology.specs.Neighbours.{neighbours_from}
use Rattle.sp_topology.specs.declared.topology.LmsHeight.{LmsHeight}
use Rattle.sp_topology.specs.declared.topology.Topology.{Topology}

-- the key of the configuration's seed in trees of this height
abbrev pub IsKeyOf : Config → LmsHeight → SeedKey → Type 0
IsKeyOf c height key = key ≡ record { height = param_of height; seed = c.seed }

-- the signer of the seed, which signs with the indexes from the first on and below the bound
abbrev pub node_signer : Config → LmsHeight → ℕ → ℕ → NodeSigner
node_signer c height index bound = record { node = c.node; signer = record { height = param_of height; seed = c.seed; index = index; bound = bound } }

-- each edge of the node, ascending, with the key that it shares with the peer there
abbrev pub link_keys : Config → Topology → List (EdgeId × List ℕ)
link_keys c t = map (λ p. (p.0.1, p.1.key)) (zip (neighbours_from c.node.0 0 t.edges) c.peers)

-- the neighbours, each with its port
abbrev pub peers_of : Config → List Peer
peers_of c = map (λ p. record { node = p.id; port = p.port }) c.peers
