-- What starts of a scenario's nodes need: the key of each seed, whose upper tree was hashed once, the administrator, and the document of the first version.
use Rattle.std.specs.Prelude.{ℕ, ◌≡◌, ◌≤◌, ◌<◌, List, filter, map, true}
use Rattle.std.specs.List.{range_with_len}
use Rattle.sp_adversary.specs.Administrators.{Administrator}
use Rattle.sp_adversary.specs.Documents.{administrator_of, public_of}
use Rattle.sp_base.specs.declared.id.EdgeId.{EdgeId}
use Rattle.sp_base.specs.declared.id.NodeId.{NodeId}
use Rattle.sp_epoch.specs.declared.started.Started.{Started}
use Rattle.sp_hss.specs.SeedKey.{SeedKey}
use Rattle.sp_node_state.specs.declared.boot.NodeConfig.{NodeConfig}
use Rattle.sp_rules.specs.Node.{NodeState}
use Rattle.sp_rules.specs.Topologies.{weights_in}
use Rattle.sp_runs.specs.Scenarios.{document_of, edge_key, node_seed, setting_of, topology_of}
use Rattle.sp_runs.specs.Settings.{is_correct, node_at_boot}
use Rattle.sp_schedule_events.specs.declared.scenario.Scenario.{Scenario}
use Rattle.sp_sign.specs.Heights.{param_of}
use Rattle.sp_sign.specs.NodeSigner.{NodeSigner}
use Rattle.sp_topology.specs.Neighbours.{neighbours_from}

-- the key of a node's seed
abbrev pub seed_key : Scenario → ℕ → SeedKey
seed_key s u = record { height = param_of s.height; seed = node_seed s.seed u }

-- what all starts of a run share
pub record Home : Type 0 where
  pub seeds : List SeedKey
  pub administrator : Administrator
  pub document : List ℕ

-- the document of the first version
abbrev pub first_document : Scenario → List ℕ
first_document s = document_of s 1 (weights_in s.graph.edges)

-- those of nodes 1 to N, and of the scenario
pub record IsHome (s : Scenario) (h : Home) : Type 0 where
  pub seeds : h.seeds ≡ map (seed_key s) (range_with_len 1 s.graph.nodes)
  pub administrator : h.administrator ≡ administrator_of s
  pub document : h.document ≡ first_document s

-- ---- a start

-- the indexes are those of the key, and with epochs the node signs its boot with the first of them
pub record CanStart (s : Scenario) (start : Started) : Type 0 where
  pub boot : 1 ≤ start.boot
  pub index : start.index ≤ start.bound
  pub bound : start.bound ≤ (setting_of s).total
  pub announces : s.epochs ≡ true → start.index < start.bound

-- the signer of a node's key with these indexes
abbrev pub own_signer : Scenario → NodeId → Started → NodeSigner
own_signer s u start = record {
  node = u;
  signer = record { height = param_of s.height; seed = node_seed s.seed u.0; index = start.index; bound = start.bound };
}

-- the edges of a node with their keys
abbrev pub keyed_edges : Scenario → NodeId → List (EdgeId × List ℕ)
keyed_edges s u = map (λ n. (n.1, edge_key s.seed n.1.0)) (neighbours_from u.0 0 s.graph.edges)

-- a node as it is configured
abbrev pub config_of : Scenario → NodeId → NodeConfig
config_of s u = record {
  me = u;
  topology = topology_of s;
  document = first_document s;
  limits = s.limits;
  keys = keyed_edges s u;
  admin = public_of (administrator_of s);
  epochs = s.epochs;
}

-- the correct ones among these before the first event, without epochs
abbrev pub first_of : Scenario → List NodeId → List NodeState
first_of s us = map (node_at_boot (setting_of s)) (filter (is_correct (setting_of s)) us)
