-- The documents of an administrator.
use Rattle.std.specs.Prelude.{ℕ, ◌-◌, ◌==◌, List, ◌++◌, if◌then◌else◌}
use Rattle.sp_base.specs.declared.format.TheConstants.{FORMAT_1}
use Rattle.sp_hss.specs.KeyTree.{public_key, signature}
use Rattle.sp_rules.specs.Topologies.{under}
use Rattle.sp_runs.specs.Scenarios.{admin_seed, topology_of}
use Rattle.sp_schedule_events.specs.declared.scenario.Scenario.{Scenario}
use Rattle.sp_sign.specs.Heights.{param_of}
use Rattle.sp_topology.specs.Documents.{document}
use Rattle.sp_topology.specs.declared.topology.Topology.{Topology}
use Rattle.sp_adversary.specs.Administrators.{Administrator}

-- that of a scenario
abbrev pub administrator_of : Scenario → Administrator
administrator_of s = record { topology = topology_of s; key = record { height = param_of s.height; seed = admin_seed s.seed } }

-- the public key of an administrator
abbrev pub public_of : Administrator → List ℕ
public_of a = public_key a.key.height a.key.seed

-- the topology of a version with these weights
abbrev pub version_by : Administrator → (version : ℕ) → (weights : List ℕ) → Topology
version_by a version weights = record a.topology { version = version; edges = under a.topology.edges weights }

-- its bytes, and in format 2 with the signature behind them
abbrev pub unsigned_by : Administrator → (version : ℕ) → (weights : List ℕ) → List ℕ
unsigned_by a version weights = document (version_by a version weights)

-- a document that an administrator signs
abbrev pub document_by : Administrator → (version : ℕ) → (weights : List ℕ) → List ℕ
document_by a version weights =
    let bytes = unsigned_by a version weights in
    if a.topology.format == FORMAT_1 then bytes else bytes ++ signature a.key.height a.key.seed (version - 1) bytes
