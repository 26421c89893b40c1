-- What a version of the topology withdraws, and how many effects that has at most.
use Rattle.std.specs.Prelude.{ℕ, ◌+◌, List, [], ◌++◌, false, count_by}
use Rattle.sp_base.specs.declared.id.NodeId.{NodeId}
use Rattle.sp_msg.specs.declared.effect.Effect.{Effect}
use Rattle.sp_rules.specs.Kflow as kflow
use Rattle.sp_rules.specs.Parts.{Fixed, Parts, nodes_of}
use Rattle.sp_rules.specs.Prio.{entry_count}
use Rattle.sp_rules.specs.Rel as rel
use Rattle.sp_rules.specs.Topologies.{removed_of, under, weights_in}
use Rattle.sp_rules.specs.Versions.{Live}
use Rattle.sp_rules.specs.declared.kflow.FlowKind.TheVariants as kinds
use Rattle.sp_topology.specs.declared.topology.Topology.{Topology}
use Rattle.sp_node_parts.specs.declared.withdrawn.Withdrawn.{Withdrawn}

-- the weight of each edge, 0 where it is withdrawn, and the nodes that are removed
abbrev pub withdrawn_of : Topology → Withdrawn
withdrawn_of t = record { weights = weights_in t.edges; removed = removed_of (nodes_of t) t.edges }

-- how many flows of both kinds are active
abbrev pub active_flows : Parts → ℕ
active_flows p = count_by (λ f. f.active) p.rel.flows + count_by (λ f. f.active) p.kflow.flows.flows

-- one for each entry that is stored, and one for each active flow
abbrev pub closing_room : Parts → ℕ
closing_room p = entry_count p.prio + active_flows p

-- flows of both kinds where these nodes are removed
abbrev pub flows_closed : Parts → List NodeId → Parts
flows_closed p removed = record p { rel = rel.closed p.rel removed; kflow = kflow.with_flows p.kflow (rel.closed p.kflow.flows removed) }

-- what is told of them, of plain ones first
abbrev pub flows_closed_effects : Parts → List NodeId → List Effect
flows_closed_effects p removed = rel.closed_effects kinds.Plain p.rel removed ++ rel.closed_effects kinds.Paths p.kflow.flows removed

-- what the empty tables of a node go by
abbrev pub bare_fixed : NodeId → Topology → Fixed
bare_fixed me t = record { me = me; boot = 0; topology = t; document = []; signature_len = 0; admin = []; epochs = false }

-- the topology that a node runs under, by the one that it booted with
abbrev pub now_under : Topology → Live → Topology
now_under t live = record t { version = live.version; edges = under t.edges live.weights }
