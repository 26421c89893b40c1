use Rattle.std.proofs.Common.{map, sym, ◌∙◌}
use Rattle.sp_base.specs.declared.id.NodeId.{NodeId}
use Rattle.sp_topology.proofs.NoMemory.{edges_no_memory, ids_no_memory}
use Rattle.sp_topology.proofs.fault.first_fault.Goals as goal

pub returns-in-Some-ids_fault-clause-memory : goal.returns-in-Some-ids_fault-clause-memory
returns-in-Some-ids_fault-clause-memory c same =
    ids_no_memory c.args.format 0 (map (λ (id : NodeId). id.0) c.args.nodes.now) (sym c.ids_fault.ensures ∙ c.in-Some-ids_fault.is ∙ same)

pub returns-clause-memory : goal.returns-clause-memory
returns-clause-memory c same =
    edges_no_memory c.args.format (map (λ (id : NodeId). id.0) c.args.nodes.now) (0, 0) c.args.edges.now (sym c.edges_fault.ensures ∙ same)
