use Rattle.sp_topology.proofs.GraphLaws.{no_fault_is_in_range}
use Rattle.sp_topology.proofs.laws.a_graph_without_fault_is_in_range.Goals as goal

pub returns : goal.returns
returns c = no_fault_is_in_range
