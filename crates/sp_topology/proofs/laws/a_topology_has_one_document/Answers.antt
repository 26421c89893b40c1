use Rattle.sp_topology.proofs.ReadLemmas.{read_is_spelled}
use Rattle.sp_topology.proofs.Spelled.{spelled_is_read}
use Rattle.sp_topology.proofs.laws.a_topology_has_one_document.Goals as goal

pub returns-clause-read : goal.returns-clause-read
returns-clause-read c = spelled_is_read

pub returns-clause-spelled : goal.returns-clause-spelled
returns-clause-spelled c = read_is_spelled
