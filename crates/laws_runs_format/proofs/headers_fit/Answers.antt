use Rattle.laws_runs_format.proofs.Headers.{headers_fit, plain_headers_fit, signatures_are_long}
use Rattle.laws_runs_format.proofs.Topologies.{topologies_fit}
use Rattle.laws_runs_format.proofs.headers_fit.Goals as goal

pub returns-clause-topology : goal.returns-clause-topology
returns-clause-topology c = topologies_fit

pub returns-clause-setting : goal.returns-clause-setting
returns-clause-setting c = headers_fit

pub returns-clause-plain : goal.returns-clause-plain
returns-clause-plain c = plain_headers_fit

pub returns-clause-signatures : goal.returns-clause-signatures
returns-clause-signatures c = signatures_are_long
