use Rattle.std.proofs.Common.{length}
use Rattle.sp_graph.specs.Certificates.{number_of}
use Rattle.sp_graph.specs.Split.{parts_of}
use Rattle.laws_paths.proofs.Duality.{certified_is_least}
use Rattle.sp_paths.proofs.laws.what_is_accepted_is_least.Goals as goal

pub returns : goal.returns
returns c = λ g s t p right good. certified_is_least g s t (length p.paths) p.paths (number_of (parts_of g s t) p.potentials) right good.disjoint
    good.certificate.optimal
