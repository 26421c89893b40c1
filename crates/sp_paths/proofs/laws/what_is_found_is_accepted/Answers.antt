use Rattle.std.proofs.Common.{refl}
use Rattle.sp_paths.proofs.laws.what_is_found_is_accepted.Goals as goal

pub returns : goal.returns
returns c = λ g s t k p found. record {
  ends = found.ends;
  disjoint = record { count = refl; are_paths = found.disjoint.are_paths; apart = found.disjoint.apart };
  cost = found.cost;
  certificate = found.certificate;
}
