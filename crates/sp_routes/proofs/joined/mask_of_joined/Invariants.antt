use Rattle.sp_routes.proofs.JoinedLemmas.{IsMaskTo}
use Rattle.sp_msg.specs.Masks.{bits}
use Rattle.sp_routes.proofs.joined.mask_of_joined.Given as goal

abbrev pub invariant-edges : goal.invariant-edges
invariant-edges l = IsMaskTo l.flags l.edges l.place (bits l.mask)
