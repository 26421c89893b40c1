use Rattle.std.proofs.Common.{◌≡◌, ℕ, false, nat_lt, List, length, subst}
use Rattle.sp_node.proofs.NoSections.{no_document}
use Rattle.sp_frame.specs.Frames.{tagged_part}
use Rattle.sp_node.proofs.met.has_document.Goals as goal

pub returns-in-None : goal.returns-in-None
returns-in-None c =
    no_document c.args.fixed.now.topology.format (tagged_part c.args.frame.now) 33
    (subst (λ (bytes : List ℕ). false ≡ nat_lt 33 (length bytes)) c.tagged_part.ensures c.in-None.ensures.lookup.0)
