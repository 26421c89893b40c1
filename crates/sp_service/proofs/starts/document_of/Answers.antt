-- A frame has room for a signed document.
use Rattle.sp_base.proofs.NumberLemmas.{AreBytes-from_places}
use Rattle.sp_node.proofs.ShortDocuments.{signed_is_short}
use Rattle.sp_service.proofs.starts.document_of.Goals as goal

pub returns-clause-short : goal.returns-clause-short
returns-clause-short c =
    signed_is_short c.args.admin.now c.args.document.now c.requires.0 (AreBytes-from_places c.args.document.now (λ i. (c.type_inv.document i).fits))
    c.requires.1
    c.requires.2
