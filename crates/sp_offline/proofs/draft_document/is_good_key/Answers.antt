use Rattle.sp_base.proofs.NumberLemmas.{AreBytes-from_places}
use Rattle.sp_offline.proofs.DraftKeys.{seed_key}
use Rattle.sp_offline.proofs.draft_document.is_good_key.Goals as goal

pub returns : goal.returns
returns c = seed_key c.args._height c.args._node.now.seed c.args.key.now c.requires.seed c.requires.long
    (AreBytes-from_places c.args.key.now (λ i. (c.type_inv.key i).fits))
