use Rattle.sp_prio.proofs.SpareLemmas.{spare_for}
use Rattle.sp_prio.proofs.spare.Spare.parcel.Goals as goal

pub signed_as-beside-requires : goal.signed_as-beside-requires
signed_as-beside-requires c = spare_for c.args.kept c.args.self c.requires
