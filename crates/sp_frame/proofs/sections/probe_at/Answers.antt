use Rattle.std.proofs.Common.{sym}
use Rattle.sp_base.proofs.NumberLemmas.{piece_read}
use Rattle.sp_frame.proofs.sections.probe_at.Goals as goal

pub copy_from_slice-requires : goal.copy_from_slice-requires
copy_from_slice-requires c = sym (piece_read 8 _ _ c.in_ok-told.ensures).count

pub copy_from_slice-requires-2 : goal.copy_from_slice-requires-2
copy_from_slice-requires-2 c = sym (piece_read 32 _ _ c.in_ok-shown.ensures).count
