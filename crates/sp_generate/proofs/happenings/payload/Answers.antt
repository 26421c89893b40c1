use Rattle.std.proofs.Common.{refl}
use Rattle.sp_generate.proofs.happenings.payload.Goals as goal

pub returns : goal.returns
returns c = rw (
  c.from_vec.ensures,
  c.in_ok-extend_from_slice.ensures.items,
  c.in_ok-bytes.ensures.items,
  c.as_slice.ensures,
  c.as_slice-2.ensures,
  c.to_be_bytes.ensures,
  c.to_be_bytes-2.ensures,
) refl
