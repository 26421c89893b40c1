use Rattle.sp_frame.proofs.HeadLemmas.{frame_is_its_parts, head_is_read}
use Rattle.sp_frame.proofs.laws.a_frame_is_its_head_its_sections_and_its_tag.Goals as goal

pub returns-clause-head_is_read : goal.returns-clause-head_is_read
returns-clause-head_is_read c = head_is_read

pub returns-clause-frame_is_its_parts : goal.returns-clause-frame_is_its_parts
returns-clause-frame_is_its_parts c = frame_is_its_parts
