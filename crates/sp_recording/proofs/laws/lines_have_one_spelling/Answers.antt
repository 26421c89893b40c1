use Rattle.sp_recording.proofs.LineLemmas.{lines_have_one_spelling}
use Rattle.sp_recording.proofs.laws.lines_have_one_spelling.Goals as goal

pub returns : goal.returns
returns c = lines_have_one_spelling
