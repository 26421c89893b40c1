use Rattle.sp_recording.proofs.LawLemmas.{readings_are_of_their_text}
use Rattle.sp_recording.proofs.laws.a_reading_is_of_its_text.Goals as goal

pub returns : goal.returns
returns c = readings_are_of_their_text
