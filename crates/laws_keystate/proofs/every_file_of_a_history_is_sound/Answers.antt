use Rattle.laws_keystate.proofs.HistoryLemmas.{every_file_is_sound}
use Rattle.laws_keystate.proofs.every_file_of_a_history_is_sound.Goals as goal

pub returns : goal.returns
returns c = every_file_is_sound
