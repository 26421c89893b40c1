use Rattle.sp_journal_reading.proofs.EffectLemmas.{effects_have_one_line}
use Rattle.sp_journal_reading.proofs.laws.effects_have_one_line.Goals as goal

pub returns : goal.returns
returns c = effects_have_one_line
