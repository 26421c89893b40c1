use Rattle.std.proofs.Common.{List, ℕ}
use Rattle.sp_lines.specs.Answers.{Reads}
use Rattle.sp_journal_reading.specs.EffectTable.{read_effect}
use Rattle.sp_journal_reading.proofs.WordLists.{five, six}
use Rattle.sp_journal_reading.proofs.effect_line.read_effect.Goals as goal

pub returns-in-len5 : goal.returns-in-len5
returns-in-len5 c =
    five (λ (ws : List (List ℕ)). Reads c.five.result (read_effect ws)) c.args.words.now _ c.in-len5.len_at_least c.in-len5.len_below c.five.ensures

pub returns-in-len6 : goal.returns-in-len6
returns-in-len6 c =
    six (λ (ws : List (List ℕ)). Reads c.six.result (read_effect ws)) c.args.words.now _ c.in-len6.len_at_least c.in-len6.len_below c.six.ensures
