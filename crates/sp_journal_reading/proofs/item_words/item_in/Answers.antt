use Rattle.std.proofs.Common.{◌∙◌}
use Rattle.sp_journal_reading.proofs.ItemLemmas.{rows_are_items}
use Rattle.sp_journal_reading.proofs.item_words.item_in.Goals as goal

pub returns : goal.returns
returns c = c.row_of.ensures ∙ rows_are_items c.args.word.now c.args.rows.now c.requires
