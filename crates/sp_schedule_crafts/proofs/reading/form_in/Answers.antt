use Rattle.std.proofs.Common.{◌∙◌}
use Rattle.sp_schedule_crafts.proofs.FormLemmas.{rows_are_forms}
use Rattle.sp_schedule_crafts.proofs.reading.form_in.Goals as goal

pub returns : goal.returns
returns c = c.row_of.ensures ∙ rows_are_forms c.args.format c.args.name.now c.args.count c.args.rows.now c.requires.names c.requires.counts
