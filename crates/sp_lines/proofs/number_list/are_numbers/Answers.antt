use Rattle.std.proofs.Common.{sym, ◌∙◌}
use Rattle.std.proofs.lemmas.List.Folds.{list_all-map}
use Rattle.sp_lines.specs.Cells.{is_number}
use Rattle.sp_lines.proofs.number_list.are_numbers.Goals as goal

pub returns : goal.returns
returns c = c.are_all_numbers.ensures ∙ sym (list_all-map is_number (λ w. w.now) c.args.words.now)
