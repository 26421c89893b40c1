use Rattle.sp_node_format.proofs.FormatFits.{format_fits}
use Rattle.sp_node_format.proofs.GoodFields.{good_is_in_range}
use Rattle.sp_node_format.proofs.format.the_arts_of_the_format_fit.Goals as goal

pub returns-clause-fit : goal.returns-clause-fit
returns-clause-fit c = format_fits

pub returns-clause-good : goal.returns-clause-good
returns-clause-good c = good_is_in_range
