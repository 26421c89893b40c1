use Rattle.sp_lines.proofs.Words.{number_is}
use Rattle.sp_lines.proofs.places.number_of.Goals as goal

pub returns : goal.returns
returns c = number_is c.args.word.now _ c.number.ensures.found c.number.ensures.small c.number.ensures.none
