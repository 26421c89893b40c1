use Rattle.sp_schedule.proofs.HeaderLemmas.{seed_is}
use Rattle.sp_schedule.proofs.header.seed_of.Goals as goal

pub returns : goal.returns
returns c = seed_is c.args.word.now c.array_of.result c.array_of.ensures.found c.array_of.ensures.bytes c.array_of.ensures.long c.array_of.ensures.none
