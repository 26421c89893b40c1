use Rattle.sp_schedule.proofs.FeedLemmas.{up_to_line}
use Rattle.sp_schedule.proofs.feed.up_to_newline.Goals as goal

pub returns-in-Some-clause-newline : goal.returns-in-Some-clause-newline
returns-in-Some-clause-newline c = up_to_line c.args.piece.now c.in-Some.line.now c.in-Some.field-0-1.now c.in-Some.ensures.found
