use Rattle.sp_audit.proofs.SeenLemmas.{takes_one}
use Rattle.sp_audit.proofs.once.insert.Goals as goal

pub returns : goal.returns
returns c = takes_one c.args.seen.now c.insert.new.self c.args.number c.in_ok-insert.field-0 c.in_ok-insert.ensures.added c.in_ok-insert.ensures.updates
