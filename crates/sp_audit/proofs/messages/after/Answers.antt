use Rattle.std.proofs.Common.{◌≡◌, get_or, sym, subst}
use Rattle.sp_runs.specs.Told.{Message}
use Rattle.sp_audit.proofs.Agreement.{next_comes}
use Rattle.sp_audit.proofs.messages.after.Goals as goal

pub returns-then-is-clause-agrees : goal.returns-then-is-clause-agrees
returns-then-is-clause-agrees c =
    let sent = c.args.sent.now in
    let m : Message = (c.args.seq, c.args.payload.now) in
    next_comes sent c.args.count m c.if-count-sent.true
    (subst (λ (y : Message). get_or sent c.args.count y ≡ y) (c.is.ensures.0 c.if-is.true) (sym c.index-sent-count.is))
