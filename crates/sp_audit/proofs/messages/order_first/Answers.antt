use Rattle.std.proofs.Common.{length, sym, subst}
use Rattle.sp_audit.specs.Firsts.{IsFirst, KeepsOrders}
use Rattle.sp_audit.proofs.Kept.{first_of_kinds}
use Rattle.sp_audit.proofs.messages.order_first.Goals as goal

pub returns : goal.returns
returns c =
    let es = c.args.events.now in
    let js = c.args.journal.now in
    subst (IsFirst (KeepsOrders es js c.args.s c.args.d) (length es)) (sym c.min.ensures)
    (first_of_kinds es js c.args.s c.args.d (length es) c.in_ok-plain.plain c.in_ok-paths.paths c.in_ok-plain.ensures c.in_ok-paths.ensures)
