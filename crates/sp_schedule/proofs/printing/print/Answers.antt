use Rattle.sp_schedule.proofs.PrintLemmas.{printed}
use Rattle.sp_schedule.proofs.printing.print.Goals as goal

pub returns : goal.returns
returns c =
    printed c.args.scenario.now c.args.events.now _ _ _ _ _ _ _ (rw c.new-out.ensures.bytes at c.in_ok-push_front.ensures)
    (rw c.as_slice.ensures at c.in_ok-push_edges.ensures)
    (rw c.as_slice-2.ensures at c.in_ok-push_bads.ensures) c.in_ok-push_epochs.ensures c.in_ok-push_str.ensures.bytes c.in_ok-push_events.ensures
    c.in_ok-push_str-2.ensures.bytes
