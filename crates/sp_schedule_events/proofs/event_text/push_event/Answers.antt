use Rattle.sp_schedule_events.proofs.WrittenLemmas.{line_written}
use Rattle.sp_schedule_events.proofs.event_text.push_event.Goals as goal

pub returns : goal.returns
returns c =
    line_written c.args.scenario.now c.args.event.now _ _ _ _ _ (rw c.event_name.ensures at c.in_ok-push_str.ensures.bytes) c.in_ok-push_front.ensures
    c.in_ok-push_back.ensures c.in_ok-push_str-2.ensures.bytes
