use Rattle.std.proofs.Common.{rules, sym}
use Rattle.std.specs.Vec.Iter.{into_iter_items}
use Rattle.sp_replay.proofs.Lines.{listed_in_range, played_to_forgery}
use Rattle.sp_replay.proofs.play.play_all.Goals as goal

pub step-requires-clause-range : goal.step-requires-clause-range
step-requires-clause-range c =
    listed_in_range c.scheduled_events_are_in_range.ensures c.args.scenario c.args.events.items c.events.world c.in-Some.event (into_iter_items c.next.new.self)
    c.requires
    (sym c.events.invariant.scenario) (search rules)

pub returns-in-Err-Forged-clause-run : goal.returns-in-Err-Forged-clause-run
returns-in-Err-Forged-clause-run c =
    played_to_forgery c.args.scenario c.args.events.items c.events.world c.step.new.self c.in-Some.event (into_iter_items c.next.new.self)
    c.in-Err-Forged.field-0 c.in-Err-Forged.field-0-0
    c.in-Err-Forged.field-0-1 c.in-Err-Forged.field-0-is c.is_run.ensures c.events.invariant.going c.in-Err-Forged.ensures.refused
    (sym c.events.invariant.scenario) (search rules)
