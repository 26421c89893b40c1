use Rattle.std.proofs.Common.{◌≡◌, ◌++◌, None}
use Rattle.std.specs.Vec.Iter.{into_iter_items}
use Rattle.sp_replay.proofs.play.play_all.Given as goal

abbrev pub invariant-events : goal.invariant-events
invariant-events l = record {
  can : (goal.iterator-events).can_next l.event-iterator;
  finite : (goal.iterator-events).is_finite l.event-iterator;
  scenario : l.world.scenario ≡ l.fn.scenario;
  going : l.world.stopped ≡ None;
  all : l.world.events ++ into_iter_items l.event-iterator ≡ l.fn.events.items;
}
