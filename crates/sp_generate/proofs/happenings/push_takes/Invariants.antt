use Rattle.std.proofs.Common.{◌≡◌, ◌++◌, replicate}
use Rattle.sp_schedule_events.specs.declared.event.Event.TheVariants as variants
use Rattle.sp_generate.proofs.happenings.push_takes.Given as goal

abbrev pub invariant-takes : goal.invariant-takes
invariant-takes l = l.events.items ≡ l.fn.events.items ++ replicate l.i (variants.Take l.d l.s)
