use Rattle.std.proofs.Common.{◌≡◌, drop}
use Rattle.std.specs.Prelude.{slice_get}
use Rattle.sp_runs.specs.Forgery.{lists_in}
use Rattle.sp_forgery.proofs.documents.list_at.Given as goal

abbrev pub invariant-events : goal.invariant-events
invariant-events l = slice_get (lists_in (drop l.event-index l.events)) l.left ≡ slice_get (lists_in l.fn.events) l.fn.place
