use Rattle.std.proofs.Common.{Some, arith}
use Rattle.std.specs.Prelude.{◌≢◌}
use Rattle.std.proofs.lemmas.Grind.{common_steps}
use Rattle.sp_paths.specs.Taken.{IsFirst}
use Rattle.sp_paths.proofs.WalkLemmas.{goes_on, walk_goes_on}
use Rattle.sp_paths.proofs.walk.walk.Goals as goal

pub unwrap-place-requires : goal.unwrap-place-requires
unwrap-place-requires c =
    let apart : c.on.here ≢ c.args.t = grind (arith, common_steps) in
    goes_on c.args.s c.args.t c.requires.flow.0 c.on.here c.on.lanes c.next.result (c.on.invariant.flow c.requires.flow.0 c.requires.flow.1) apart
    c.next.ensures

pub on-preserved : goal.on-preserved
on-preserved c =
    let found : IsFirst c.on.lanes c.on.here (Some c.unwrap-place.result) = rw c.unwrap-place.ensures at c.next.ensures in
    rw (c.in_ok-push.ensures.items, c.flipped.ensures)
    (walk_goes_on c.args.lanes.now c.args.s c.args.t c.on.here c.on.lanes c.on.walk.items c.on.invariant c.unwrap-place.result found.0 found.1 found.2 found.3)
