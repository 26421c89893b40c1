use Rattle.std.proofs.Common.{refl}
use Rattle.laws_measure.proofs.costs_are_worked_out.Goals as goal

pub returns : goal.returns
returns c = record {
  in_time = refl;
  with_lost_frames = refl;
  greatest = refl;
  at_most = refl;
  last_two = refl;
  all_of_fewer = refl;
  one_more = refl;
  oldest_leaves = refl;
}
