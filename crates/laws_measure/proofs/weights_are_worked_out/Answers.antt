use Rattle.std.proofs.Common.{arith, refl}
use Rattle.laws_measure.proofs.weights_are_worked_out.Goals as goal

pub returns : goal.returns
returns c = record {
  mean = refl;
  minimum = refl;
  due = refl;
  held = refl;
  too_few = refl;
  the_minimum_is_held = refl;
  too_soon = refl;
  rested = refl;
  time_fell = refl;
  publishes = refl;
  is_noted = refl;
  waits = refl;
  apart = (omega arith, tt);
  too_near = λ near. omega (arith, near.0);
}
