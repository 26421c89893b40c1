use Rattle.std.proofs.Common.{refl}
use Rattle.sp_measure.specs.Proofs.{name_of}
use Rattle.laws_measure.proofs.probes_are_worked_out.Goals as goal

pub returns : goal.returns
unfolding name_of
returns c = record {
  number = refl;
  echo = refl;
  is_new = refl;
  echo_is_new = refl;
  taken = refl;
  costs = refl;
  is_old = refl;
  echo_is_old = refl;
  second = refl;
  no_probe = refl;
  no_echo = refl;
  jumps = refl;
  follows = refl;
  by_its_number = refl;
  by_another = refl;
  not_sent = refl;
  none_open = refl;
  of_another_life = refl;
  of_another_node = refl;
  anew = refl;
  new_again = refl;
}
