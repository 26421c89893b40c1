use Rattle.laws_paths.proofs.Trap.{trap_holds}
use Rattle.laws_paths.proofs.laws.the_cheapest_path_may_be_a_trap.Goals as goal

pub returns : goal.returns
returns c = trap_holds
