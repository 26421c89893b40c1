use Rattle.std.proofs.Common.{refl}
use Rattle.sp_generate.specs.Generated.{generated_scenario}
use Rattle.sp_generate.proofs.header.scenario.Goals as goal

pub returns : goal.returns
unfolding generated_scenario
returns c = rw (c.seed.ensures, c.in_ok-edges.ensures, c.from_vec.ensures, c.in_ok-from_slice.ensures.items, c.as_slice.ensures) refl
