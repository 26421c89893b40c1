use Rattle.laws_paths.proofs.Crossings.{cut_bounds_paths}
use Rattle.laws_paths.proofs.laws.paths_are_at_most_the_arcs_out_of_a_cut.Goals as goal

pub returns : goal.returns
returns c = cut_bounds_paths
