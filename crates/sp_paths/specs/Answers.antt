-- What the two answers of a search say.
use Rattle.std.specs.Prelude.{ℕ}
use Rattle.sp_base.specs.declared.id.NodeId.{NodeId}
use Rattle.sp_graph.specs.declared.graph.Graph.{Graph}
use Rattle.sp_paths.specs.declared.search.Searched.{Searched}
use Rattle.sp_paths.specs.declared.search.Searched.TheVariants as answers
use Rattle.sp_paths.specs.Searched.{IsFew, IsFound}

abbrev pub IsSearched : Graph → NodeId → NodeId → ℕ → Searched → Type 0
IsSearched g s t k (answers.Found f) = IsFound g s t k f.paths f.potential
IsSearched g s t k (answers.Few f) = IsFew g s t k f.found f.reached
