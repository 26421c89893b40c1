-- What may be asked for by the command `paths`: two different ends from 0 to 255, and 1 to 8 paths.
use Rattle.std.specs.Prelude.{◌≢◌, ◌≤◌}
use Rattle.sp_paths.specs.declared.limits.TheConstants.{MAX_PATHS}
use Rattle.sp_offline.specs.declared.paths_query.Query.{Query}

pub record IsQuery (q : Query) : Type 0 where
  pub from : q.from.0 ≤ 255
  pub to : q.to.0 ≤ 255
  pub count : (1 ≤ q.paths) × (q.paths ≤ MAX_PATHS)
  pub apart : q.from ≢ q.to
