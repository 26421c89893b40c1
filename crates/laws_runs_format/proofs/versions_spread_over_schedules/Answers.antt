use Rattle.laws_runs_format.proofs.Spreading.{format_brings_documents, schedules_spread_versions}
use Rattle.laws_runs_format.proofs.versions_spread_over_schedules.Goals as goal

pub returns-clause-documents : goal.returns-clause-documents
returns-clause-documents c = format_brings_documents

pub returns-clause-spread : goal.returns-clause-spread
returns-clause-spread c = schedules_spread_versions
