-- No run of a schedule without forgery breaks a promise that an auditor asks for.
use Rattle.sp_runs.specs.Scenarios.{setting_of}
use Rattle.laws_runs.proofs.GoodRuns.{is_good, runs_are_good}
use Rattle.laws_runs_format.specs.Arts.{arts_of}
use Rattle.laws_runs_format.specs.Audited.{ClaimedRunsPassAudits, RunsPassAudits}
use Rattle.laws_runs_format.proofs.Headers.{plain_headers_fit}
use Rattle.laws_runs_format.proofs.ReadBack.{format_carries}

pub runs_pass_audits : RunsPassAudits
runs_pass_audits s es js w graph plain run =
    let x = setting_of s in
    runs_are_good (arts_of x) x es js w (plain_headers_fit s graph plain) (format_carries x.topology.format) run

pub claimed_runs_pass_audits : ClaimedRunsPassAudits
claimed_runs_pass_audits s es js graph plain claims n =
    let x = setting_of s in
    let beginning = claims.reached n in
    is_good (arts_of x) x _ _ beginning.0 (plain_headers_fit s graph plain) (format_carries x.topology.format) beginning.1
