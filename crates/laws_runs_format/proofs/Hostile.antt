-- In a run of a schedule only the adversary's events are forged.
use Rattle.sp_runs.specs.Scenarios.{setting_of}
use Rattle.laws_runs.proofs.Passes.{only_the_adversary}
use Rattle.laws_runs_format.specs.Arts.{arts_of}
use Rattle.laws_runs_format.specs.Hostile.{OnlyHostileEventsAreForged}
use Rattle.laws_runs_format.proofs.Headers.{headers_fit}
use Rattle.laws_runs_format.proofs.ReadBack.{format_carries}

pub only_hostile : OnlyHostileEventsAreForged
only_hostile s es js w event what graph run at =
    let x = setting_of s in
    only_the_adversary (arts_of x) x es js w event what (headers_fit s graph) (format_carries x.topology.format) run at
