use Rattle.sp_paths.specs.Searched.{IsFew}
use Rattle.sp_paths.proofs.cheapest.found.Goals as goal

pub returns-in_ok-cut-in-Few-clause-fewer : goal.returns-in_ok-cut-in-Few-clause-fewer
returns-in_ok-cut-in-Few-clause-fewer c =
    let few : IsFew c.args.graph.now c.args.s c.args.t c.args.k c.in-Few.few.found c.in-Few.few.reached = rw c.in-Few.is at c.in_ok-found.ensures in
    c.in_ok-cut-in-Few.ensures c.args.k few
