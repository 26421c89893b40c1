use Rattle.std.proofs.Common.{refl}
use Rattle.sp_service_turns.proofs.EndingLemmas.{finishes}
use Rattle.sp_service_turns.proofs.many_turns.serve.Goals as goal

pub returns-in-Ok-clause-ends : goal.returns-in-Ok-clause-ends
returns-in-Ok-clause-ends g c =
    finishes g.N.Core.steps g.N.Core.indexes c.args.turns c.args.turns c.args.daemon c.make_turns.new.daemon _ _ c.in-Ok.ensures.made _ c.finish.result refl
    c.finish.ensures.ends
