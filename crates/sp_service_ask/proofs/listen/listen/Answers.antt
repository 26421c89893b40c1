use Rattle.std.proofs.Common.{◌∙◌}
use Rattle.sp_service_ask.proofs.ListenLemmas.{reply_on, silent_on}
use Rattle.sp_service_ask.proofs.listen.listen.Goals as goal

pub returns-in-Some-clause-listened : goal.returns-in-Some-clause-listened
returns-in-Some-clause-listened g c =
    reply_on _ _ _ c.turns._made _ _ _ _ c.turns-test.true c.turns.invariant.listened c.in-Some.ensures.heard

pub turns-preserved : goal.turns-preserved
turns-preserved g c = record {
  listened = silent_on _ _ _ _ _ _ c.turns.invariant.listened (rw c.in_default.is at c.hear.ensures.heard);
  opens = c.hear.ensures.opens ∙ c.turns.invariant.opens;
}
