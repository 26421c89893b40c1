use Rattle.std.proofs.Common.{refl}
use Rattle.sp_top.proofs.SaidRuns.{forgotten, kept_by_said}
use Rattle.sp_top.proofs.top.run.Goals as goal

pub returns-in-Err-clause-said : goal.returns-in-Err-clause-said
returns-in-Err-clause-said g c =
    forgotten _ _ c.ended.result.world c.ended.result.status _ (rw c.ended.ensures refl) (rw c.ended.ensures refl)

pub returns-in-Err-clause-kept : goal.returns-in-Err-clause-kept
returns-in-Err-clause-kept g c = kept_by_said _ _ _
