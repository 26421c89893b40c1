use Rattle.std.proofs.Common.{arith}
use Rattle.sp_ots.proofs.Windows.{moved}
use Rattle.sp_ots.proofs.rounds.four_steps.Goals as goal

pub returns : goal.returns
returns g c = λ ms hash block held.
    let s1 = c.step-first.ensures ms hash block held in
    let s2 = c.step-second.ensures ms hash block s1 in
    let s3 = c.step-third.ensures ms hash block (moved hash block ms _ _ _ _ (omega arith) s2) in
    let s4 = c.step.ensures ms hash block (moved hash block ms _ _ _ _ (omega arith) s3) in
    moved hash block ms _ _ _ _ (omega arith) s4
