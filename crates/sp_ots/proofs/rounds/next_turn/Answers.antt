use Rattle.std.proofs.Common.{arith}
use Rattle.sp_ots.proofs.Windows.{moved}
use Rattle.sp_ots.proofs.rounds.next_turn.Goals as goal

pub returns : goal.returns
returns g c = λ ms hash block held.
    let s1 = c.four_steps-first.ensures ms hash block (moved hash block ms _ _ _ _ (omega arith) held) in
    let s2 = c.four_steps-second.ensures ms hash block s1 in
    let s3 = c.four_steps-third.ensures ms hash block s2 in
    let s4 = c.four_steps.ensures ms hash block s3 in
    moved hash block ms _ _ _ _ (omega arith) s4
