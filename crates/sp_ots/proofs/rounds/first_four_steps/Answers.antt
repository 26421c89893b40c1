use Rattle.std.proofs.Common.{ap, ◌∙◌, arith}
use Rattle.sp_ots.specs.Blocks.{after_rounds}
use Rattle.sp_ots.proofs.rounds.first_four_steps.Goals as goal

pub returns : goal.returns
returns g c = λ ms hash block window held.
    let after = after_rounds hash block ms in
    let s1 = c.first_step-first.ensures ms hash block window held in
    let s2 = c.first_step-second.ensures ms hash block window s1 in
    let s3 = c.first_step-third.ensures ms hash block window (s2 ∙ ap after (omega arith)) in
    c.first_step.ensures ms hash block window (s3 ∙ ap after (omega arith)) ∙ ap after (omega arith)
