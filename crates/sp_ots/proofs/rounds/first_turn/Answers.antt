use Rattle.sp_ots.proofs.rounds.first_turn.Goals as goal

pub returns : goal.returns
returns g c = λ ms hash block window held.
    let s1 = c.first_four_steps-first.ensures ms hash block window held in
    let s2 = c.first_four_steps-second.ensures ms hash block window s1 in
    let s3 = c.first_four_steps-third.ensures ms hash block window s2 in
    c.first_four_steps.ensures ms hash block window s3
