use Rattle.std.proofs.Common.{◌≡◌, ◌+◌, ◌-◌, ◌%◌, [], get_or, slice_index, ◌∙◌, arith}
use Rattle.sha2.specs.Sha256.{rounds, schedule}
use Rattle.sp_ots.proofs.Windows.{after_next, words}
use Rattle.sp_ots.proofs.rounds.first_step.Goals as goal

pub returns : goal.returns
returns g c = λ ms hash block window held.
    let t = c.args.t in
    let place : (16 + t) % 16 ≡ t = omega arith in
    let number : 16 + t - 16 ≡ t = omega arith in
    let word : get_or c.args.w.now t [] ≡ words block ms t = rw (place, number) at (window.1 t (omega arith)) in
    c.round.ensures ms (λ m. rounds (hash m) (schedule (block m) 48) t) (λ m. slice_index (schedule (block m) 48) t) held word ∙ after_next hash block ms t
