use Rattle.std.proofs.Common.{◌≡◌, ◌+◌, ◌*◌, slice_index, ◌∙◌, arith}
use Rattle.sha2.specs.Sha256.{rounds, schedule}
use Rattle.sp_ots.proofs.Windows.{after_next}
use Rattle.sp_ots.proofs.rounds.step.Goals as goal

pub returns : goal.returns
returns g c = λ ms hash block held.
    let t = 16 * c.args.turn + c.args.place in
    let word = c.next_word-word.ensures ms block t (omega arith) (omega arith) (omega arith) held.0 in
    let next = c.round.ensures ms (λ m. rounds (hash m) (schedule (block m) 48) t) (λ m. slice_index (schedule (block m) 48) t) held.1 word.0
    ∙ after_next hash block ms t in
    let e : t + 1 ≡ 16 * c.args.turn + (c.args.place + 1) = omega arith in
    rw (← e) (word.1, next)
