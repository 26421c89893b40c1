use Rattle.std.proofs.lemmas.Result.{on_ok_weaker}
use Rattle.sp_keystate.proofs.Pieces.{first_moments, pieces_change, second_moments, third_moments}
use Rattle.sp_keystate.proofs.change.change.Goals as goal

pub returns-clause-done : goal.returns-clause-done
returns-clause-done g c =
    on_ok_weaker c.unlock.result (λ done. pieces_change _ _ _ _ _ c.args.numbers.now c.in_ok-close.ensures.done c.in_ok-number.ensures.done done)
    c.unlock.ensures.done

pub returns-in_err-number-clause-moments : goal.returns-in_err-number-clause-moments
returns-in_err-number-clause-moments g c =
    second_moments _ _ _ _ _ _ c.args.numbers.now c.in_ok-close.ensures.done (first_moments _ _ _ _ c.args.numbers.now c.in_ok-close.ensures.moments)
    c.in_err-number.ensures.moments

pub returns-clause-moments : goal.returns-clause-moments
returns-clause-moments g c =
    third_moments _ _ _ _ _ _ _ c.args.numbers.now c.in_ok-close.ensures.done c.in_ok-number.ensures.done
    (second_moments _ _ _ _ _ _ c.args.numbers.now c.in_ok-close.ensures.done (first_moments _ _ _ _ c.args.numbers.now c.in_ok-close.ensures.moments)
    c.in_ok-number.ensures.moments)
    c.unlock.ensures.moments
