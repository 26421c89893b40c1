use Rattle.std.proofs.Common.{◌≡◌, ◌*◌, ap, ◌∙◌, arith}
use Rattle.sha2.specs.Sha256.{compress, rounds, schedule}
use Rattle.sp_ots.specs.Blocks.{after_rounds}
use Rattle.sp_ots.proofs.block.take_in.Goals as goal

pub schedule-init : goal.schedule-init
unfolding rounds
schedule-init g c = λ ms before block stands blocks.
    let window = c.first_words-w.ensures ms block blocks in
    (window, c.first_turn-v.ensures ms before block window stands)

pub schedule-preserved : goal.schedule-preserved
schedule-preserved g c = λ ms before block stands blocks. c.next_turn.ensures ms before block (c.schedule.invariant ms before block stands blocks)

pub returns : goal.returns
unfolding compress
returns g c = λ ms before block stands blocks.
    let done : 16 * c.schedule.turn ≡ 64 = omega (arith, c.schedule.auto.turn-end (omega arith)) in
    let last = (c.schedule.invariant ms before block stands blocks).1 ∙ ap (after_rounds before block ms) done in
    c.add_states.ensures ms before (λ m. rounds (before m) (schedule (block m) 48) 64) stands last
