use Rattle.std.proofs.Common.{◌≤◌, ◌++◌, ℕ, ap, arith, drop, length, length-append}
use Rattle.std.proofs.lemmas.List.{length-take}
use Rattle.sp_service_turns.proofs.EndingLemmas.{ended_by}
use Rattle.sp_service_turns.proofs.RunLemmas.{four_lost}
use Rattle.sp_service_turns.proofs.daemon.Daemon.turn.Goals as goal

pub overflow_add-self-in-Ok : goal.overflow_add-self-in-Ok
overflow_add-self-in-Ok g c =
    let done = c.in-Ok.ensures.done in
    let four : c.in-Ok.lost ≤ 4 = rw done.lost_are (four_lost c.polled_by-polled.result done.t) in
    omega (arith, four)

pub invariant_of-self-clause-few_lost : goal.invariant_of-self-clause-few_lost
invariant_of-self-clause-few_lost g c =
    let done = c.in-Ok.ensures.done in
    let four : c.in-Ok.lost ≤ 4 = rw done.lost_are (four_lost c.polled_by-polled.result done.t) in
    omega (arith, four)

pub invariant_of-self-clause-room : goal.invariant_of-self-clause-room
invariant_of-self-clause-room g c =
    let new = c.turn.new.buf in
    let old = c.args.self.now.buffer in
    let kept = c.turn.auto.buf in
    let len = c.deref_mut.ensures.len in
    let value = ap length c.deref_mut.ensures.value in
    let all = length-take old.len (new ++ drop (length new) old.items) in
    let both = length-append new (drop (length new) old.items) in
    omega (arith, all, both, len, value)

pub returns-in-Err-clause-ended : goal.returns-in-Err-clause-ended
returns-in-Err-clause-ended g c =
    let early = rw (c.polled_by-polled.ensures, c.deref.ensures.value, c.deref-2.ensures.value) at c.in-Err.ensures.early in
    ended_by ℕ g.N.Core.steps g.N.Core.indexes c.args.self.now.peers.items _ c.args.self.now.node _ c.args.self.now.keys c.in-Err.ended c.stopped.result _ _ _ _
    _ _ _ _ _ early
    c.in-Err.ensures.unmoved c.in-Err.ensures.spent c.stopped.ensures.stops
