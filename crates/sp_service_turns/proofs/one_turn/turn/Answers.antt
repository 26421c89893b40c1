use Rattle.sp_service_turns.proofs.EarlyLemmas.{at_client, at_overlay, at_poll, at_restock, at_tick, broken_on}
use Rattle.sp_service_turns.proofs.KeyLemmas.{held_on, if_broken}
use Rattle.sp_service_turns.proofs.TurnLemmas.{whole}
use Rattle.sp_service_turns.proofs.one_turn.turn.Goals as goal

pub returns-clause-done : goal.returns-clause-done
returns-clause-done g c =
    whole g.N.Core.steps g.N.Core.indexes c.args.peers.now c.args.polled _ _ _ _ _ _ _ _ _ _ _ _ _ _ _ _ _ _ _ _ _ _ _ _ _ c.in_ok-restock.ensures.restocked
    c.in_ok-tick.ensures.ticked
    c.in_ok-tick.ensures.uses c.in_ok-overlay_lost.ensures.heard c.in_ok-overlay_lost.ensures.uses c.in_ok-client_lost.ensures.served
    c.in_ok-poll_lost.ensures.polled

pub returns-clause-held : goal.returns-clause-held
returns-clause-held g c =
    held_on _ _ _ _ _
    (held_on _ _ _ _ _ (held_on _ _ _ _ _ (held_on _ _ _ _ _ c.in_ok-restock.ensures.held c.in_ok-tick.ensures.uses) c.in_ok-overlay_lost.ensures.uses)
    c.in_ok-client_lost.ensures.uses) c.in_ok-poll_lost.ensures.uses

pub returns-in_err-restock-clause-early : goal.returns-in_err-restock-clause-early
returns-in_err-restock-clause-early g c =
    broken_on (Unit {0}) c.from_residual.result c.in_err-restock.field-0.0 c.from_residual.ensures.1
    (λ early. at_restock g.N.Core.steps g.N.Core.indexes c.args.peers.now c.args.polled early) c.in_err-restock.ensures.early

pub returns-in_err-tick-clause-early : goal.returns-in_err-tick-clause-early
returns-in_err-tick-clause-early g c =
    if_broken c.from_residual-in_err-tick.result
    (at_tick g.N.Core.steps g.N.Core.indexes c.args.peers.now c.args.polled c.in_ok-restock.ensures.restocked c.in_err-tick.ensures.early)

pub returns-in_err-overlay_lost-clause-early : goal.returns-in_err-overlay_lost-clause-early
returns-in_err-overlay_lost-clause-early g c =
    if_broken c.from_residual-in_err-overlay_lost.result
    (at_overlay g.N.Core.steps g.N.Core.indexes c.args.peers.now c.args.polled c.in_ok-restock.ensures.restocked c.in_ok-tick.ensures.ticked
    c.in_err-overlay_lost.ensures.early)

pub returns-in_err-client_lost-clause-early : goal.returns-in_err-client_lost-clause-early
returns-in_err-client_lost-clause-early g c =
    if_broken c.from_residual-in_err-client_lost.result
    (at_client g.N.Core.steps g.N.Core.indexes c.args.peers.now c.args.polled c.in_ok-restock.ensures.restocked c.in_ok-tick.ensures.ticked
    c.in_ok-overlay_lost.ensures.heard
    c.in_err-client_lost.ensures.early)

pub returns-in_err-poll_lost-clause-early : goal.returns-in_err-poll_lost-clause-early
returns-in_err-poll_lost-clause-early g c =
    if_broken c.from_residual-in_err-poll_lost.result
    (at_poll g.N.Core.steps g.N.Core.indexes c.args.peers.now c.args.polled c.in_ok-restock.ensures.restocked c.in_ok-tick.ensures.ticked
    c.in_ok-overlay_lost.ensures.heard
    c.in_ok-tick.ensures.uses c.in_ok-overlay_lost.ensures.uses c.in_ok-client_lost.ensures.served c.in_err-poll_lost.ensures.silent
    c.in_err-poll_lost.ensures.early)
