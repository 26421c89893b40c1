use Rattle.std.proofs.Common.{ℕ, None, subst}
use Rattle.sp_keystate.specs.declared.starts.TheConstants.{RESERVED}
use Rattle.sp_keystate.specs.Starting.{Starts}
use Rattle.sp_service.proofs.Beginnings.{configured_so, map_err, map_ok}
use Rattle.sp_service.proofs.Endings.{opened_ends, unopened}
use Rattle.sp_service.proofs.Openings.{is_opening}
use Rattle.sp_service.proofs.daemon.start_configured.Goals as goal

pub start_node-requires-clause-opening : goal.start_node-requires-clause-opening
start_node-requires-clause-opening g c =
    let opened = c.in-Ok-open.ensures.opened None in
    is_opening c.args.fitted.topology (g.P.Keeper.disk c.args.keeper.now) (g.P.Keeper.disk c.open.new.keeper) c.in-Ok-open.started
    (subst (λ (n : ℕ). Starts (g.P.Keeper.disk c.args.keeper.now) (g.P.Keeper.disk c.open.new.keeper) RESERVED n c.in-Ok-open.started) c.total.ensures
    opened.starts)

pub returns-in-Ok-open-clause-begins : goal.returns-in-Ok-open-clause-begins
returns-in-Ok-open-clause-begins g c = λ clock.
    map_ok c.start_node.result _ _
    (λ daemon begun. configured_so c.args.config.now c.args.fitted.topology c.in-Ok-open.started _ _ clock _ _ _ _ _ daemon
    (rw (c.ports_of.ensures, c.total.ensures) at (c.in-Ok-open.ensures.opened clock)) c.in-Ok-open.ensures.safe begun)
    c.start_node.ensures.begins

pub returns-in-Ok-open-clause-ended : goal.returns-in-Ok-open-clause-ended
returns-in-Ok-open-clause-ended g c = λ clock turns.
    map_err c.start_node.result _ _
    (λ ended ends. opened_ends c.args.config.now c.args.fitted.topology turns c.in-Ok-open.started ended _ _ _
    (rw (c.ports_of.ensures, c.total.ensures) at (c.in-Ok-open.ensures.opened clock)) ends)
    (c.start_node.ensures.ended (g.W.Wire.told c.open.new.wire) clock
    (record { disk = g.P.Keeper.disk c.open.new.keeper; past = g.P.Keeper.past c.open.new.keeper; faults = g.P.Keeper.faults c.open.new.keeper }) turns)

pub returns-in-Err-clause-ended : goal.returns-in-Err-clause-ended
returns-in-Err-clause-ended g c = λ clock turns.
    unopened c.args.config.now c.args.fitted.topology turns c.in-Err.ended _ _ (rw (c.ports_of.ensures, c.total.ensures) at (c.in-Err.ensures.failed clock))
