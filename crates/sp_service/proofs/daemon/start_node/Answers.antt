use Rattle.std.proofs.Common.{ap}
use Rattle.sp_service.proofs.Beginnings.{begins_so, both_ok, fails_so, map_err}
use Rattle.sp_service.proofs.daemon.start_node.Goals as goal

pub returns-in-Ok-clause-begins : goal.returns-in-Ok-clause-begins
returns-in-Ok-clause-begins g c =
    both_ok c.begin.result _ _ _
    (λ daemon given first. begins_so c.args.config.now c.args.fitted.topology c.args.started c.in-Ok.station c.opening_of-opening.result c.args.peers.items _ _
    daemon c.in-Ok.ensures
    c.opening_of-opening.ensures c.requires.peers (given.0, given.1, ap (λ peers. peers.items) given.2, given.3, given.4) first)
    c.begin.ensures.begun c.begin.ensures.written

pub returns-in-Ok-clause-ended : goal.returns-in-Ok-clause-ended
returns-in-Ok-clause-ended g c = λ wire clock file turns.
    map_err c.begin.result _ _
    (λ ended fails. fails_so c.args.config.now c.args.fitted.topology turns c.args.started c.in-Ok.station c.opening_of-opening.result ended wire clock file _ _
    c.in-Ok.ensures
    c.opening_of-opening.ensures fails)
    c.begin.ensures.failed
