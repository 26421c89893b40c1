use Rattle.std.proofs.Common.{◌-◌, length, sym, ap, ◌∙◌, arith}
use Rattle.std.specs.Option.{option_copied}
use Rattle.sp_base.specs.declared.limits.TheConstants.{MAX_MESSAGES}
use Rattle.sp_prio.proofs.FlightLemmas.{filled_none, filled_some}
use Rattle.sp_prio.specs.Flight.{with_flight}
use Rattle.sp_prio.specs.declared.flight.Flight.{Flight}
use Rattle.sp_rules.specs.PrioPeer.{PrioPeer, filled}
use Rattle.sp_rules.specs.Store.{next_besides}
use Rattle.sp_prio.proofs.peer.Peer.+filled.Goals as goal

pub returns-in-Some-clause-row : goal.returns-in-Some-clause-row
returns-in-Some-clause-row t c =
    let next = ap (λ (q : PrioPeer). next_besides q.store c.args.flight.pairs c.args.flight.cursor) (sym c.self.view_is) ∙ sym c.next_besides.ensures
    ∙ ap option_copied c.in-Some.is in
    c.filled.ensures.row ∙ ap (λ (f : Flight). filled (MAX_MESSAGES - length f.pairs) (with_flight c.args.self.now f)) c.launched.ensures
    ∙ sym (filled_some c.args.self.now c.args.flight c.in-Some.entry.now (omega (arith, c.len.ensures.few)) next)

pub returns-in-None-clause-row : goal.returns-in-None-clause-row
returns-in-None-clause-row t c =
    let none = ap (λ (q : PrioPeer). next_besides q.store c.args.flight.pairs c.args.flight.cursor) (sym c.self.view_is) ∙ sym c.next_besides.ensures
    ∙ ap option_copied c.in-None.is in
    sym (filled_none (MAX_MESSAGES - length c.args.flight.pairs) (with_flight c.args.self.now c.args.flight) none)
