use Rattle.std.proofs.Common.{ap}
use Rattle.sp_service_station.proofs.Stays.{fixed_by_request, uses_by_request}
use Rattle.sp_service_station.proofs.asked.request.Goals as goal

pub returns-in-Ok-clause-fixed : goal.returns-in-Ok-clause-fixed
returns-in-Ok-clause-fixed c =
    fixed_by_request c.args.clients.now c.args.port c.args.bytes.now c.in-Ok.reply c.datagram.new.self c.args.local.now c.datagram.new.local
    c.in-Ok.ensures.handled

pub returns-in-Err-clause-fixed : goal.returns-in-Err-clause-fixed
returns-in-Err-clause-fixed c = ap (λ l. l.node.state.fixed) c.in-Err.ensures.memory.1

pub returns-in-Ok-clause-uses : goal.returns-in-Ok-clause-uses
returns-in-Ok-clause-uses c =
    uses_by_request c.args.clients.now c.args.port c.args.bytes.now c.in-Ok.reply c.datagram.new.self c.args.local.now c.datagram.new.local
    c.in-Ok.ensures.handled
