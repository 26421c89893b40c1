-- A datagram uses no index.
use Rattle.std.proofs.Common.{IfOk, Result, Ok, Err}
use Rattle.sp_node.specs.Calls.{taken_in}
use Rattle.sp_rules.specs.Steps.{Datagram}
use Rattle.sp_service_station.proofs.Uses.{uses}
use Rattle.sp_service_station.proofs.asked.datagram.Goals as goal

whatever : {A E : Type 0} (P : Type 0) (r : Result A E) → P → IfOk r (λ x. P)
whatever P (Ok x) p = p
whatever P (Err e) p = tt

pub returns-in-Ok-clause-uses : goal.returns-in-Ok-clause-uses
returns-in-Ok-clause-uses c =
    let old = c.args.node.now.state in
    whatever _ c.arrived_text.result
    (uses old (Datagram c.args.from c.args.bytes.now) (taken_in old c.args.from c.args.bytes.now c.in-Ok.step) c.datagram.new.self.state
    c.in-Ok.ensures.step)
