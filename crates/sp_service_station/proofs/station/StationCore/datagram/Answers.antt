-- The sessions stay where a neighbour's datagram comes.
use Rattle.std.proofs.Common.{◌≡◌, IfOk, List, ℕ, Result, Ok, Err, ap, subst}
use Rattle.sp_base.specs.declared.id.NodeId.{NodeId}
use Rattle.sp_base.specs.declared.memory.Memory.{Memory}
use Rattle.sp_rules.specs.Steps as steps
use Rattle.sp_service_station.specs.Stations.{Gives, Station, StationStep, node_of}
use Rattle.sp_service_station.specs.Texts.{answer_text}
use Rattle.sp_service_station.proofs.station.StationCore.datagram.Goals as goal
use Rattle.sp_service_turns.specs.Inputs.{Datagram}

gives_step : (old new : Station) (node : NodeId) (bytes : List ℕ) (r : Result (List ℕ) Memory)
    → IfOk r (λ answer. Gives answer_text (node_of old) (steps.Datagram node bytes) answer (node_of new)) → new.clients ≡ old.clients
    → IfOk r (λ answer. StationStep old (Datagram node bytes) answer new)
gives_step old new node bytes (Ok answer) gives same = (gives, same)
gives_step old new node bytes (Err refused) gives same = tt

pub returns-clause-step : goal.returns-clause-step
returns-clause-step c =
    gives_step c.args.self.now (record { clients = c.self.inside.clients; local = record c.self.inside.local { node = c.datagram.new.node } }) c.args.node
    c.args.bytes.now c.datagram.result
    (subst (λ (s : Station). IfOk c.datagram.result
    (λ answer. Gives answer_text (node_of s) (steps.Datagram c.args.node c.args.bytes.now) answer c.datagram.new.node.state))
    c.self.view_is c.datagram.ensures.gives) (ap (λ (s : Station). s.clients) c.self.view_is)
