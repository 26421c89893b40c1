-- The sessions stay where the clock is read.
use Rattle.std.proofs.Common.{◌≡◌, IfOk, List, ℕ, Result, Ok, Err, ap, subst}
use Rattle.sp_base.specs.declared.memory.Memory.{Memory}
use Rattle.sp_rules.specs.Steps as steps
use Rattle.sp_service_station.specs.Stations.{Gives, Station, StationStep, node_of}
use Rattle.sp_service_station.specs.Texts.{answer_text}
use Rattle.sp_service_station.proofs.station.StationCore.tick.Goals as goal
use Rattle.sp_service_turns.specs.Inputs.{Tick}

gives_step : (old new : Station) (now : ℕ) (r : Result (List ℕ) Memory)
    → IfOk r (λ answer. Gives answer_text (node_of old) (steps.Tick now) answer (node_of new)) → new.clients ≡ old.clients
    → IfOk r (λ answer. StationStep old (Tick now) answer new)
gives_step old new now (Ok answer) gives same = (gives, same)
gives_step old new now (Err refused) gives same = tt

pub returns-clause-step : goal.returns-clause-step
returns-clause-step c =
    gives_step c.args.self.now (record { clients = c.self.inside.clients; local = record c.self.inside.local { node = c.tick.new.node } }) c.args.now
    c.tick.result
    (subst (λ (s : Station). IfOk c.tick.result (λ answer. Gives answer_text (node_of s) (steps.Tick c.args.now) answer c.tick.new.node.state))
    c.self.view_is c.tick.ensures.gives) (ap (λ (s : Station). s.clients) c.self.view_is)
