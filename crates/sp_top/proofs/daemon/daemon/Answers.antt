use Rattle.std.proofs.Common.{ap, ◌∙◌}
use Rattle.sp_replay.specs.declared.outcome.Outcome.{Outcome}
use Rattle.sp_top.proofs.Services.{served}
use Rattle.sp_top.specs.Statuses.{served_status}
use Rattle.sp_top.proofs.daemon.daemon.Goals as goal

pub returns-clause-ends : goal.returns-clause-ends
returns-clause-ends g c =
    served _ _ c.in-Ok.input.bytes.items c.in-Ok.input.is_cut c.serve-served.result _ _ _ c.in-Ok.ensures.bytes
    (ap (λ (o : Outcome). o.status) c.ended-2.ensures ∙ c.status_of.ensures)
    (rw c.as_slice.ensures.value at c.serve-served.ensures.ends)

pub returns-clause-sunk : goal.returns-clause-sunk
returns-clause-sunk g c = λ other.
    c.serve-served.ensures.sunk (λ is. other (ap (λ (o : Outcome). o.status) c.ended-2.ensures ∙ c.status_of.ensures ∙ ap served_status is))

pub returns-clause-opens : goal.returns-clause-opens
returns-clause-opens g c = λ wire sink.
    let status = ap (λ (o : Outcome). o.status) c.ended-2.ensures ∙ c.status_of.ensures in
    c.serve-served.ensures.opens (λ is. wire (status ∙ ap served_status is)) (λ is. sink (status ∙ ap served_status is))
