-- The seat of a flow, as its row needs it.
use Rattle.std.proofs.Common.{true, sym, ap, ◌∙◌}
use Rattle.sp_base.specs.declared.id.Flow.{Flow}
use Rattle.sp_rel.specs.Seated.{IsSeated}
use Rattle.sp_rel.specs.Rows as rows
use Rattle.sp_rel.specs.Seats.{SeatState}
use Rattle.sp_rules.proofs.FlowJudged.{found_ends}
use Rattle.sp_rules.specs.Rel.{RelState, flow_in}

-- the seat of a flow is that of its row
pub seat_fits : (r : RelState) (flow : Flow) (seat : SeatState) → IsSeated r flow seat → rows.IsSeated r.me r.bound (flow_in r.flows flow) seat
seat_fits r flow seat seated off = seated off ∙ ap (λ (e : Flow). record { me = r.me; bound = r.bound; flow = e; holds = true }) (sym (found_ends r.flows flow))
