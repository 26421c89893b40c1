-- When a call has the memory that it needs: the flow is active, or the seat holds its memory.
use Rattle.std.specs.Prelude.{◌≡◌, false, true, not}
use Rattle.sp_base.specs.declared.id.Flow.{Flow}
use Rattle.sp_rel.specs.Seats.{SeatState}
use Rattle.sp_rules.specs.Rel.{RelState, flow_in}

abbrev pub IsSeated : RelState → Flow → SeatState → Type 0
IsSeated r flow seat = (flow_in r.flows flow).active ≡ false → seat ≡ record { me = r.me; bound = r.bound; flow = flow; holds = true }

-- the seat that a flow needs now: memory where it isn't active
abbrev pub seat_for : RelState → Flow → SeatState
seat_for r flow = record { me = r.me; bound = r.bound; flow = flow; holds = not (flow_in r.flows flow).active }
