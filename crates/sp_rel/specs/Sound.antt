-- How a row and a seat in memory are seen, and what always holds of them.
use Rattle.std.specs.Prelude.{ℕ, ◌≡◌, ◌==◌, ◌&&◌, not, Bool, true, false, List, [], Option}
use Rattle.sp_base.specs.Position.{Position, start, empty_buffer}
use Rattle.sp_base.specs.declared.id.Flow.{Flow}
use Rattle.sp_base.specs.declared.id.NodeId.{NodeId}
use Rattle.sp_msg.specs.declared.kept.Kept.{Kept}
use Rattle.sp_flow.specs.Inboxes.{empty_inbox}
use Rattle.sp_rel.specs.Rows.{RowState}
use Rattle.sp_rel.specs.Seats.{SeatState}
use Rattle.sp_rel.specs.declared.held.Held.{Held}
use Rattle.sp_rel.specs.declared.held.Held.TheVariants as helds

abbrev pub is_active : Held → Bool
is_active helds.Idle = false
is_active (helds.Relay buffer) = true
is_active (helds.End inbox) = true

-- where a flow stands that is held so
abbrev pub at_of : Held → Position Kept
at_of helds.Idle = start
at_of (helds.Relay buffer) = buffer.at
at_of (helds.End inbox) = record { base = inbox.base; have = inbox.have; list = [] }

-- the messages that wait for a client in what is held
abbrev pub inbox_of : Held → List (List ℕ)
inbox_of helds.Idle = []
inbox_of (helds.Relay buffer) = []
inbox_of (helds.End inbox) = inbox.items

-- it ended here, or it is as its memory says
abbrev pub row_of : NodeId → ℕ → Flow → Held → Bool → Option Kept → RowState
row_of me bound flow held ended ack = record {
  me = me;
  bound = bound;
  state = record { src = flow.src; dst = flow.dst; active = is_active held && not ended; at = at_of held; ack = ack; inbox = inbox_of held };
}

-- the seat that what is held gives
abbrev pub seat_of : NodeId → ℕ → Flow → Held → SeatState
seat_of me bound flow held = record { me = me; bound = bound; flow = flow; holds = is_active held }

-- the destination has an inbox, and any other node a list, of this bound
abbrev pub Fits : NodeId → ℕ → Flow → Held → Type 0
Fits me bound flow helds.Idle = Unit {0}
Fits me bound flow (helds.Relay buffer) = (buffer.bound ≡ bound) × ((flow.dst.0 == me.0) ≡ false)
Fits me bound flow (helds.End inbox) = (inbox.bound ≡ bound) × ((flow.dst.0 == me.0) ≡ true)

-- where the flow ended there is an inbox, with numbers as at the start
abbrev pub HasEnded : Held → Bool → Type 0
HasEnded helds.Idle ended = ended ≡ false
HasEnded (helds.Relay buffer) ended = ended ≡ false
HasEnded (helds.End inbox) ended = ended ≡ true → (inbox.base ≡ 0) × (inbox.have ≡ 0)

-- the same, before the first message
abbrev pub FitsNew : NodeId → ℕ → Flow → Held → Type 0
FitsNew me bound flow helds.Idle = Unit {0}
FitsNew me bound flow (helds.Relay buffer) = (buffer ≡ empty_buffer bound) × ((flow.dst.0 == me.0) ≡ false)
FitsNew me bound flow (helds.End inbox) = (inbox ≡ empty_inbox bound) × ((flow.dst.0 == me.0) ≡ true)
