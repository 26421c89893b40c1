-- The acknowledgement of a slot: what is ready of it before anything is taken, and how many signatures may be checked for it. One that names other
-- boots than those that are held is never new, so none is checked for it.
use Rattle.std.specs.Prelude.{ℕ, ◌≡◌, ◌&&◌, Bool, true, false, List, Option, None, Some, IfSome, is_some}
use Rattle.sp_base.specs.declared.id.Flow.{Flow}
use Rattle.sp_msg.specs.declared.kept.Kept.{Kept}
use Rattle.sp_rel.specs.Seated.{IsSeated}
use Rattle.sp_rel.specs.Seats.{SeatState}
use Rattle.sp_rules.specs.Lives.{is_dated}
use Rattle.sp_rules.specs.Parts.{Fixed}
use Rattle.sp_rules.specs.Rel.{RelState, judge_ack_of}
use Rattle.sp_rules.specs.declared.lives.Life.{Life}
use Rattle.sp_rules.specs.declared.rel.AckJudged.{AckJudged}
use Rattle.sp_rules.specs.declared.rel.AckJudged.TheVariants as acks
use Rattle.sp_node_arrivals.specs.Signed.{is_right, one_if}

pub record IsAckReady (f : Fixed) (lives : List Life) (r : RelState) (flow : Flow) (o : Kept) (ready : Option (Kept × SeatState)) : Type 0 where
  pub copy : IfSome ready (λ a. a.0 ≡ o)
  pub seat : IfSome ready (λ a. IsSeated r flow a.1)
  pub right : is_dated lives o.body ≡ true → judge_ack_of r flow o.body ≡ acks.New → is_some ready ≡ is_right f o

-- an acknowledgement that is new
abbrev pub is_new_ack : AckJudged → Bool
is_new_ack acks.New = true
is_new_ack _ = false

-- it may be new: by the boots that it names and by its judgement
abbrev pub may_be_new_ack : List Life → RelState → Flow → Kept → Bool
may_be_new_ack lives r flow o = is_dated lives o.body && is_new_ack (judge_ack_of r flow o.body)

-- how many signatures of an acknowledgement may be checked
abbrev pub ack_checks : List Life → RelState → Flow → Kept → ℕ
ack_checks lives r flow o = one_if (may_be_new_ack lives r flow o)

-- the acknowledgement is new: it may be, and its signature is right
abbrev pub is_acked : Fixed → List Life → RelState → Flow → Kept → Bool
is_acked f lives r flow o = may_be_new_ack lives r flow o && is_right f o

-- whether the slot's acknowledgement is taken
abbrev pub acked_by : Fixed → List Life → RelState → Flow → Option Kept → Bool
acked_by f lives r flow None = false
acked_by f lives r flow (Some o) = is_acked f lives r flow o
