-- Up to which number a destination has acknowledged a flow, read off what it signed.
use Rattle.std.specs.Prelude.{ℕ, ◌==◌, ◌&&◌, List, [], ◌∷◌, Result, Ok, if◌then◌else◌}
use Rattle.std.specs.List.{flat_map}
use Rattle.sp_base.specs.declared.id.NodeId.{NodeId}
use Rattle.sp_msg.specs.declared.body.Body.{Body}
use Rattle.sp_msg.specs.declared.body.Body.TheVariants as bodies
use Rattle.sp_msg.specs.declared.refused.MsgRefused.{MsgRefused}
use Rattle.sp_rules.specs.Arts.{Arts}
use Rattle.sp_rules.specs.Window.{greatest}
use Rattle.sp_rules.specs.declared.kflow.FlowKind.{FlowKind}
use Rattle.sp_rules.specs.declared.kflow.FlowKind.TheVariants as kinds
use Rattle.sp_runs.specs.Told.{signed}
use Rattle.sp_journal.specs.declared.entry.Entry.{Entry}
use Rattle.sp_schedule_events.specs.declared.event.Event.{Event}

-- the number of the acknowledgement of this flow of a kind that a message is
abbrev pub ack_in : FlowKind → NodeId → NodeId → Result Body MsgRefused → List ℕ
ack_in kinds.Plain s d (Ok (bodies.Ack a)) = if (a.src.0 == s.0) && (a.dst.0 == d.0) then a.seq ∷ [] else []
ack_in kinds.Paths s d (Ok (bodies.Kack a)) = if (a.src.0 == s.0) && (a.dst.0 == d.0) then a.seq ∷ [] else []
ack_in kind s d _ = []

-- those of all messages
abbrev pub acks_in : FlowKind → Arts → NodeId → NodeId → List (List ℕ) → List ℕ
acks_in kind arts s d messages = flat_map (λ bytes. ack_in kind s d (arts.read bytes)) messages

-- the greatest number that d acknowledged, 0 before
abbrev pub acknowledged : FlowKind → Arts → List Event → List Entry → NodeId → NodeId → ℕ
acknowledged kind arts es js s d = greatest (acks_in kind arts s d (signed es js d))
