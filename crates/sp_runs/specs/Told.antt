-- What events and their journal tell: what was sent, what was delivered and what was signed.
use Rattle.std.specs.Prelude.{ℕ, ◌==◌, ◌&&◌, List, [], ◌∷◌, if◌then◌else◌}
use Rattle.std.specs.List.{flat_map, zip}
use Rattle.sp_base.specs.declared.id.NodeId.{NodeId}
use Rattle.sp_msg.specs.declared.effect.Effect.{Effect}
use Rattle.sp_msg.specs.declared.effect.Effect.TheVariants as effects
use Rattle.sp_rules.specs.declared.kflow.FlowKind.{FlowKind}
use Rattle.sp_rules.specs.declared.kflow.FlowKind.TheVariants as kinds
use Rattle.sp_journal.specs.declared.entry.Entry.{Entry}
use Rattle.sp_journal.specs.declared.entry.Reply.{Reply}
use Rattle.sp_journal.specs.declared.entry.Reply.TheVariants as replies
use Rattle.sp_schedule_events.specs.declared.event.Event.{Event}
use Rattle.sp_schedule_events.specs.declared.event.Event.TheVariants as events
use Rattle.sp_runs.specs.Inputs.{acting}

-- a message: its number and its payload
abbrev pub Message : Type 0
Message = ℕ × List ℕ

-- what each event with its entry tells, in order
abbrev pub told : {X : Type 0} → (Event × Entry → List X) → List Event → List Entry → List X
told tells es js = flat_map tells (zip es js)

-- what the effects at events of u tell
abbrev pub told_at : {X : Type 0} → NodeId → (Effect → List X) → Event × Entry → List X
told_at u tells p = if (acting p.0).0 == u.0 then flat_map tells p.1.effects else []

-- ---- reliable messages of either kind

-- a client's message from s to d and its number
abbrev pub accepted_in : FlowKind → NodeId → NodeId → Event → Reply → List Message
accepted_in kinds.Plain s d (events.Rel from to payload) (replies.Accepted seq) = if (from.0 == s.0) && (to.0 == d.0) then (seq, payload) ∷ [] else []
accepted_in kinds.Paths s d (events.Krel from to paths payload) (replies.Accepted seq) =
    if (from.0 == s.0) && (to.0 == d.0) then (seq, payload) ∷ [] else []
accepted_in kind s d _ _ = []

-- accepted from clients of s for d
abbrev pub sent : FlowKind → List Event → List Entry → NodeId → NodeId → List Message
sent kind es js s d = told (λ p. accepted_in kind s d p.0 p.1.reply) es js

-- a delivery of what came from s
abbrev pub delivered_by : FlowKind → NodeId → Effect → List Message
delivered_by kinds.Plain s (effects.Delivered src seq payload) = if src.0 == s.0 then (seq, payload) ∷ [] else []
delivered_by kinds.Paths s (effects.DeliveredKrel src seq payload) = if src.0 == s.0 then (seq, payload) ∷ [] else []
delivered_by kind s _ = []

-- delivered at d of what came from s
abbrev pub delivered : FlowKind → List Event → List Entry → NodeId → NodeId → List Message
delivered kind es js s d = told (told_at d (delivered_by kind s)) es js

-- ---- priority messages

-- the same of a priority message
abbrev pub prio_accepted_in : NodeId → NodeId → Event → Reply → List Message
prio_accepted_in s d (events.Prio from to prio expiry paths payload) (replies.Accepted seq) =
    if (from.0 == s.0) && (to.0 == d.0) then (seq, payload) ∷ [] else []
prio_accepted_in s d _ _ = []

-- priority messages that were accepted from clients of s for d
abbrev pub prio_sent : List Event → List Entry → NodeId → NodeId → List Message
prio_sent es js s d = told (λ p. prio_accepted_in s d p.0 p.1.reply) es js

-- a priority delivery of what came from s
abbrev pub prio_by : NodeId → Effect → List Message
prio_by s (effects.DeliveredPrio src seq payload) = if src.0 == s.0 then (seq, payload) ∷ [] else []
prio_by s _ = []

-- priority messages that were delivered at d of what came from s
abbrev pub prio_delivered : List Event → List Entry → NodeId → NodeId → List Message
prio_delivered es js s d = told (told_at d (prio_by s)) es js

-- ---- signatures

-- a message that was signed
abbrev pub signed_by : Effect → List (List ℕ)
signed_by (effects.Signed bytes) = bytes ∷ []
signed_by _ = []

-- the messages that u signed, as bytes
abbrev pub signed : List Event → List Entry → NodeId → List (List ℕ)
signed es js u = told (told_at u signed_by) es js

-- ---- effects

-- all effects at events of u, in order
abbrev pub effects_at : List Event → List Entry → NodeId → List Effect
effects_at es js u = told (told_at u (λ e. e ∷ [])) es js
