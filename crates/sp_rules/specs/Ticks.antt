-- A tick: the time goes on, what expired leaves, and at most two acknowledgements are signed: of the plain flow to this node that is next in turn, and then of
-- the one on paths.
use Rattle.std.specs.Prelude.{ℕ, max, List, [], ◌∷◌, ◌++◌, Option, None, Some}
use Rattle.std.specs.Option.{option_map}
use Rattle.sp_base.specs.Cursor.{or_else}
use Rattle.sp_msg.specs.declared.body.Ack.{Ack}
use Rattle.sp_msg.specs.declared.effect.Effect.{Effect}
use Rattle.sp_msg.specs.declared.refused.SendRefused.{SendRefused}
use Rattle.sp_msg.specs.declared.refused.SendRefused.TheVariants as refusals
use Rattle.sp_rules.specs.Arts.{Arts}
use Rattle.sp_rules.specs.Kflow.{ack_body}
use Rattle.sp_rules.specs.Lives.{held_boot}
use Rattle.sp_rules.specs.Node.{NodeState, signed_now, signed_once}
use Rattle.sp_rules.specs.Parts.{flows_of, with_flows}
use Rattle.sp_rules.specs.Prio.{expired, expired_effects}
use Rattle.sp_rules.specs.Rel.{due, settled}
use Rattle.sp_rules.specs.Sends.{signed_effect, signer_refusal}
use Rattle.sp_rules.specs.declared.kflow.FlowKind.{FlowKind}
use Rattle.sp_rules.specs.declared.kflow.FlowKind.TheVariants as kinds
use Rattle.sp_rules.specs.declared.lives.Life.{Life}
use Rattle.sp_rules.specs.declared.node.TickReply.{TickReply}
use Rattle.sp_rules.specs.declared.node.TickReply.TheVariants as replies

-- the time never falls
abbrev pub time_after : NodeState → ℕ → ℕ
time_after n now = max n.now now

-- the time has come, and what expired has left
abbrev pub at_time : NodeState → ℕ → NodeState
at_time n now = record n { now = time_after n now; parts = record n.parts { prio = expired n.parts.prio (time_after n now) } }

-- ---- an acknowledgement of a kind of flows

-- the acknowledgement under the boots that are held of its ends
abbrev pub dated : List Life → Ack → Ack
dated lives a = record a { sboot = held_boot lives a.src; dboot = held_boot lives a.dst }

-- the one that is due, with the boots that the node holds. It doesn't depend on what expired
abbrev pub due_now : FlowKind → NodeState → Option Ack
due_now kind n = option_map (dated n.parts.lives) (due (flows_of kind n.parts))

-- the node after it signed what is due, if something is and nothing refuses
abbrev pub settled_by : Arts → FlowKind → NodeState → Option Ack → Option SendRefused → NodeState
settled_by arts kind n None refusal = n
settled_by arts kind n (Some ack) (Some refusal) = n
settled_by arts kind n (Some ack) None =
    signed_once n (with_flows kind (settled (flows_of kind n.parts) (signed_now arts n (ack_body kind ack))) n.parts)

-- the refusal counts where something is due
abbrev pub refused_where : Option Ack → Option SendRefused → Option SendRefused
refused_where None refusal = None
refused_where (Some ack) refusal = refusal

-- what is told of what was signed
abbrev pub ack_effects : Arts → FlowKind → Option Ack → Option SendRefused → List Effect
ack_effects arts kind None refusal = []
ack_effects arts kind (Some ack) (Some refusal) = []
ack_effects arts kind (Some ack) None = signed_effect arts (ack_body kind ack) ∷ []

-- ---- the tick

-- the node after the acknowledgement of a plain flow
abbrev pub after_plain : Arts → NodeState → ℕ → NodeState
after_plain arts n now = settled_by arts kinds.Plain (at_time n now) (due_now kinds.Plain n) (signer_refusal n.signer)

-- why the second acknowledgement isn't signed. Where the first was refused, so is this one
abbrev pub second_refusal : Arts → NodeState → ℕ → Option SendRefused
second_refusal arts n now = signer_refusal (after_plain arts n now).signer

-- the node after a tick
abbrev pub after_tick : Arts → NodeState → ℕ → NodeState
after_tick arts n now = settled_by arts kinds.Paths (after_plain arts n now) (due_now kinds.Paths n) (second_refusal arts n now)

-- the reply, by the first refusal
abbrev pub reply_of : Option SendRefused → TickReply
reply_of (Some (refusals.Spent index)) = replies.TickSpent index
reply_of (Some (refusals.NotReserved bound)) = replies.TickNotReserved bound
reply_of _ = replies.Ticked

-- what this tick is answered with
abbrev pub tick_reply : Arts → NodeState → ℕ → TickReply
tick_reply arts n now =
    reply_of
    (or_else
    (refused_where (due_now kinds.Plain n) (signer_refusal n.signer))
    (refused_where (due_now kinds.Paths n) (second_refusal arts n now)))

-- what a tick tells: what is over its time first
abbrev pub tick_effects : Arts → NodeState → ℕ → List Effect
tick_effects arts n now =
    expired_effects n.parts.prio (time_after n now)
    ++ (ack_effects arts kinds.Plain (due_now kinds.Plain n) (signer_refusal n.signer)
    ++ ack_effects arts kinds.Paths (due_now kinds.Paths n) (second_refusal arts n now))
