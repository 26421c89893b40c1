-- What is due at a tick, before it changes anything: of plain flows, and of flows on paths after that was signed.
use Rattle.std.specs.Prelude.{ℕ, ◌≡◌, ◌+◌, ◌⊎◌, None, Some}
use Rattle.sp_msg.specs.declared.body.Ack.{Ack}
use Rattle.sp_msg.specs.declared.refused.SendRefused.{SendRefused}
use Rattle.sp_rules.specs.Arts.{Arts}
use Rattle.sp_rules.specs.Kflow.{ack_body}
use Rattle.sp_rules.specs.Node.{NodeState}
use Rattle.sp_rules.specs.Sends.{signer_refusal}
use Rattle.sp_rules.specs.Ticks.{due_now, reply_of, settled_by}
use Rattle.sp_rules.specs.declared.kflow.FlowKind.{FlowKind}
use Rattle.sp_rules.specs.declared.kflow.FlowKind.TheVariants as kinds
use Rattle.sp_rules.specs.declared.node.TickReply.{TickReply}
use Rattle.sp_rules.specs.declared.node.TickReply.TheVariants as replies
use Rattle.sp_sign.specs.declared.blank.Blank.{Blank}
use Rattle.sp_node.specs.declared.tick.Due.{Due}
use Rattle.sp_node.specs.declared.tick.Due.TheVariants as dues
use Rattle.sp_node.specs.declared.tick.Dues.{Dues}
use Rattle.sp_node_state.specs.ReadyStates.{IsReadyBlank, later}

-- one is due, and the signer refuses
pub record IsRefused (kind : FlowKind) (n : NodeState) (reply : TickReply) : Type 0 where
  pub ack : Ack
  pub refusal : SendRefused
  pub is_due : due_now kind n ≡ Some ack
  pub refused : signer_refusal n.signer ≡ Some refusal
  pub reply_is : reply ≡ reply_of (Some refusal)

-- this one is due, and is ready
pub record IsReadyAck (kind : FlowKind) (n : NodeState) (blank : Blank) : Type 0 where
  pub ack : Ack
  pub is_due : due_now kind n ≡ Some ack
  pub body : blank.kept.body ≡ ack_body kind ack
  pub ready : IsReadyBlank n blank

-- what is due of a kind of flows
abbrev pub IsDue : FlowKind → NodeState → Due → Type 0
IsDue kind n dues.Nothing = due_now kind n ≡ None
IsDue kind n (dues.Refused reply) = IsRefused kind n reply
IsDue kind n (dues.Ready blank) = IsReadyAck kind n blank

-- how many effects it will tell, which is how many signatures it needs
abbrev pub told_of : Due → ℕ
told_of dues.Nothing = 0
told_of (dues.Refused reply) = 0
told_of (dues.Ready blank) = 1

-- what is due at a node
pub record AreDue (n : NodeState) (d : Dues) : Type 0 where
  pub plain : IsDue kinds.Plain n d.plain
  pub paths : IsDue kinds.Paths (later (told_of d.plain) n) d.paths

-- how many effects both will tell
abbrev pub told_both : Dues → ℕ
told_both d = told_of d.plain + told_of d.paths

-- no signature comes before, or one that the signer makes
abbrev pub MaySign : ℕ → NodeState → Type 0
MaySign used n = (used ≡ 0) ⊎ ((used ≡ 1) × (signer_refusal n.signer ≡ None))

-- the node after the first acknowledgement, and after both
abbrev pub settled_both : Arts → NodeState → NodeState × NodeState
settled_both arts n =
    let first = settled_by arts kinds.Plain n (due_now kinds.Plain n) (signer_refusal n.signer) in
    (first, settled_by arts kinds.Paths first (due_now kinds.Paths n) (signer_refusal first.signer))

-- the first reply that tells a refusal
abbrev pub first_reply : TickReply → TickReply → TickReply
first_reply replies.Ticked paths = paths
first_reply plain paths = plain
