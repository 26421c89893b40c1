-- What each change of a flow keeps.
use Rattle.std.proofs.Common.{◌≡◌, ◌<◌, ◌≤◌, ℕ, ◌-◌, ◌==◌, true, false, List, arith}
use Rattle.sp_base.specs.declared.id.Flow.{Flow}
use Rattle.sp_msg.specs.declared.kept.Kept.{Kept}
use Rattle.sp_rules.proofs.Standing.{standing_acknowledged, standing_at_start, standing_concluded, standing_pushed, standing_received, standing_taken}
use Rattle.sp_rules.specs.Changes.{CanAcknowledge, CanConclude, CanPush, CanReceive}
use Rattle.sp_rules.specs.Flow.{FlowState, acknowledged_by, after_take, concluded, ends, no_flow, number_said, pushed, received}
use Rattle.sp_rules.specs.declared.kflow.FlowKind.{FlowKind}
use Rattle.laws_node.specs.Flows.{AckKept, FlowHolds, HasFlows, IsRelOf, IsShort, IsWithin}
use Rattle.laws_node.specs.Sizes.{Fits, IsNode, Sizes}
use Rattle.laws_node.proofs.FlowKinds.{ack_later, ack_some, rel_later}
use Rattle.laws_node.proofs.Tables.{all_drop_first, all_push}

pub no_flow_holds : (kind : FlowKind) (k : Sizes) (index : ℕ) (flow : Flow) → IsNode k.format flow.src → IsNode k.format flow.dst
    → FlowHolds kind k index (no_flow flow)
no_flow_holds kind k index flow src dst = record {
  src = src;
  dst = dst;
  standing = standing_at_start k.me k.buffer flow;
  later = λ on. absurd (let e : false ≡ true = on in cc);
  busy = λ on. absurd (let e : false ≡ true = on in cc);
  own = λ _. omega arith;
  messages = λ i d within. absurd (omega (arith, within));
  reliable = λ i d within. absurd (omega (arith, within));
  within = λ mine i d below. absurd (omega (arith, below));
  ack = tt;
  inbox = λ i d within. absurd (omega (arith, within));
}

pub flow_more : (kind : FlowKind) (k : Sizes) (index more : ℕ) (f : FlowState) → index ≤ more → FlowHolds kind k index f → FlowHolds kind k more f
flow_more kind k index more f up h = record {
  src = h.src;
  dst = h.dst;
  standing = h.standing;
  later = h.later;
  busy = h.busy;
  own = λ mine. let own = h.own mine in omega (arith, own, up);
  messages = h.messages;
  reliable = h.reliable;
  within = h.within;
  ack = h.ack;
  inbox = h.inbox;
}

-- message have + 1 was kept: so many messages are signed that an own one counts
pub pushed_holds : (kind : FlowKind) (k : Sizes) (index more : ℕ) (f : FlowState) (m : Kept) → index ≤ more → ((f.src.0 == k.me.0) ≡ true → f.at.have < more)
    → CanPush k.me k.buffer f m → Fits k m → IsRelOf kind m.body → ((f.src.0 == k.me.0) ≡ true → IsWithin k m.body) → FlowHolds kind k index f
    → FlowHolds kind k more (pushed f m)
pushed_holds kind k index more f m up mine can fits is_rel within h = record {
  src = h.src;
  dst = h.dst;
  standing = standing_pushed k.me k.buffer f m h.standing can.relay can.room can.small can.next;
  later = λ on. rel_later kind k.format m.body is_rel fits.fields;
  busy = λ on. omega arith;
  own = λ is. let below = mine is in omega (arith, below);
  messages = all_push (Fits k) f.at.list m h.messages fits;
  reliable = all_push (λ (o : Kept). IsRelOf kind o.body) f.at.list m h.reliable is_rel;
  within = λ own. all_push (λ (o : Kept). IsWithin k o.body) f.at.list m (h.within own) (within own);
  ack = h.ack;
  inbox = h.inbox;
}

pub received_holds : (kind : FlowKind) (k : Sizes) (index : ℕ) (f : FlowState) (payload : List ℕ) → (f.src.0 == k.me.0) ≡ false
    → CanReceive k.me k.buffer f → IsShort payload → HasFlows kind k.format → FlowHolds kind k index f → FlowHolds kind k index (received f payload)
received_holds kind k index f payload other can short later h = record {
  src = h.src;
  dst = h.dst;
  standing = standing_received k.me k.buffer f payload h.standing can.end can.room can.waiting can.small;
  later = λ on. later;
  busy = λ on. omega arith;
  own = λ is. absurd (let e = rw other at is in cc);
  messages = h.messages;
  reliable = h.reliable;
  within = h.within;
  ack = h.ack;
  inbox = all_push IsShort f.inbox payload h.inbox short;
}

pub acknowledged_holds : (kind : FlowKind) (k : Sizes) (index : ℕ) (f : FlowState) (ack : Kept)
    → ((f.src.0 == k.me.0) ≡ true → number_said ack.body ≤ f.at.have)
    → CanAcknowledge k.me f ack → AckKept kind k (ends f) ack → FlowHolds kind k index f → FlowHolds kind k index (acknowledged_by f ack)
acknowledged_holds kind k index f ack sent can kept h = record {
  src = h.src;
  dst = h.dst;
  standing = standing_acknowledged k.me k.buffer f ack h.standing can.relay can.small;
  later = λ on. ack_later kind k.format (ends f) ack.body kept.is_ack kept.fits.fields;
  busy = λ on. let some = ack_some kind k.format (ends f) ack.body kept.is_ack kept.fits.fields in omega (arith, some);
  own = λ is. let own = h.own is in let at = sent is in omega (arith, own, at);
  messages = all_drop_first (Fits k) (number_said ack.body - f.at.base) f.at.list h.messages;
  reliable = all_drop_first (λ (o : Kept). IsRelOf kind o.body) (number_said ack.body - f.at.base) f.at.list h.reliable;
  within = λ mine. all_drop_first (λ (o : Kept). IsWithin k o.body) (number_said ack.body - f.at.base) f.at.list (h.within mine);
  ack = kept;
  inbox = h.inbox;
}

pub concluded_holds : (kind : FlowKind) (k : Sizes) (index : ℕ) (f : FlowState) (ack : Kept) → CanConclude k.me f → AckKept kind k (ends f) ack
    → FlowHolds kind k index f → FlowHolds kind k index (concluded f ack)
concluded_holds kind k index f ack can kept h = record {
  src = h.src;
  dst = h.dst;
  standing = standing_concluded k.me k.buffer f ack h.standing can.end can.active;
  later = h.later;
  busy = λ on. let some = h.busy on in omega (arith, some);
  own = λ is. let own = h.own is in omega (arith, own);
  messages = all_drop_first (Fits k) (f.at.have - f.at.base) f.at.list h.messages;
  reliable = all_drop_first (λ (o : Kept). IsRelOf kind o.body) (f.at.have - f.at.base) f.at.list h.reliable;
  within = λ mine. all_drop_first (λ (o : Kept). IsWithin k o.body) (f.at.have - f.at.base) f.at.list (h.within mine);
  ack = kept;
  inbox = h.inbox;
}

pub after_take_holds : (kind : FlowKind) (k : Sizes) (index : ℕ) (f : FlowState) → FlowHolds kind k index f → FlowHolds kind k index (after_take f)
after_take_holds kind k index f h = record {
  src = h.src;
  dst = h.dst;
  standing = standing_taken k.me k.buffer f h.standing;
  later = h.later;
  busy = h.busy;
  own = h.own;
  messages = h.messages;
  reliable = h.reliable;
  within = h.within;
  ack = h.ack;
  inbox = all_drop_first IsShort 1 f.inbox h.inbox;
}
