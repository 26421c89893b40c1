-- What a client may send on paths goes from a node of the topology to another one, is in its ranges, and is the next of its flow.
use Rattle.std.proofs.Common.{◌≡◌, ◌≢◌, ◌≤◌, ◌<◌, ◌∙◌, ℕ, ◌==◌, ◌&&◌, not, Bool, true, false, List, length, Option, Some, None, Ok}
use Rattle.std.proofs.Common.{refl, sym, ap, subst, arith}
use Rattle.std.proofs.lemmas.Bool.Decides.{nat_tests}
use Rattle.sp_base.specs.Cursor.{or_else}
use Rattle.sp_base.specs.declared.id.NodeId.{NodeId}
use Rattle.sp_base.specs.declared.limits.TheConstants.{MAX_PAYLOAD_BYTES}
use Rattle.sp_node_format.specs.Format.{format_of}
use Rattle.sp_msg.specs.Bodies.{HasGoodFieldsIn}
use Rattle.sp_msg.specs.Masks.{HALF}
use Rattle.sp_msg.specs.declared.mask.Mask.{Mask as EdgeSet}
use Rattle.sp_msg.specs.declared.refused.SendRefused.{SendRefused}
use Rattle.sp_rules.proofs.FlowJudged.{both_nodes, room_is}
use Rattle.sp_rules.specs.Kflow as kflow
use Rattle.sp_rules.specs.Kflow.{IsNextOwn, Stays, waiting_mask}
use Rattle.sp_rules.specs.KflowSends.{KSend, krel_body, krel_number, krel_refusal, no_mask, send_krel_refusal}
use Rattle.sp_rules.specs.Node.{NodeState}
use Rattle.sp_rules.specs.Parts.{nodes_of}
use Rattle.sp_rules.specs.Prio.{is_node}
use Rattle.sp_rules.specs.Rel as rel
use Rattle.sp_rules.specs.Rel.{own_flow}
use Rattle.sp_rules.specs.Sends.{signer_refusal}
use Rattle.sp_rules.specs.declared.kflow.KRoom.{KRoom}
use Rattle.laws_node.proofs.Own.{listed}
use Rattle.laws_node.proofs.OwnPaths.{krel_free, krel_sent_fits, room_of}
use Rattle.laws_node.specs.Nodes.{IsKept}
use Rattle.sp_node_state.proofs.OnPaths.{chosen}
use Rattle.sp_node_state.proofs.Sizes.{sizes}
use Rattle.sp_node_state.specs.OnPaths.{IsMaskTo}

-- ---- its place

-- a place in a flow is that of the number after the last, with the mask that waits
pub record PlaceIs (n : NodeState) (dst : NodeId) (place : KRoom) : Type 0 where
  pub number : place.seq ≡ krel_number n dst
  pub mask : place.mask ≡ waiting_mask n.parts.kflow dst

-- so is each place that a flow has room for
pub place_is : (n : NodeState) (dst : NodeId) (count : ℕ) (place : KRoom) → kflow.room n.parts.kflow dst count ≡ Ok place → PlaceIs n dst place
place_is n dst count place e =
    let there = room_of n.parts.kflow dst count place e in
    record { number = (room_is n.parts.kflow.flows dst place.seq there.number).1; mask = there.mask }

-- ---- its ends

apart : (a b c d e : Bool) → (a && b && not c && d && e) ≡ true → c ≡ false
apart true true true d e all = absurd (cc)
apart true true false d e all = refl
apart true false c d e all = absurd (cc)
apart false b c d e all = absurd (cc)

-- both are nodes of the topology, and they are two
pub record KrelEnds (n : NodeState) (m : KSend) : Type 0 where
  pub from : is_node (nodes_of n.fixed.topology) n.fixed.me.0 ≡ true
  pub to : is_node (nodes_of n.fixed.topology) m.dst.0 ≡ true
  pub other : n.fixed.me ≢ m.dst

-- where nothing refuses it goes from one to the other
pub krel_ends : (n : NodeState) (m : KSend) → krel_refusal n m ≡ None → IsKept (format_of n.fixed) n → KrelEnds n m
krel_ends n m free kept =
    let r = n.parts.kflow.flows in
    let can = krel_free n m free in
    let there = room_of n.parts.kflow m.dst m.paths can.place can.there in
    let ends = (room_is r m.dst can.place.seq there.number).0 in
    let both = both_nodes r (own_flow r m.dst) r.me m.dst ends in
    let two : (r.me.0 == m.dst.0) ≡ false = apart (r.me.0 == r.me.0) (m.dst.0 == m.dst.0) (r.me.0 == m.dst.0) (rel.is_node r r.me) (rel.is_node r m.dst) ends in
    let me : r.me ≡ n.fixed.me = kept.parts.kflow.me in
    let known : r.nodes ≡ nodes_of n.fixed.topology = kept.parts.kflow.known in
    record {
      from = sym (ap (λ (ids : List NodeId). is_node ids n.fixed.me.0) known) ∙ sym (ap (λ (u : NodeId). is_node r.nodes u.0) me) ∙ listed r r.me both.0;
      to = sym (ap (λ (ids : List NodeId). is_node ids m.dst.0) known) ∙ listed r m.dst both.1;
      other = λ e. (let same : r.me.0 ≡ m.dst.0 = ap (λ (u : NodeId). u.0) (me ∙ e) in absurd (grind (arith, nat_tests, same, two)));
    }

-- ---- the message

stay : (o : Option EdgeSet) (n : NodeState) (m : KSend) (mask : EdgeSet) → IsMaskTo o n m mask → Stays o mask
stay None n m mask is = tt
stay (Some waiting) n m mask is = is

-- over such a mask it is the next of its flow, on so many paths
pub krel_next : (n : NodeState) (m : KSend) (mask : EdgeSet) → krel_refusal n m ≡ None → IsMaskTo (waiting_mask n.parts.kflow m.dst) n m mask
    → IsKept (format_of n.fixed) n → IsNextOwn n.parts.kflow m.paths (krel_body n m mask)
krel_next n m mask free is kept =
    let can = krel_free n m free in
    let place = place_is n m.dst m.paths can.place can.there in
    record {
      from = sym kept.parts.kflow.me;
      place = can.place;
      there = can.there;
      number = sym place.number;
      stays = subst (λ (o : Option EdgeSet). Stays o mask) (sym place.mask) (stay (waiting_mask n.parts.kflow m.dst) n m mask is);
    }

-- and it is in its ranges
pub krel_fields : (n : NodeState) (m : KSend) (mask : EdgeSet) → mask.low < HALF → length m.payload ≤ MAX_PAYLOAD_BYTES → krel_refusal n m ≡ None
    → IsMaskTo (waiting_mask n.parts.kflow m.dst) n m mask → IsKept (format_of n.fixed) n → HasGoodFieldsIn n.fixed.topology.format (krel_body n m mask)
krel_fields n m mask small short free is kept =
    let c = chosen n m mask small is in
    let none : send_krel_refusal n m c.choice ≡ None =
    ap (λ (o : Option SendRefused). or_else o (no_mask (waiting_mask n.parts.kflow m.dst) c.choice)) free ∙ c.free in
    subst (λ (es : EdgeSet). HasGoodFieldsIn n.fixed.topology.format (krel_body n m es)) c.mask_is
    (krel_sent_fits (sizes n) n m c.choice short none c.is_choice kept).fields

-- the signer signs it, where nothing refuses
pub krel_signed : (n : NodeState) (m : KSend) → krel_refusal n m ≡ None → signer_refusal n.signer ≡ None
krel_signed n m free = (krel_free n m free).free
