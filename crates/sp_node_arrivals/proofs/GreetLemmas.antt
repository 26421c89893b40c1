-- What was made ready of a frame stays so where another life of the neighbour begins before it is taken: what that one reported and acknowledged decides
-- no answer.
use Rattle.std.proofs.Common.{◌≡◌, ◌∙◌, ℕ, ◌+◌, ◌*◌, Bool, true, false, List, [], ◌∷◌, map, Option, None, Some, refl, sym, ap, cond}
use Rattle.std.specs.Prelude.{IfSome, ◌&&◌, ◌||◌, is_some, option_map}
use Rattle.sp_base.specs.declared.id.Flow.{Flow}
use Rattle.sp_base.specs.declared.id.NodeId.{NodeId}
use Rattle.sp_base.specs.declared.limits.TheConstants.{MAX_MESSAGES}
use Rattle.sp_frame.specs.Views.{as_numbered, as_object}
use Rattle.sp_frame.specs.declared.sections.Sections.{Sections}
use Rattle.sp_frame.specs.declared.sections.Slot.{Slot}
use Rattle.sp_msg.specs.declared.body.Body.{Body}
use Rattle.sp_msg.specs.declared.body.Body.TheVariants as bodies
use Rattle.sp_msg.specs.declared.kept.Kept.{Kept}
use Rattle.sp_rel.specs.Seats.{SeatState}
use Rattle.sp_rules.specs.Arrivals.{greeted}
use Rattle.sp_rules.specs.Arrivals as arrivals
use Rattle.sp_rules.specs.Handle as rules
use Rattle.sp_rules.specs.Parts.{Fixed, Parts}
use Rattle.sp_rules.specs.Prio as prio
use Rattle.sp_rules.specs.Rel.{RelPeer, RelState, judge_ack_of, unheard}
use Rattle.sp_rules.specs.declared.lives.Life.{Life}
use Rattle.sp_node_arrivals.proofs.PrioLemmas.{prios_follow, unheard_follows, unheard_ids}
use Rattle.sp_node_arrivals.specs.Ack.{IsAckReady}
use Rattle.sp_node_arrivals.specs.Epoch.{ends_room}
use Rattle.sp_node_arrivals.specs.Prio.{HasIds}
use Rattle.sp_node_arrivals.specs.Ready.{IsReady}
use Rattle.sp_node_arrivals.specs.Rel.{AreRelsReady, Ground, ground_of}
use Rattle.sp_node_arrivals.specs.Rooms.{frame_room}
use Rattle.sp_node_arrivals.specs.Signed.{of_some}
use Rattle.sp_node_arrivals.specs.Slot.{IsSlotReady}
use Rattle.sp_node_arrivals.specs.declared.arriving.Ready.{Ready}
use Rattle.sp_node_arrivals.specs.declared.slot.SlotReady.{SlotReady}

-- ---- the slots, whatever the neighbours reported

abbrev with_peers : RelState → List RelPeer → RelState
with_peers r peers = record r { peers = peers }

rels_ready : (moved : Bool) (g : Ground) (r : RelState) (peers : List RelPeer) (flow : Flow) (os : List Kept)
    (readies : List (Option (Kept × List ℕ × SeatState))) → AreRelsReady moved g r flow os readies
    → AreRelsReady moved g (with_peers r peers) flow os readies
rels_ready moved g r peers flow [] readies are = are
rels_ready moved g r peers flow (o ∷ os) [] are = are
rels_ready moved g r peers flow (o ∷ os) (ready ∷ readies) are = (
  record { copy = are.0.copy; payload = are.0.payload; seat = are.0.seat; right = are.0.right },
  rels_ready (moved || is_some ready) g r peers flow os readies are.1,
)

ack_judged : (r : RelState) (peers : List RelPeer) (flow : Flow) (body : Body) → judge_ack_of (with_peers r peers) flow body ≡ judge_ack_of r flow body
ack_judged r peers flow (bodies.Ack a) = refl
ack_judged r peers flow (bodies.Kack a) = refl
ack_judged r peers flow (bodies.Rel m) = refl
ack_judged r peers flow (bodies.Krel m) = refl
ack_judged r peers flow (bodies.Prio m) = refl
ack_judged r peers flow (bodies.Weight m) = refl
ack_judged r peers flow (bodies.Epoch m) = refl

ack_ready : (fixed : Fixed) (lives : List Life) (r : RelState) (peers : List RelPeer) (flow : Flow) (ack : Option Kept) (ready : Option (Kept × SeatState))
    → IfSome ack (λ o. IsAckReady fixed lives r flow o ready) → IfSome ack (λ o. IsAckReady fixed lives (with_peers r peers) flow o ready)
ack_ready fixed lives r peers flow None ready is = tt
ack_ready fixed lives r peers flow (Some o) ready is = record {
  copy = is.copy;
  seat = is.seat;
  right = λ dated new. is.right dated (sym (ack_judged r peers flow o.body) ∙ new);
}

slot_ready : (g : Ground) (r : RelState) (peers : List RelPeer) (slot : Option Slot) (ready : SlotReady)
    → IfSome slot (λ s. IsSlotReady g r s ready) → IfSome slot (λ s. IsSlotReady g (with_peers r peers) s ready)
slot_ready g r peers None ready is = tt
slot_ready g r peers (Some s) ready is = record {
  acknowledgement = ack_ready g.fixed g.lives r peers s.flow (option_map as_object s.ack) ready.ack is.acknowledgement;
  messages = rels_ready (is_some ready.ack) g r peers s.flow (map as_object s.rels) ready.rels is.messages;
}

-- ---- the whole frame

either : (P : Parts → Type 0) (epochs risen : Bool) (v : NodeId) (p : Parts) → P (arrivals.unheard v p) → P p → P (greeted epochs risen v p)
either P epochs risen v p new same = go (epochs && risen)
  where
    go : (t : Bool) → P (cond t (arrivals.unheard v p) p)
    go true = new
    go false = same

pub greeted_ready : (epochs risen : Bool) (v : NodeId) (at : rules.Arrival) (p : Parts) (sections : Sections) (ready : Ready)
    → IsReady at p sections ready → IsReady at (greeted epochs risen v p) sections ready
greeted_ready epochs risen v at p sections ready is =
    either (λ q. IsReady at q sections ready) epochs risen v p
    (record {
      update = is.update;
      messages = prios_follow at p.lives p.prio (prio.unheard p.prio v.0) (map as_numbered sections.prios) ready.prios (unheard_follows p.prio v.0) is.messages;
      slot = slot_ready (ground_of at p) p.rel (unheard p.rel v).peers sections.slot ready.slot is.slot;
      paths = slot_ready (ground_of at p) p.kflow.flows (unheard p.kflow.flows v).peers sections.paths ready.paths is.paths;
      epoch = is.epoch;
    }) is

pub greeted_ids : (count : ℕ) (epochs risen : Bool) (v : NodeId) (p : Parts) → HasIds count p.prio → HasIds count (greeted epochs risen v p).prio
greeted_ids count epochs risen v p has = either (λ q. HasIds count q.prio) epochs risen v p (unheard_ids count p.prio v.0 has) has

pub greeted_room : (epochs risen : Bool) (v : NodeId) (at : rules.Arrival) (p : Parts) (sections : Sections)
    → frame_room at (greeted epochs risen v p) sections ≡ frame_room at p sections
greeted_room epochs risen v at p sections =
    either (λ q. frame_room at q sections ≡ frame_room at p sections) epochs risen v p
    (ap (λ (n : ℕ). 1 + MAX_MESSAGES + MAX_MESSAGES * (2 * n + 3) + 2 * MAX_MESSAGES
    + of_some (ends_room at.fixed.me p) (option_map as_object sections.epoch))
    (unheard_follows p.prio v.0).peers) refl
