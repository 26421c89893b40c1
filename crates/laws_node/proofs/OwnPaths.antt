-- What a node signs itself for flows on paths is in its ranges: its mask is the one of the messages that wait, or names edges of the topology.
use Rattle.std.proofs.Common.{◌≡◌, ◌<◌, ◌≤◌, ℕ, ◌^◌, ◌==◌, ◌&&◌, ◌||◌, not, Bool, true, false, List, length, Option, Some, None, Result, Ok, Err}
use Rattle.std.proofs.Common.{refl, sym, ap, ◌∙◌, subst, arith, cond}
use Rattle.std.specs.List.{slice_get}
use Rattle.std.specs.Option.{option_and_then}
use Rattle.sp_base.specs.Cursor.{or_else}
use Rattle.sp_base.specs.declared.format.TheConstants.{FORMAT_1}
use Rattle.sp_base.specs.declared.id.NodeId.{NodeId}
use Rattle.sp_base.specs.declared.limits.TheConstants.{MAX_PAYLOAD_BYTES}
use Rattle.sp_msg.proofs.GoodFields.{GoodKrel, GoodMask, good_krel}
use Rattle.sp_msg.proofs.HalfLemmas.{bits_from}
use Rattle.sp_msg.specs.Bodies.{HasGoodFieldsIn}
use Rattle.sp_msg.specs.Masks.{bits, mask_from}
use Rattle.sp_msg.specs.declared.body.Body.{Body}
use Rattle.sp_msg.specs.declared.body.Body.TheVariants as bodies
use Rattle.sp_msg.specs.declared.body.Krel.{Krel}
use Rattle.sp_msg.specs.declared.kept.Kept.{Kept}
use Rattle.sp_msg.specs.declared.mask.Mask as masks
use Rattle.sp_msg.specs.declared.refused.SendRefused.{SendRefused}
use Rattle.sp_msg.specs.declared.refused.SendRefused.TheVariants as refusals
use Rattle.sp_rules.specs.Flow.{FlowState}
use Rattle.sp_rules.specs.Kflow.{KState, busy, mask_said, paths_to, waiting_mask}
use Rattle.sp_rules.specs.Kflow as kflow
use Rattle.sp_rules.specs.KflowSends.{KSend, krel_number, krel_refusal, krel_sends, mask_for, no_mask, no_place, send_krel_refusal}
use Rattle.sp_rules.specs.Lives.{held_boot}
use Rattle.sp_rules.specs.Masks.{Choice, IsChoice, Mask, OnlyPaths, graph_of}
use Rattle.sp_rules.specs.Node.{NodeState}
use Rattle.sp_rules.specs.Parts.{is_first}
use Rattle.sp_rules.specs.Rel.{IsNextOwn, flow_in, is_waiting, own_flow}
use Rattle.sp_rules.specs.Rel as rel
use Rattle.sp_rules.specs.Sends.{is_unmet, mask_in, no_life, no_paths, signer_refusal}
use Rattle.sp_rules.specs.declared.kflow.FlowKind.TheVariants.{Paths}
use Rattle.sp_rules.specs.declared.kflow.KRoom.{KRoom}
use Rattle.sp_rules.specs.declared.rel.RelRefused.{RelRefused}
use Rattle.sp_rules.specs.declared.rel.RelRefused.TheVariants as rels
use Rattle.sp_topology.specs.declared.topology.Edge.{Edge}
use Rattle.laws_node.specs.About.{HasNode, IsAbout}
use Rattle.laws_node.specs.Flows.{FlowHolds, IsWithin}
use Rattle.laws_node.specs.Nodes.{NodeHolds}
use Rattle.laws_node.specs.Sizes.{Fits, Sizes}
use Rattle.laws_node.proofs.HeldBoots.{boot_fits}
use Rattle.laws_node.proofs.Masks.{mask_within}
use Rattle.laws_node.proofs.Own.{either, mask_fits, own_next}
use Rattle.laws_node.proofs.Tables.{all_get}

-- ---- what isn't refused

-- a format after the first, a place in the flow, and a signer that goes on
pub record KrelFree (n : NodeState) (m : KSend) : Type 0 where
  pub later : is_first n.fixed ≡ false
  pub place : KRoom
  pub there : kflow.room n.parts.kflow m.dst m.paths ≡ Ok place
  pub free : signer_refusal n.signer ≡ None

known : (t : Bool) → no_life t ≡ None → t ≡ false
known true e = absurd (cc)
known false e = refl

neither : (a b : Bool) → (a || b) ≡ false → a ≡ false
neither true b e = absurd (cc)
neither false b e = refl

placed : (r : Result KRoom SendRefused) → no_place r ≡ None → (place : KRoom) × (r ≡ Ok place)
placed (Ok place) e = (place, refl)
placed (Err refused) e = absurd (cc)

pub krel_free : (n : NodeState) (m : KSend) → krel_refusal n m ≡ None → KrelFree n m
krel_free n m e =
    let place = kflow.room n.parts.kflow m.dst m.paths in
    let one = either (no_life (is_first n.fixed || is_unmet n m.dst)) (or_else (no_place place) (signer_refusal n.signer)) e in
    let two = either (no_place place) (signer_refusal n.signer) one.1 in
    let there = placed place two.0 in
    record {
      later = neither (is_first n.fixed) (is_unmet n m.dst) (known (is_first n.fixed || is_unmet n m.dst) one.0);
      place = there.0;
      there = there.1;
      free = two.1;
    }

-- a place is the next one of the flow, with the mask that waits
pub record RoomIs (k : KState) (dst : NodeId) (place : KRoom) : Type 0 where
  pub number : rel.room k.flows dst ≡ Ok place.seq
  pub mask : place.mask ≡ waiting_mask k dst

pub room_of : (k : KState) (dst : NodeId) (count : ℕ) (place : KRoom) → kflow.room k dst count ≡ Ok place → RoomIs k dst place
room_of k dst count place e = go (rel.room k.flows dst) refl e
  where
    free : (seq : ℕ) → rel.room k.flows dst ≡ Ok seq → (t : Bool)
        → cond t (Err (refusals.Busy (paths_to k dst))) (Ok (record { seq = seq; mask = waiting_mask k dst })) ≡ Ok place → RoomIs k dst place
    free seq is true e = absurd (cc)
    free seq is false e =
        let same : record { seq = seq; mask = waiting_mask k dst } ≡ place = cc in
        record { number = is ∙ ap (λ (p : KRoom). Ok p.seq) same; mask = sym (ap (λ (p : KRoom). p.mask) same) }

    go : (r : Result ℕ RelRefused) → rel.room k.flows dst ≡ r → busy k dst count r ≡ Ok place → RoomIs k dst place
    go (Ok seq) is e = free seq is (is_waiting k.flows dst && not (paths_to k dst == count)) e
    go (Err rels.BadEnd) is e = absurd (cc)
    go (Err (rels.Full base have)) is e = absurd (cc)
    go (Err rels.Memory) is e = absurd (cc)

-- ---- the mask

-- it has room in its field, and names no edge behind the last
pub record MaskFits (k : Sizes) (mask : masks.Mask) : Type 0 where
  pub good : GoodMask k.format mask
  pub within : bits mask < 2 ^ length k.edges

said_fits : (k : Sizes) (mask : masks.Mask) (body : Body) → mask_said body ≡ Some mask → HasGoodFieldsIn k.format body → IsWithin k body → MaskFits k mask
said_fits k mask (bodies.Krel m) e good within =
    let same : m.mask ≡ mask = cc in
    subst (MaskFits k) same (record { good = (good_krel k.format m good).mask; within = within })
said_fits k mask (bodies.Prio m) e good within = absurd (cc)
said_fits k mask (bodies.Rel m) e good within = absurd (cc)
said_fits k mask (bodies.Ack m) e good within = absurd (cc)
said_fits k mask (bodies.Weight m) e good within = absurd (cc)
said_fits k mask (bodies.Kack m) e good within = absurd (cc)
said_fits k mask (bodies.Epoch m) e good within = absurd (cc)

-- the mask of the messages of an own flow that wait
waiting_fits : (k : Sizes) (index : ℕ) (f : FlowState) (mask : masks.Mask) → FlowHolds Paths k index f → (f.src.0 == k.me.0) ≡ true
    → option_and_then (λ (o : Kept). mask_said o.body) (slice_get f.at.list 0) ≡ Some mask → MaskFits k mask
waiting_fits k index f mask h mine e = go (slice_get f.at.list 0) refl e
  where
    go : (o : Option Kept) → slice_get f.at.list 0 ≡ o → option_and_then (λ (x : Kept). mask_said x.body) o ≡ Some mask → MaskFits k mask
    go None there e = absurd (cc)
    go (Some o) there e =
        let fits = all_get (Fits k) f.at.list 0 o h.messages there in
        let within = all_get (λ (x : Kept). IsWithin k x.body) f.at.list 0 o (h.within mine) there in
        said_fits k mask o.body e fits.fields within

-- the mask that was chosen
chosen_fits : (k : Sizes) (n : NodeState) (m : KSend) (choice : Choice) → no_paths choice ≡ None → NodeHolds k n
    → IsChoice n.parts.weights (graph_of n.fixed.topology n.parts.weights) n.fixed.me m.dst m.paths choice → MaskFits k (mask_from (mask_in choice))
chosen_fits k n m choice e h is = record {
  good = mask_fits k n m.dst m.paths choice e h is;
  within = subst (λ (mask : ℕ). mask < 2 ^ length k.edges) (sym (bits_from (mask_in choice)))
      (subst (λ (es : List Edge). mask_in choice < 2 ^ length es) h.fixed.edges (inside choice e is));
}
  where
    inside : (c : Choice) → no_paths c ≡ None → IsChoice n.parts.weights (graph_of n.fixed.topology n.parts.weights) n.fixed.me m.dst m.paths c
        → mask_in c < 2 ^ length n.fixed.topology.edges
    inside (Mask mask) e is =
        mask_within n.fixed.topology n.parts.weights (graph_of n.fixed.topology n.parts.weights) n.fixed.me m.dst m.paths mask
        (h.parts.weights.edges ∙ sym h.fixed.edges) (h.parts.weights.least ∙ ap length (sym h.fixed.edges)) is
    inside (OnlyPaths found) e is = absurd (cc)

-- ---- the message

krel_is_good : (format : ℕ) (r : Krel) → (format == FORMAT_1) ≡ false → GoodKrel format r → HasGoodFieldsIn format (bodies.Krel r)
krel_is_good format r later is = (
  ap (λ (t : Bool). cond t false true) later,
  (is.src, (is.dst, (is.sboot, (is.dboot, (is.seq, (is.mask.high, (is.mask.low, ((omega arith, is.payload), tt)))))))),
)

-- the message over a mask
abbrev krel_of : NodeState → KSend → masks.Mask → Krel
krel_of n m mask = record {
  src = n.fixed.me;
  dst = m.dst;
  sboot = held_boot n.parts.lives n.fixed.me;
  dboot = held_boot n.parts.lives m.dst;
  seq = krel_number n m.dst;
  mask = mask;
  payload = m.payload;
}

-- what a message on paths that is sent fits
pub record KrelSent (k : Sizes) (n : NodeState) (m : KSend) (choice : Choice) : Type 0 where
  pub free : signer_refusal n.signer ≡ None
  pub next : IsNextOwn n.parts.kflow.flows (krel_sends n m choice)
  pub fields : HasGoodFieldsIn k.format (krel_sends n m choice)
  pub within : IsWithin k (krel_sends n m choice)

-- the choice of a message on paths, which is made only where nothing refuses and nothing waits
abbrev pub KChoice : NodeState → KSend → Choice → Type 0
KChoice n m choice =
    krel_refusal n m ≡ None → waiting_mask n.parts.kflow m.dst ≡ None
    → IsChoice n.parts.weights (graph_of n.fixed.topology n.parts.weights) n.fixed.me m.dst m.paths choice

-- a message on paths that isn't refused fits
pub krel_sent_fits : (k : Sizes) (n : NodeState) (m : KSend) (choice : Choice) → length m.payload ≤ MAX_PAYLOAD_BYTES → send_krel_refusal n m choice ≡ None
    → KChoice n m choice → NodeHolds k n → KrelSent k n m choice
krel_sent_fits k n m choice short e is h =
    let both = either (krel_refusal n m) (no_mask (waiting_mask n.parts.kflow m.dst) choice) e in
    let can = krel_free n m both.0 in
    let place = room_of n.parts.kflow m.dst m.paths can.place can.there in
    let next = own_next Paths k n m.dst can.place.seq place.number h in
    let later : (k.format == FORMAT_1) ≡ false = subst (λ (format : ℕ). (format == FORMAT_1) ≡ false) h.fixed.format can.later in
    let mask = go (waiting_mask n.parts.kflow m.dst) refl both.1 next.there next.mine (is both.0) in
    record {
      free = can.free;
      next = (sym next.from, next.room_is);
      fields = krel_is_good k.format (krel_of n m (mask_for (waiting_mask n.parts.kflow m.dst) choice)) later (record {
        src = h.fixed.is_node;
        dst = next.to;
        sboot = boot_fits k n.parts.lives n.fixed.me h.parts.lives;
        dboot = boot_fits k n.parts.lives m.dst h.parts.lives;
        seq = (omega arith, next.small);
        mask = mask.good;
        payload = short;
      });
      within = mask.within;
    }
  where
    go : (o : Option masks.Mask) → waiting_mask n.parts.kflow m.dst ≡ o → no_mask o choice ≡ None
        → FlowHolds Paths k n.signer.index (flow_in n.parts.kflow.flows.flows (own_flow n.parts.kflow.flows m.dst))
        → ((flow_in n.parts.kflow.flows.flows (own_flow n.parts.kflow.flows m.dst)).src.0 == k.me.0) ≡ true
        → (waiting_mask n.parts.kflow m.dst ≡ None
        → IsChoice n.parts.weights (graph_of n.fixed.topology n.parts.weights) n.fixed.me m.dst m.paths choice)
        → MaskFits k (mask_for o choice)
    go None waits e there mine is = chosen_fits k n m choice e h (is waits)
    go (Some mask) waits e there mine is =
        waiting_fits k n.signer.index (flow_in n.parts.kflow.flows.flows (own_flow n.parts.kflow.flows m.dst)) mask there mine waits

-- it speaks of nodes and edges of the topology
pub krel_about : (k : Sizes) (n : NodeState) (m : KSend) (choice : Choice) → HasNode n.fixed.topology n.fixed.me → HasNode n.fixed.topology m.dst
    → IsWithin k (krel_sends n m choice) → NodeHolds k n → IsAbout n.fixed.topology (krel_sends n m choice)
krel_about k n m choice me dst within h =
    (me, dst, subst (λ (es : List Edge). bits (mask_for (waiting_mask n.parts.kflow m.dst) choice) < 2 ^ length es) (sym h.fixed.edges) within)
