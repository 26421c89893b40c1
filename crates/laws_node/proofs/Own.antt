-- What a node signs itself is in its ranges, and is valid.
use Rattle.std.proofs.Common.{◌≡◌, ◌<◌, ◌≤◌, ℕ, ◌+◌, ◌==◌, ◌||◌, not, nat_lt, ◌&&◌, Bool, true, false, List, length, Option, Some, None, Result, Ok, Err, refl}
use Rattle.std.proofs.Common.{sym}
use Rattle.std.proofs.Common.{ap, ◌∙◌, subst, arith, cond}
use Rattle.std.specs.Prelude.{IsTrue}
use Rattle.std.proofs.lemmas.Bool.Decides.{nat_tests}
use Rattle.sp_base.specs.Cursor.{or_else}
use Rattle.sp_base.specs.Formats.{max_edges}
use Rattle.sp_base.specs.declared.id.Flow.{Flow}
use Rattle.sp_base.specs.declared.id.NodeId.{NodeId}
use Rattle.sp_base.specs.declared.limits.TheConstants.{MAX_PAYLOAD_BYTES, MAX_SEQ, MAX_WEIGHT}
use Rattle.sp_msg.proofs.GoodFields.{GoodMask, prio_is_good, rel_is_good, weight_is_good}
use Rattle.sp_msg.specs.Bodies.{HasGoodFieldsIn}
use Rattle.sp_msg.specs.Masks.{mask_from}
use Rattle.sp_msg.specs.Views.{signer_of}
use Rattle.sp_msg.specs.declared.body.Body.{Body}
use Rattle.sp_msg.specs.declared.body.Body.TheVariants as bodies
use Rattle.sp_msg.specs.declared.body.WeightBody.{WeightBody}
use Rattle.sp_msg.specs.declared.refused.SendRefused.{SendRefused}
use Rattle.sp_msg.specs.declared.refused.SendRefused.TheVariants as refusals
use Rattle.sp_rules.proofs.FlowJudged.{both_nodes, found_ends, room_is}
use Rattle.sp_rules.specs.Arts.{Arts}
use Rattle.sp_rules.specs.Masks.{Choice, IsChoice, Mask, OnlyPaths, graph_of}
use Rattle.sp_rules.specs.Node.{NodeState, Signer, signed_now}
use Rattle.sp_rules.specs.Parts.{Fixed, edge_to, flows_of, is_signed, is_signed_by}
use Rattle.sp_rules.specs.Prio.{PrioState, is_node, is_there}
use Rattle.sp_rules.specs.Rel as rel
use Rattle.sp_rules.specs.Rel.{IsNextOwn, RelState, flow_in, own_flow, room}
use Rattle.sp_rules.specs.Sends.{PrioSend, edge_or, is_unmet, mask_in, no_life, no_paths, no_room, prio_body, prio_of, prio_refusal, rel_body, rel_of}
use Rattle.sp_rules.specs.Sends.{rel_refusal, send_prio_refusal, signer_refusal, weight_body, weight_refusal, weight_refusal_at}
use Rattle.sp_rules.specs.Weights.{is_withdrawn, minimum, next_seq, row_for, row_in}
use Rattle.sp_rules.specs.declared.kflow.FlowKind.{FlowKind}
use Rattle.sp_rules.specs.declared.kflow.FlowKind.TheVariants.{Plain}
use Rattle.sp_rules.specs.declared.rel.RelRefused.{RelRefused}
use Rattle.sp_rules.specs.declared.rel.RelRefused.TheVariants as rels
use Rattle.sp_rules.specs.declared.weights.TheConstants.{MAX_OWN_HEARD}
use Rattle.sp_topology.specs.Neighbours.{joins}
use Rattle.sp_topology.specs.Keys.{key_of}
use Rattle.sp_topology.specs.declared.topology.Edge.{Edge}
use Rattle.laws_node.specs.Flows.{FlowHolds}
use Rattle.laws_node.specs.Inputs.{ArtsFit, PrioSendFits}
use Rattle.laws_node.specs.Nodes.{NodeHolds, SignerHolds}
use Rattle.laws_node.specs.Sizes.{Fits, IsNode, Sizes}
use Rattle.laws_node.specs.Updates.{OwnUpTo}
use Rattle.laws_node.proofs.FlowKinds.{flows_hold}
use Rattle.laws_node.proofs.HeldBoots.{boot_fits}
use Rattle.laws_node.proofs.Masks.{good_mask}
use Rattle.laws_node.proofs.Reliable.{in_range, read}
use Rattle.laws_node.proofs.Updates.{own_next_seq, own_row, place_within}

-- ---- the signer goes on

-- where neither of two refuses, each doesn't
pub either : (o : Option SendRefused) (p : Option SendRefused) → or_else o p ≡ None → (o ≡ None) × (p ≡ None)
either None p e = (refl, e)
either (Some x) p e = absurd (cc)

pub if_none : (t : Bool) (x : SendRefused) (o : Option SendRefused) → cond t (Some x) o ≡ None → (t ≡ false) × (o ≡ None)
if_none true x o e = absurd (cc)
if_none false x o e = (refl, e)

pub free : (s : Signer) → SignerHolds s → signer_refusal s ≡ None → s.index < s.bound
free s h e =
    let one = if_none (s.index == s.total) (refusals.Spent s.index) _ e in
    let two = if_none (s.index == s.bound) (refusals.NotReserved s.bound) None one.1 in
    grind (arith, nat_tests, two.0, h.index)

-- a signer that doesn't refuse has an index left
pub left : (s : Signer) → SignerHolds s → signer_refusal s ≡ None → s.index < s.total
left s h e = omega (arith, free s h e, h.bound)

-- an own message is in its ranges, and is asked what is asked of it
pub own_fits : (arts : Arts) (n : NodeState) (k : Sizes) (body : Body) → ArtsFit arts n.fixed n.signer → n.fixed.signature_len ≡ k.signature_len
    → k.keeps (signed_now arts n body) → HasGoodFieldsIn k.format body → Fits k (signed_now arts n body)
own_fits arts n k body arts_fit long keeps fields = record {
  fields = fields;
  long = arts_fit.long n.signer.index (arts.spell body) ∙ long;
  holds = keeps;
}

-- the sizes have the format of its topology
pub in_own_format : (k : Sizes) (n : NodeState) (body : Body) → NodeHolds k n → HasGoodFieldsIn k.format body → HasGoodFieldsIn n.fixed.topology.format body
in_own_format k n body h = subst (λ (format : ℕ). HasGoodFieldsIn format body) (sym h.fixed.format)

-- it has its signature
pub own_is_signed : (arts : Arts) (n : NodeState) (body : Body) → ArtsFit arts n.fixed n.signer → n.signer.index < n.signer.total → signer_of body ≡ n.fixed.me
    → IsTrue (is_signed arts n.fixed (signed_now arts n body))
own_is_signed arts n body arts_fit left mine =
    is_valid (key_of (signer_of body).0 n.fixed.topology.nodes) (ap (λ (u : NodeId). key_of u.0 n.fixed.topology.nodes) mine ∙ arts_fit.is_mine)
  where
    is_valid : (key : Option (List ℕ)) → key ≡ Some arts_fit.key → IsTrue (is_signed_by arts key (arts.spell body) (signed_now arts n body).signature)
    is_valid key is = subst (λ (o : Option (List ℕ)). IsTrue (is_signed_by arts o (arts.spell body) (signed_now arts n body).signature)) (sym is)
        (arts_fit.valid n.signer.index (arts.spell body) left)

-- the arts fit the signer at another index
pub fits_at : (arts : Arts) (f : Fixed) (s : Signer) (index : ℕ) → ArtsFit arts f s → ArtsFit arts f (record s { index = index })
fits_at arts f s index fits = record {
  long = fits.long;
  key = fits.key;
  is_mine = fits.is_mine;
  valid = fits.valid;
  heads = fits.heads;
  sections = fits.sections;
  own = fits.own;
  documents = fits.documents;
  carried = fits.carried;
}

-- who isn't removed is a node

both_true : (a b : Bool) → (a && b) ≡ true → a ≡ true
both_true true b e = refl
both_true false b e = absurd (cc)

pub listed : (r : RelState) (u : NodeId) → rel.is_node r u ≡ true → rel.is_one_of r.nodes u ≡ true
listed r u e = both_true (rel.is_one_of r.nodes u) (not (rel.is_one_of r.removed u)) e

pub listed_prio : (p : PrioState) (id : ℕ) → is_there p id ≡ true → is_node p.nodes id ≡ true
listed_prio p id e = both_true (is_node p.nodes id) (not (is_node p.removed id)) e

-- ---- a reliable message

-- where no room is refused, there is a next number
pub there_is_room : (r : Result ℕ RelRefused) → no_room r ≡ None → (number : ℕ) × (r ≡ Ok number)
there_is_room (Ok number) e = (number, refl)
there_is_room (Err rels.BadEnd) e = absurd (cc)
there_is_room (Err (rels.Full base have)) e = absurd (cc)
there_is_room (Err rels.Memory) e = absurd (cc)

-- the destination is known, there is room, and the signer goes on
pub rel_free : (n : NodeState) (dst : NodeId) → rel_refusal n dst ≡ None
    → (no_room (room n.parts.rel dst) ≡ None) × (signer_refusal n.signer ≡ None)
rel_free n dst e =
    either (no_room (room n.parts.rel dst)) (signer_refusal n.signer)
    (either (no_life (is_unmet n dst)) (or_else (no_room (room n.parts.rel dst)) (signer_refusal n.signer)) e).1

-- what the next message of an own flow of a kind has
pub record OwnNext (kind : FlowKind) (k : Sizes) (n : NodeState) (dst : NodeId) : Type 0 where
  pub from : (flows_of kind n.parts).me ≡ n.fixed.me
  pub to : IsNode k.format dst
  pub there : FlowHolds kind k n.signer.index (flow_in (flows_of kind n.parts).flows (own_flow (flows_of kind n.parts) dst))
  pub mine : ((flow_in (flows_of kind n.parts).flows (own_flow (flows_of kind n.parts) dst)).src.0 == k.me.0) ≡ true
  pub room_is : room (flows_of kind n.parts) dst ≡ Ok ((flow_in (flows_of kind n.parts).flows (own_flow (flows_of kind n.parts) dst)).at.have + 1)
  pub small : (flow_in (flows_of kind n.parts).flows (own_flow (flows_of kind n.parts) dst)).at.have + 1 ≤ MAX_SEQ

-- where a flow has room, its next message fits
pub own_next : (kind : FlowKind) (k : Sizes) (n : NodeState) (dst : NodeId) (number : ℕ) → room (flows_of kind n.parts) dst ≡ Ok number → NodeHolds k n
    → OwnNext kind k n dst
own_next kind k n dst number e h =
    let r = flows_of kind n.parts in
    let within = flows_hold kind k n.parts h.parts in
    let facts = room_is r dst number e in
    let nodes = both_nodes r (own_flow r dst) r.me dst facts.0 in
    let to = in_range k.format r.nodes dst within.nodes (listed r dst nodes.1) in
    let from = in_range k.format r.nodes r.me within.nodes (listed r r.me nodes.0) in
    let f = flow_in r.flows (own_flow r dst) in
    let there = read kind k n.signer.index r.flows (own_flow r dst) from to within.flows in
    let same : f.src.0 ≡ k.me.0 = ap (λ (e : Flow). e.src.0) (found_ends r.flows (own_flow r dst)) ∙ ap (λ (u : NodeId). u.0) within.me in
    let mine = is_same f.src.0 k.me.0 same in
    let own = there.own mine in
    record {
      from = within.me ∙ sym h.fixed.me;
      to = to;
      there = there;
      mine = mine;
      room_is = e ∙ ap (λ (q : ℕ). Ok q) facts.1;
      small = omega (arith, own, h.signer.index, h.signer.bound, h.signer.total);
    }
  where
    is_same : (a b : ℕ) → a ≡ b → (a == b) ≡ true
    is_same a b e = grind (arith, nat_tests, e)

-- what a reliable message that is sent fits
pub record RelSent (k : Sizes) (n : NodeState) (dst : NodeId) (payload : List ℕ) : Type 0 where
  pub free : signer_refusal n.signer ≡ None
  pub next : IsNextOwn n.parts.rel (rel_body n dst payload)
  pub fields : HasGoodFieldsIn k.format (rel_body n dst payload)

-- a reliable message that isn't refused fits
pub rel_sent_fits : (k : Sizes) (n : NodeState) (dst : NodeId) (payload : List ℕ) → length payload ≤ MAX_PAYLOAD_BYTES → rel_refusal n dst ≡ None
    → NodeHolds k n → RelSent k n dst payload
rel_sent_fits k n dst payload short e h =
    let both = rel_free n dst e in
    let number = there_is_room (room n.parts.rel dst) both.0 in
    let next = own_next Plain k n dst number.0 number.1 h in
    record {
      free = both.1;
      next = (sym next.from, next.room_is);
      fields = rel_is_good k.format (rel_of n dst payload) (record {
        src = h.fixed.is_node;
        dst = next.to;
        sboot = boot_fits k n.parts.lives n.fixed.me h.parts.lives;
        dboot = boot_fits k n.parts.lives dst h.parts.lives;
        seq = (omega arith, next.small);
        payload = short;
      });
    }

-- ---- a priority message

pub record PrioSent (k : Sizes) (n : NodeState) (m : PrioSend) (choice : Choice) : Type 0 where
  pub free : signer_refusal n.signer ≡ None
  pub fields : HasGoodFieldsIn k.format (prio_body n m (mask_in choice))

split : (a b c d : Bool) → (a || not b || not c || d) ≡ false → (b ≡ true) × (c ≡ true)
split true b c d e = absurd (cc)
split false true true d e = (refl, refl)
split false true false d e = absurd (cc)
split false false c d e = absurd (cc)

pub record PrioFree (n : NodeState) (m : PrioSend) : Type 0 where
  pub dst : is_there n.parts.prio m.dst.0 ≡ true
  pub me : is_there n.parts.prio n.fixed.me.0 ≡ true
  pub free : signer_refusal n.signer ≡ None

-- both ends are nodes that aren't removed, the message isn't expired, and the signer goes on
pub prio_free : (n : NodeState) (m : PrioSend) → prio_refusal n m ≡ None → PrioFree n m
prio_free n m e =
    let s = n.parts.prio in
    let away = m.dst.0 == n.fixed.me.0 in
    let one = if_none (away || not (is_there s m.dst.0) || not (is_there s n.fixed.me.0) || is_unmet n m.dst) refusals.BadEnd _ e in
    let two = if_none (nat_lt m.expiry n.now) (refusals.Expired n.now) (signer_refusal n.signer) one.1 in
    let there = split away (is_there s m.dst.0) (is_there s n.fixed.me.0) (is_unmet n m.dst) one.0 in
    record { dst = there.0; me = there.1; free = two.1 }

-- the mask of a choice has room in its field
pub mask_fits : (k : Sizes) (n : NodeState) (dst : NodeId) (paths : ℕ) (choice : Choice) → no_paths choice ≡ None → NodeHolds k n
    → IsChoice n.parts.weights (graph_of n.fixed.topology n.parts.weights) n.fixed.me dst paths choice
    → GoodMask k.format (mask_from (mask_in choice))
mask_fits k n dst paths (Mask mask) e h is =
    good_mask k.format n.fixed.topology n.parts.weights (graph_of n.fixed.topology n.parts.weights) n.fixed.me dst paths mask
    (subst (λ (f : ℕ). length n.fixed.topology.edges ≤ max_edges f) h.fixed.format h.fixed.topology.ranges.graph.edge_count)
    (h.parts.weights.edges ∙ sym h.fixed.edges) (h.parts.weights.least ∙ ap length (sym h.fixed.edges)) is
mask_fits k n dst paths (OnlyPaths found) e h is = absurd (cc)

-- a priority message that isn't refused fits
pub prio_sent_fits : (k : Sizes) (n : NodeState) (m : PrioSend) (choice : Choice) → PrioSendFits m → send_prio_refusal n m choice ≡ None
    → IsChoice n.parts.weights (graph_of n.fixed.topology n.parts.weights) n.fixed.me m.dst m.paths choice → NodeHolds k n → PrioSent k n m choice
prio_sent_fits k n m choice fits e is h =
    let both = either (prio_refusal n m) (no_paths choice) e in
    let can = prio_free n m both.0 in
    let to = in_range k.format n.parts.prio.nodes m.dst h.parts.prio.nodes (listed_prio n.parts.prio m.dst.0 can.dst) in
    let mask = mask_fits k n m.dst m.paths choice both.1 h is in
    record {
      free = can.free;
      fields = prio_is_good k.format (prio_of n m (mask_in choice)) (record {
        src = h.fixed.is_node;
        dst = to;
        sboot = boot_fits k n.parts.lives n.fixed.me h.parts.lives;
        seq = (h.parts.prio.least, omega (arith, h.parts.prio.next, h.signer.index, h.signer.bound, h.signer.total));
        prio = (fits.0, fits.1);
        expiry = omega (arith, fits.2);
        mask = mask;
        payload = fits.3;
      });
    }

-- ---- a weight

pub record WeightSent (k : Sizes) (n : NodeState) (v : NodeId) (weight : ℕ) : Type 0 where
  pub free : signer_refusal n.signer ≡ None
  pub fields : HasGoodFieldsIn k.format (weight_body n v weight)
  pub row : ℕ
  pub place : row_for k.edges (weight_body n v weight) ≡ Some row
  pub own : OwnUpTo k.me (MAX_OWN_HEARD + (n.signer.index + 1)) (weight_body n v weight)

-- an update that isn't refused fits
pub weight_sent_fits : (k : Sizes) (n : NodeState) (v : NodeId) (weight : ℕ) → 1 ≤ weight → weight ≤ MAX_WEIGHT → weight_refusal n v weight ≡ None
    → NodeHolds k n → WeightSent k n v weight
weight_sent_fits k n v weight least most e h = go (edge_to n.fixed v) refl e
  where
    at : (edge : ℕ) → edge_to n.fixed v ≡ Some edge → signer_refusal n.signer ≡ None → WeightSent k n v weight
    at edge is free =
        let update : WeightBody =
        record { origin = n.fixed.me; edge = record { 0 = edge }; seq = next_seq n.parts.weights edge n.fixed.me.0; weight = weight } in
        let same : weight_body n v weight ≡ bodies.Weight update =
        ap (λ (o : Option ℕ). bodies.Weight
        (record { origin = n.fixed.me; edge = record { 0 = edge_or o }; seq = next_seq n.parts.weights (edge_or o) n.fixed.me.0; weight = weight })) is in
        let number =
        subst (λ (u : NodeId). (1 ≤ next_seq n.parts.weights edge u.0) × (next_seq n.parts.weights edge u.0 ≤ MAX_OWN_HEARD + n.signer.index + 1))
        (sym h.fixed.me)
        (own_next_seq k n.signer.index edge n.parts.weights h.parts.weights) in
        let row = own_row n.fixed.topology.edges edge n.fixed.me.0 v.0 is in
        let within = place_within (joins n.fixed.me.0 v.0) n.fixed.topology.edges edge is in
        record {
          free = free;
          fields = subst (HasGoodFieldsIn k.format) (sym same) (weight_is_good k.format update (record {
            origin = h.fixed.is_node;
            edge = omega
                (arith, within, subst (λ (f : ℕ). length n.fixed.topology.edges ≤ max_edges f) h.fixed.format h.fixed.topology.ranges.graph.edge_count);
            seq = (number.0, omega (arith, number.1, h.signer.index, h.signer.bound, h.signer.total));
            weight = (least, most);
          }));
          row = row.0;
          place = subst (λ (b : Body). row_for k.edges b ≡ Some row.0) (sym same)
              (ap (λ (es : List Edge). row_in es edge n.fixed.me.0) (sym h.fixed.edges) ∙ row.1);
          own = subst (OwnUpTo k.me (MAX_OWN_HEARD + (n.signer.index + 1))) (sym same) (λ mine. omega (arith, number.1));
        }

    go : (o : Option ℕ) → edge_to n.fixed v ≡ o → weight_refusal_at n o weight ≡ None → WeightSent k n v weight
    go None is e = absurd (cc)
    go (Some edge) is e =
        let usable = if_none (is_withdrawn n.parts.weights edge) refusals.BadEnd _ e in
        let low = if_none (nat_lt weight (minimum n.parts.weights edge)) (refusals.Low (minimum n.parts.weights edge)) (signer_refusal n.signer) usable.1 in
        at edge is low.1
