-- What a client may send is in its ranges, and is new to the part that takes it.
use Rattle.std.proofs.Common.{◌≡◌, ◌≤◌, ◌∙◌, ℕ, ◌+◌, ◌||◌, Bool, true, false, List, length, Option, Some, None, refl, sym, ap, arith, cond, nat_lt, nat_le}
use Rattle.std.specs.Prelude.{is_none}
use Rattle.std.proofs.lemmas.Bool.Decides.{nat_tests}
use Rattle.sp_base.specs.Cursor.{or_else}
use Rattle.sp_base.specs.declared.id.NodeId.{NodeId}
use Rattle.sp_base.specs.declared.limits.TheConstants.{MAX_PAYLOAD_BYTES}
use Rattle.sp_node_format.specs.Format.{format_of}
use Rattle.sp_msg.specs.Bodies.{HasGoodFieldsIn}
use Rattle.sp_msg.specs.declared.body.WeightBody.{WeightBody}
use Rattle.sp_msg.specs.declared.refused.SendRefused.{SendRefused}
use Rattle.sp_msg.specs.declared.refused.SendRefused.TheVariants as refusals
use Rattle.sp_rules.specs.Masks.{IsChoice, Mask, graph_of}
use Rattle.sp_rules.specs.Node.{NodeState}
use Rattle.sp_rules.specs.Parts.{edge_to}
use Rattle.sp_rules.specs.Sends.{PrioSend, is_unmet, no_life, no_paths, no_room, prio_body, prio_refusal, rel_refusal, send_prio_refusal, signer_refusal}
use Rattle.sp_rules.specs.Sends.{weight_body, weight_refusal, weight_refusal_at}
use Rattle.sp_rules.specs.Handle.{offer_of}
use Rattle.sp_rules.specs.Rel.{room}
use Rattle.sp_rules.specs.Weights.{WeightState, is_withdrawn, last_seq, minimum, next_seq, offer, row_in}
use Rattle.sp_rules.specs.declared.weights.Offer.TheVariants as offers
use Rattle.sp_topology.specs.declared.topology.Edge.{Edge}
use Rattle.laws_node.proofs.Own.{RelSent, prio_sent_fits, rel_sent_fits}
use Rattle.laws_node.proofs.Updates.{own_row}
use Rattle.laws_node.specs.Inputs.{PrioSendFits}
use Rattle.laws_node.specs.Nodes.{IsKept}
use Rattle.sp_node_state.proofs.Sizes.{sizes}

pub rel_sent : (n : NodeState) (dst : NodeId) (payload : List ℕ) → length payload ≤ MAX_PAYLOAD_BYTES → rel_refusal n dst ≡ None → IsKept (format_of n.fixed) n
    → RelSent (sizes n) n dst payload
rel_sent n dst payload short free kept = rel_sent_fits (sizes n) n dst payload short free kept

-- the signer signs it, where nothing refuses
pub signer_free : (n : NodeState) (dst : NodeId) → rel_refusal n dst ≡ None → signer_refusal n.signer ≡ None
signer_free n dst free = last (no_life (is_unmet n dst)) (no_room (room n.parts.rel dst)) (signer_refusal n.signer) free
  where
    last : (a b c : Option SendRefused) → or_else a (or_else b c) ≡ None → c ≡ None
    last None None c e = e
    last None (Some r) c e = absurd (cc)
    last (Some r) b c e = absurd (cc)

-- ---- an own update is new

-- the next update of an end of an edge
abbrev next_update : WeightState → NodeId → ℕ → ℕ → WeightBody
next_update s me edge weight = record { origin = me; edge = record { 0 = edge }; seq = next_seq s edge me.0; weight = weight }

offer_new : (s : WeightState) (me : NodeId) (edge weight row : ℕ) → row_in s.edges edge me.0 ≡ Some row → is_withdrawn s edge ≡ false
    → nat_lt weight (minimum s edge) ≡ false → offer s (next_update s me edge weight) ≡ offers.New
offer_new s me edge weight row is there low = go (row_in s.edges edge me.0) is (is_withdrawn s edge) there (minimum s edge) low (last_seq s edge me.0)
  where
    go : (o : Option ℕ) → o ≡ Some row → (shut : Bool) → shut ≡ false → (least : ℕ) → nat_lt weight least ≡ false → (last : ℕ)
        → cond (is_none o || shut) offers.Foreign (cond (nat_lt weight least) (offers.Low least) (cond (nat_le (last + 1) last) (offers.Old last) offers.New))
        ≡ offers.New
    go o is shut there least low last =
        let old : nat_le (last + 1) last ≡ false = grind (arith, nat_tests) in
        rw (is, there, low, old) refl

pub own_is_new : (n : NodeState) (v : NodeId) (weight : ℕ) → weight_refusal n v weight ≡ None → IsKept (format_of n.fixed) n
    → offer_of n.parts.weights (weight_body n v weight) ≡ offers.New
own_is_new n v weight free kept = go (edge_to n.fixed v) refl free
  where
    low_is : (shut t : Bool) (x : ℕ) → cond shut (Some refusals.BadEnd) (cond t (Some (refusals.Low x)) (signer_refusal n.signer)) ≡ None
        → (shut ≡ false) × (t ≡ false)
    low_is true t x e = absurd (cc)
    low_is false true x e = absurd (cc)
    low_is false false x e = (refl, refl)

    at : (edge : ℕ) → edge_to n.fixed v ≡ Some edge → is_withdrawn n.parts.weights edge ≡ false → nat_lt weight (minimum n.parts.weights edge) ≡ false
        → offer n.parts.weights (next_update n.parts.weights n.fixed.me edge weight) ≡ offers.New
    at edge is there low =
        let row = own_row n.fixed.topology.edges edge n.fixed.me.0 v.0 is in
        let same : n.parts.weights.edges ≡ n.fixed.topology.edges = kept.parts.weights.edges ∙ sym kept.fixed.edges in
        let place : row_in n.parts.weights.edges edge n.fixed.me.0 ≡ Some row.0 = ap (λ (es : List Edge). row_in es edge n.fixed.me.0) same ∙ row.1 in
        offer_new n.parts.weights n.fixed.me edge weight row.0 place there low

    go : (o : Option ℕ) → edge_to n.fixed v ≡ o → weight_refusal_at n o weight ≡ None → offer_of n.parts.weights (weight_body n v weight) ≡ offers.New
    go None is e = absurd (cc)
    go (Some edge) is e =
        let two = low_is (is_withdrawn n.parts.weights edge) (nat_lt weight (minimum n.parts.weights edge)) (minimum n.parts.weights edge) e in
        rw is (at edge is two.0 two.1)

-- ---- an own priority message

pub prio_sent : (n : NodeState) (m : PrioSend) (mask : ℕ) → PrioSendFits m → prio_refusal n m ≡ None
    → IsChoice n.parts.weights (graph_of n.fixed.topology n.parts.weights) n.fixed.me m.dst m.paths (Mask mask) → IsKept (format_of n.fixed) n
    → HasGoodFieldsIn n.fixed.topology.format (prio_body n m mask)
prio_sent n m mask fits free is kept =
    let none : send_prio_refusal n m (Mask mask) ≡ None = ap (λ (o : Option SendRefused). or_else o (no_paths (Mask mask))) free in
    (prio_sent_fits (sizes n) n m (Mask mask) fits none is kept).fields
