-- What a node keeps where it signed a message of a client.
use Rattle.std.proofs.Common.{◌≡◌, ◌<◌, ◌≤◌, ℕ, ◌+◌, List, length, None, refl}
use Rattle.std.proofs.Common.{arith}
use Rattle.sp_base.specs.declared.id.NodeId.{NodeId}
use Rattle.sp_msg.specs.Bodies.{HasGoodFieldsIn}
use Rattle.sp_msg.specs.Views.{signer_of}
use Rattle.sp_msg.specs.declared.body.Body.{Body}
use Rattle.sp_rules.specs.Arts.{Arts}
use Rattle.sp_rules.specs.Masks.{Choice, IsChoice, graph_of}
use Rattle.sp_rules.specs.Node.{NodeState, Signer, signed_now, signed_once}
use Rattle.sp_rules.specs.Kflow.{pushed, waiting_mask}
use Rattle.sp_rules.specs.KflowSends.{KSend, krel_refusal, krel_sends, no_mask, send_krel_refusal}
use Rattle.sp_rules.specs.Prio.{admit_prio}
use Rattle.sp_rules.specs.Rel.{pushed_in}
use Rattle.sp_rules.specs.Sends.{PrioSend, mask_in, own_prio, prio_body, rel_body, rel_refusal}
use Rattle.sp_rules.specs.Sends.{send_prio_refusal, weight_body, weight_refusal}
use Rattle.sp_rules.specs.Weights.{held}
use Rattle.sp_rules.specs.declared.kflow.FlowKind.TheVariants.{Plain, Paths}
use Rattle.sp_base.specs.declared.limits.TheConstants.{MAX_PAYLOAD_BYTES, MAX_WEIGHT}
use Rattle.laws_node.specs.About.{IsAbout}
use Rattle.laws_node.specs.Inputs.{ArtsFit, PrioSendFits}
use Rattle.laws_node.specs.Nodes.{NodeHolds, PartsHold, SignerHolds}
use Rattle.laws_node.specs.Sizes.{Sizes, ids_after, numbers_after}
use Rattle.laws_node.specs.Stores.{PrioHolds}
use Rattle.laws_node.proofs.About.{krel_sent_about, me_is_there, prio_about, rel_about, weight_about}
use Rattle.laws_node.proofs.Own.{in_own_format, either, free, left, own_fits, prio_sent_fits, rel_sent_fits, weight_sent_fits}
use Rattle.laws_node.proofs.OwnPaths.{KChoice, krel_sent_fits}
use Rattle.laws_node.proofs.Priority.{prio_more, sent_holds}
use Rattle.laws_node.proofs.Reliable.{pushed_in_holds}
use Rattle.laws_node.proofs.FlowRows.{rel_more}
use Rattle.laws_node.proofs.Updates.{held_holds, weights_more}

-- ---- a signature was made

-- what is asked of the message that is signed next
abbrev pub Owns : Sizes → Arts → NodeState → Body → Type 0
Owns k arts n body =
    signer_of body ≡ n.fixed.me → HasGoodFieldsIn n.fixed.topology.format body → IsAbout n.fixed.topology body → n.signer.index < n.signer.total
    → k.keeps (signed_now arts n body)

pub signed_once_holds : (s : Signer) → s.index < s.bound → SignerHolds s → SignerHolds (record s { index = s.index + 1 })
signed_once_holds s below h = record { index = omega (arith, below); bound = h.bound; total = h.total }

-- the priority part, where another one has what was signed
pub signed_beside : (k : Sizes) (n : NodeState) → PrioHolds k (numbers_after n.calls) (ids_after n.calls n.signer.index) n.signer.index n.parts.prio
    → PrioHolds k (numbers_after n.calls) (ids_after n.calls (n.signer.index + 1)) (n.signer.index + 1) n.parts.prio
signed_beside k n h =
    prio_more k (numbers_after n.calls) (numbers_after n.calls) (ids_after n.calls n.signer.index) (ids_after n.calls (n.signer.index + 1))
    n.signer.index (n.signer.index + 1) n.parts.prio (omega arith) (omega arith) (omega arith) h

-- a reliable message of a client is signed and kept
pub rel_sent_keeps : (k : Sizes) (arts : Arts) (n : NodeState) (dst : NodeId) (payload : List ℕ) → ArtsFit arts n.fixed n.signer
    → length payload ≤ MAX_PAYLOAD_BYTES → Owns k arts n (rel_body n dst payload) → rel_refusal n dst ≡ None → NodeHolds k n
    → NodeHolds k (signed_once n (record n.parts { rel = pushed_in n.parts.rel (signed_now arts n (rel_body n dst payload)) }))
rel_sent_keeps k arts n dst payload fits short own_keeps e h =
    let sent = rel_sent_fits k n dst payload short e h in
    let own = own_fits arts n k (rel_body n dst payload) fits h.fixed.signature_len
    (own_keeps refl (in_own_format k n (rel_body n dst payload) h sent.fields) (rel_about k n dst payload e h) (left n.signer h.signer sent.free))
    sent.fields in
    record {
      fixed = h.fixed;
      live = h.live;
      now = h.now;
      calls = h.calls;
      links = h.links;
      signer = signed_once_holds n.signer (free n.signer h.signer sent.free) h.signer;
      parts = record {
        weights = weights_more k n.signer.index (n.signer.index + 1) n.parts.weights (omega arith) h.parts.weights;
        prio = signed_beside k n h.parts.prio;
        rel = pushed_in_holds Plain k n.signer.index n.parts.rel (signed_now arts n (rel_body n dst payload)) sent.next own tt tt h.parts.rel;
        kflow = rel_more Paths k n.signer.index (n.signer.index + 1) n.parts.kflow.flows (omega arith) h.parts.kflow;
        lives = h.parts.lives;
        origins = h.parts.origins;
      };
    }

-- a message on paths is
pub krel_sent_keeps : (k : Sizes) (arts : Arts) (n : NodeState) (m : KSend) (choice : Choice) → ArtsFit arts n.fixed n.signer
    → length m.payload ≤ MAX_PAYLOAD_BYTES → Owns k arts n (krel_sends n m choice) → send_krel_refusal n m choice ≡ None → KChoice n m choice → NodeHolds k n
    → NodeHolds k (signed_once n (record n.parts { kflow = pushed n.parts.kflow (signed_now arts n (krel_sends n m choice)) m.paths }))
krel_sent_keeps k arts n m choice fits short own_keeps e is h =
    let body = krel_sends n m choice in
    let sent = krel_sent_fits k n m choice short e is h in
    let about = krel_sent_about k n m choice (either (krel_refusal n m) (no_mask (waiting_mask n.parts.kflow m.dst) choice) e).0 sent.within h in
    let own = own_fits arts n k body fits h.fixed.signature_len
    (own_keeps refl (in_own_format k n body h sent.fields) about (left n.signer h.signer sent.free)) sent.fields in
    record {
      fixed = h.fixed;
      live = h.live;
      now = h.now;
      calls = h.calls;
      links = h.links;
      signer = signed_once_holds n.signer (free n.signer h.signer sent.free) h.signer;
      parts = record {
        weights = weights_more k n.signer.index (n.signer.index + 1) n.parts.weights (omega arith) h.parts.weights;
        prio = signed_beside k n h.parts.prio;
        rel = rel_more Plain k n.signer.index (n.signer.index + 1) n.parts.rel (omega arith) h.parts.rel;
        kflow = pushed_in_holds Paths k n.signer.index n.parts.kflow.flows (signed_now arts n body) sent.next own tt sent.within h.parts.kflow;
        lives = h.parts.lives;
        origins = h.parts.origins;
      };
    }

-- a priority message is
pub prio_sent_keeps : (k : Sizes) (arts : Arts) (n : NodeState) (m : PrioSend) (choice : Choice) → ArtsFit arts n.fixed n.signer
    → PrioSendFits m → Owns k arts n (prio_body n m (mask_in choice)) → send_prio_refusal n m choice ≡ None
    → IsChoice n.parts.weights (graph_of n.fixed.topology n.parts.weights) n.fixed.me m.dst m.paths choice → NodeHolds k n
    → NodeHolds k (signed_once n (record n.parts { prio = admit_prio n.parts.prio (own_prio arts n m choice) None }))
prio_sent_keeps k arts n m choice fits sizes own_keeps e is h =
    let sent = prio_sent_fits k n m choice sizes e is h in
    let own = own_fits arts n k (prio_body n m (mask_in choice)) fits h.fixed.signature_len
    (own_keeps refl (in_own_format k n (prio_body n m (mask_in choice)) h sent.fields) (prio_about k n m choice (me_is_there arts n.fixed n.signer fits) e is h)
    (left n.signer h.signer sent.free)) sent.fields in
    record {
      fixed = h.fixed;
      live = h.live;
      now = h.now;
      calls = h.calls;
      links = h.links;
      signer = signed_once_holds n.signer (free n.signer h.signer sent.free) h.signer;
      parts = record {
        weights = weights_more k n.signer.index (n.signer.index + 1) n.parts.weights (omega arith) h.parts.weights;
        prio = prio_more k (numbers_after n.calls) (numbers_after n.calls) (ids_after n.calls n.signer.index + 1) (ids_after n.calls (n.signer.index + 1))
            (n.signer.index + 1) (n.signer.index + 1) _ (omega arith) (omega arith) (omega arith)
            (sent_holds k (numbers_after n.calls) (ids_after n.calls n.signer.index) n.signer.index n.parts.prio (own_prio arts n m choice) tt own refl
            h.parts.prio);
        rel = rel_more Plain k n.signer.index (n.signer.index + 1) n.parts.rel (omega arith) h.parts.rel;
        kflow = rel_more Paths k n.signer.index (n.signer.index + 1) n.parts.kflow.flows (omega arith) h.parts.kflow;
        lives = h.parts.lives;
        origins = h.parts.origins;
      };
    }

-- a weight is
pub weight_sent_keeps : (k : Sizes) (arts : Arts) (n : NodeState) (v : NodeId) (weight : ℕ) → ArtsFit arts n.fixed n.signer
    → 1 ≤ weight → weight ≤ MAX_WEIGHT → Owns k arts n (weight_body n v weight) → weight_refusal n v weight ≡ None → NodeHolds k n
    → NodeHolds k (signed_once n (record n.parts { weights = held n.parts.weights (signed_now arts n (weight_body n v weight)) }))
weight_sent_keeps k arts n v weight fits least most own_keeps e h =
    let sent = weight_sent_fits k n v weight least most e h in
    let own = own_fits arts n k (weight_body n v weight) fits h.fixed.signature_len
    (own_keeps refl (in_own_format k n (weight_body n v weight) h sent.fields) (weight_about n v weight (me_is_there arts n.fixed n.signer fits) e)
    (left n.signer h.signer sent.free)) sent.fields in
    record {
      fixed = h.fixed;
      live = h.live;
      now = h.now;
      calls = h.calls;
      links = h.links;
      signer = signed_once_holds n.signer (free n.signer h.signer sent.free) h.signer;
      parts = record {
        weights = held_holds k n.signer.index (n.signer.index + 1) sent.row n.parts.weights (signed_now arts n (weight_body n v weight)) (omega arith)
            (record { kind = tt; place = sent.place; fits = own; own = sent.own }) h.parts.weights;
        prio = signed_beside k n h.parts.prio;
        rel = rel_more Plain k n.signer.index (n.signer.index + 1) n.parts.rel (omega arith) h.parts.rel;
        kflow = rel_more Paths k n.signer.index (n.signer.index + 1) n.parts.kflow.flows (omega arith) h.parts.kflow;
        lives = h.parts.lives;
        origins = h.parts.origins;
      };
    }

-- all parts, where more was signed
pub parts_signed : (k : Sizes) (n : NodeState) → NodeHolds k n
    → PartsHold k (numbers_after n.calls) (ids_after n.calls (n.signer.index + 1)) (n.signer.index + 1) n.parts
parts_signed k n h = record {
  weights = weights_more k n.signer.index (n.signer.index + 1) n.parts.weights (omega arith) h.parts.weights;
  prio = signed_beside k n h.parts.prio;
  rel = rel_more Plain k n.signer.index (n.signer.index + 1) n.parts.rel (omega arith) h.parts.rel;
  kflow = rel_more Paths k n.signer.index (n.signer.index + 1) n.parts.kflow.flows (omega arith) h.parts.kflow;
  lives = h.parts.lives;
  origins = h.parts.origins;
}
