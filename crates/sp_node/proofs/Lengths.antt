-- How long a frame is that a node makes.
use Rattle.std.proofs.Common.{◌≡◌, ℕ, ◌≤◌, Bool, true, false, List, [], length, nat_lt, None, Ok, refl, sym, ap, ◌∙◌, subst, arith}
use Rattle.std.proofs.lemmas.Bool.Decides.{nat_tests}
use Rattle.laws_node.specs.Nodes.{IsKept}
use Rattle.sp_base.specs.declared.id.NodeId.{NodeId}
use Rattle.sp_frame.specs.Frames.{opened_in}
use Rattle.sp_frame.specs.declared.frame.TheConstants.{MAX_FRAME_BYTES, MIN_FRAME_BYTES}
use Rattle.sp_node_format.proofs.PolledFrames.{polled_is_read_back}
use Rattle.sp_node_format.specs.Format.{format_of}
use Rattle.sp_node_format.specs.PolledFrames.{most_signature}
use Rattle.sp_rules.specs.Node.{NodeState, call_refusal, is_neighbour}
use Rattle.sp_rules.specs.Polls.{frame_to}
use Rattle.sp_rules.specs.Steps.{Frame, NodeStep, Output, Poll, Reply, refused_call, replied}

pub is_called : (n : NodeState) (v : NodeId) → call_refusal n v ≡ None → is_neighbour n v ≡ true
is_called n v called = go (is_neighbour n v) refl
  where
    go : (t : Bool) → is_neighbour n v ≡ t → is_neighbour n v ≡ true
    go true is = is
    go false is = let e = rw is at called in absurd (cc)

-- bytes that open are as long as a frame at least, and no longer than a datagram may be
pub opened_is_between : (format : ℕ) (bytes : List ℕ) → opened_in format bytes ≡ Ok bytes → (MIN_FRAME_BYTES ≤ length bytes) × (length bytes ≤ MAX_FRAME_BYTES)
opened_is_between format bytes opens = go (nat_lt MAX_FRAME_BYTES (length bytes)) (nat_lt (length bytes) MIN_FRAME_BYTES) refl refl
  where
    go : (long short : Bool) → nat_lt MAX_FRAME_BYTES (length bytes) ≡ long → nat_lt (length bytes) MIN_FRAME_BYTES ≡ short
        → (MIN_FRAME_BYTES ≤ length bytes) × (length bytes ≤ MAX_FRAME_BYTES)
    go true short is at = let e = rw is at opens in absurd (cc)
    go false true is at = let e = rw (is, at) at opens in absurd (cc)
    go false false is at = (grind (arith, nat_tests, at), grind (arith, nat_tests, is))

abbrev in_frame : Reply → List ℕ
in_frame (Frame bytes) = bytes
in_frame _ = []

pub polled_is : (n : NodeState) (v : NodeId) (bytes : List ℕ) (new : NodeState) → call_refusal n v ≡ None
    → NodeStep (format_of n.fixed) n (Poll v) (replied (Frame bytes)) new
    → bytes ≡ frame_to (format_of n.fixed) n v
polled_is n v bytes new called step =
    ap (λ (o : Output). in_frame o.reply) (step.0 ∙ ap (λ r. refused_call r (replied (Frame (frame_to (format_of n.fixed) n v)))) called)

-- a frame that a node makes has at most as many bytes as a frame may have
pub polled_is_short : (n : NodeState) (v : NodeId) (bytes : List ℕ) (new : NodeState) → IsKept (format_of n.fixed) n → n.fixed.signature_len ≤ most_signature
    → call_refusal n v ≡ None → NodeStep (format_of n.fixed) n (Poll v) (replied (Frame bytes)) new → length bytes ≤ MAX_FRAME_BYTES
polled_is_short n v bytes new kept short called step =
    let reads = (polled_is_read_back n v kept short (is_called n v called)).0 in
    subst (λ (bs : List ℕ). length bs ≤ MAX_FRAME_BYTES) (sym (polled_is n v bytes new called step))
    (opened_is_between n.fixed.topology.format (frame_to (format_of n.fixed) n v) reads.opens).1
