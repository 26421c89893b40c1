-- Each frame of a run has a head, three sections and a tag, and fits a datagram.
use Rattle.std.proofs.Common.{◌≡◌, ◌≤◌, ℕ, ◌+◌, Bool, true, false, cond, nat_lt, List, ◌∷◌, ◌++◌, length, length-append, Option, Some, None, Result, Ok, Err}
use Rattle.std.proofs.Common.{refl}
use Rattle.std.proofs.Common.{sym, ap, subst, ◌∙◌, arith}
use Rattle.std.specs.Prelude.{flat_map}
use Rattle.std.proofs.lemmas.Bool.Decides.{nat_tests}
use Rattle.byteorder.specs.Endian.{big_bytes}
use Rattle.sp_base.specs.declared.id.NodeId.{NodeId}
use Rattle.sp_frame.specs.Frames.{ends_bytes, head_bytes, numbers_bytes, opened_in}
use Rattle.sp_frame.specs.Grammar.{counted_bytes, flagged_bytes}
use Rattle.sp_frame.specs.Objects.{object_bytes}
use Rattle.sp_frame.specs.Prioritized.{numbered_bytes, prios_bytes}
use Rattle.sp_frame.specs.Probes.{epoch_bytes, probes_bytes}
use Rattle.sp_frame.specs.Reliable.{paths_bytes, report_bytes, slot_bytes}
use Rattle.sp_frame.specs.Sections.{Contents, control_bytes, plain_bytes, sections_bytes_in, document_bytes, sized_bytes, zeros_bytes}
use Rattle.sp_frame.specs.Weights.{weights_bytes}
use Rattle.sp_frame.specs.declared.frame.TheConstants.{MAX_FRAME_BYTES}
use Rattle.sp_frame.specs.declared.head.Head.{Head}
use Rattle.sp_frame.specs.declared.refused.FrameRefused.{FrameRefused}
use Rattle.sp_frame.specs.declared.refused.FrameRefused.TheVariants as refusals
use Rattle.sp_hmac.proofs.Lengths.{length-hmac}
use Rattle.sp_hmac.specs.Hmac.{hmac}
use Rattle.sp_node_format.proofs.PolledFrames.{polled_is_read_back, signatures_are_short}
use Rattle.sp_node_format.specs.Format.{format_of}
use Rattle.sp_node_format.specs.PolledFrames.{most_signature}
use Rattle.sp_rules.specs.Arts.{Arts}
use Rattle.sp_rules.specs.Node.{NodeState, link_in}
use Rattle.sp_rules.specs.Parts.{Fixed}
use Rattle.sp_rules.specs.Polls.{frame_to, contents_at, head_to}
use Rattle.sp_runs.specs.Scenarios.{setting_of}
use Rattle.laws_node.specs.Nodes.{IsKept}
use Rattle.laws_runs.proofs.Frames.{frames_are_made}
use Rattle.laws_runs_format.specs.Arts.{arts_of}
use Rattle.laws_runs_format.specs.Frames.{FramesHaveTheirLength, HasLength, least_frame}
use Rattle.laws_runs_format.proofs.Headers.{headers_fit}
use Rattle.laws_runs_format.proofs.ReadBack.{format_carries}

-- ---- at least

one_byte : (n : ℕ) → length (big_bytes 1 n) ≡ 1
one_byte n = omega arith

eight_bytes : (n : ℕ) → length (big_bytes 8 n) ≡ 8
eight_bytes n = omega arith

counted_long : {X : Type 0} (spell : X → List ℕ) (xs : List X) → 1 ≤ length (counted_bytes spell xs)
counted_long spell xs =
    let count = one_byte (length xs) in
    let all = length-append (big_bytes 1 (length xs)) (flat_map spell xs) in
    omega (arith, count, all)

flagged_long : {X : Type 0} (spell : X → List ℕ) (o : Option X) → 1 ≤ length (flagged_bytes spell o)
flagged_long spell None = let flag = one_byte 0 in omega (arith, flag)
flagged_long spell (Some x) =
    let flag = one_byte 1 in
    let all = length-append (big_bytes 1 1) (spell x) in
    omega (arith, flag, all)

four : (a b c d : List ℕ) → length (a ++ b ++ c ++ d) ≡ length a + length b + length c + length d
four a b c d =
    let one = length-append ((a ++ b) ++ c) d in
    let two = length-append (a ++ b) c in
    let three = length-append a b in
    let right_one = length-append a (b ++ (c ++ d)) in
    let right_two = length-append b (c ++ d) in
    let right_three = length-append c d in
    omega (arith, one, two, three, right_one, right_two, right_three)

-- the parts after the slot have no byte at least
plain_long : (format : ℕ) (s : Contents) → 11 ≤ length (plain_bytes format s)
unfolding plain_bytes weights_bytes prios_bytes slot_bytes
plain_long format s =
    let front = weights_bytes format s.weights ++ big_bytes 8 s.prio_ack ++ prios_bytes format s.prios ++ slot_bytes format s.slot in
    let with_paths = front ++ paths_bytes format s.paths in
    let last = length-append (with_paths ++ probes_bytes format s.probe) (epoch_bytes format s.epoch) in
    let before = length-append with_paths (probes_bytes format s.probe) in
    let paths = length-append front (paths_bytes format s.paths) in
    let all = four (weights_bytes format s.weights) (big_bytes 8 s.prio_ack) (prios_bytes format s.prios) (slot_bytes format s.slot) in
    let weights = counted_long (object_bytes format) s.weights in
    let heard = eight_bytes s.prio_ack in
    let prios = counted_long (numbered_bytes format) s.prios in
    let slot = flagged_long (report_bytes format) s.slot in
    omega (arith, last, before, paths, all, weights, heard, prios, slot)

document_long : (document : List ℕ) → 11 ≤ length (128 ∷ document_bytes document)
unfolding document_bytes sized_bytes zeros_bytes
document_long document = omega (arith, length-append (big_bytes 2 (length document)) document, length-append document (zeros_bytes 0))

sections_long : (format : ℕ) (s : Contents) → 11 ≤ length (sections_bytes_in format s)
unfolding sections_bytes_in
sections_long format s = go s.document
  where
    go : (d : Option (List ℕ)) → 11 ≤ length (control_bytes format s d)
    go None = plain_long format s
    go (Some document) = document_long document

head_long : (h : Head) → length (head_bytes h) ≡ 33
unfolding head_bytes ends_bytes numbers_bytes
head_long h = omega arith

frame_long : (n : NodeState) (v : NodeId) → least_frame ≤ length (frame_to (format_of n.fixed) n v)
frame_long n v =
    let h = head_to n v in
    let s = contents_at n v in
    let sections = sections_bytes_in h.format s in
    let inner = head_bytes h ++ sections in
    let tag = length-hmac (link_in n v).key inner in
    let whole = length-append inner (hmac (link_in n v).key inner) in
    let parts = length-append (head_bytes h) sections in
    omega (arith, tag, whole, parts, head_long h, sections_long h.format s)

-- ---- at most

not_long : (format : ℕ) (bytes : List ℕ) → opened_in format bytes ≡ Ok bytes → length bytes ≤ MAX_FRAME_BYTES
not_long format bytes opens = go (nat_lt MAX_FRAME_BYTES (length bytes)) refl _ opens
  where
    go : (t : Bool) → nat_lt MAX_FRAME_BYTES (length bytes) ≡ t → (after : Result (List ℕ) FrameRefused) → cond t (Err refusals.TooLong) after ≡ Ok bytes
        → length bytes ≤ MAX_FRAME_BYTES
    go true is after e = absurd cc
    go false is after e = grind (arith, nat_tests, is)

-- ---- each frame

pub frames_have_their_length : FramesHaveTheirLength
frames_have_their_length s es js w good run u v place bytes at =
    let x = setting_of s in
    let made = frames_are_made (arts_of x) x es js w (headers_fit s good) (format_carries x.topology.format) run u v place bytes at in
    let n = made.node in
    let long = ap (λ (f : Fixed). f.signature_len) made.fixed in
    let short : n.fixed.signature_len ≤ most_signature = omega (arith, long, signatures_are_short s.height) in
    let arts : arts_of x ≡ format_of n.fixed = ap format_of (sym made.fixed) in
    let back = polled_is_read_back n v (subst (λ (a : Arts). IsKept a n) arts made.kept) short made.neighbour in
    subst HasLength (sym (made.frame ∙ ap (λ (a : Arts). frame_to a n v) arts)) (record {
      least = frame_long n v;
      most = not_long n.fixed.topology.format (frame_to (format_of n.fixed) n v) back.0.opens;
    })
