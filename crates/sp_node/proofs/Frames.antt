-- A frame whose tag is written over zeros is its bytes and then the tag over them.
use Rattle.std.proofs.Common.{◌≡◌, ℕ, ◌-◌, ◌≤◌, ◌∙◌, List, ◌++◌, length, take, ap, arith}
use Rattle.std.specs.Prelude.{replicate}
use Rattle.std.proofs.lemmas.List.{length-append, length-replicate}
use Rattle.std.proofs.Math.Seq.{take-append_seam}
use Rattle.sp_base.specs.declared.id.NodeId.{NodeId}
use Rattle.sp_frame.specs.Frames.{frame_bytes, head_bytes, tagged_part}
use Rattle.sp_frame.specs.Sections.{Contents, sections_bytes_in}
use Rattle.sp_frame.specs.declared.head.Head.{Head}
use Rattle.sp_hmac.specs.Hmac.{hmac}
use Rattle.sp_link.specs.Sealing.{sealed}
use Rattle.sp_node_format.specs.Format.{format_of}
use Rattle.sp_rules.specs.Link.{Link, next_head}
use Rattle.sp_rules.specs.Node.{NodeState, link_in}
use Rattle.sp_rules.specs.Polls.{contents_at, frame_to}

-- before the zeros
signed_is : (body zeros : List ℕ) → length zeros ≡ 32 → tagged_part (body ++ zeros) ≡ body
signed_is body zeros long =
    let place : length (body ++ zeros) - 32 ≡ length body = omega (arith, length-append body zeros, long) in
    ap (λ (n : ℕ). take n (body ++ zeros)) place ∙ take-append_seam body zeros

pub sealed_is : (key : List ℕ) (h : Head) (s : Contents)
    → sealed key (frame_bytes h s (replicate 32 0))
    ≡ (head_bytes h ++ sections_bytes_in h.format s) ++ hmac key (head_bytes h ++ sections_bytes_in h.format s)
unfolding frame_bytes
sealed_is key h s =
    let body = head_bytes h ++ sections_bytes_in h.format s in
    ap (λ (part : List ℕ). part ++ hmac key part) (signed_is body (replicate 32 0) (length-replicate {A = ℕ} 32 0))

pub long_enough : (h : Head) (s : Contents) → 32 ≤ length (frame_bytes h s (replicate 32 0))
unfolding frame_bytes
long_enough h s =
    let zeros = length-replicate {A = ℕ} 32 0 in
    omega (arith, zeros, length-append (head_bytes h ++ sections_bytes_in h.format s) (replicate {A = ℕ} 32 0))

-- sealed by the link, it is the frame of the rules
pub frame_is : (n : NodeState) (v : NodeId) (l : Link) (h : Head) (bytes : List ℕ) → l ≡ link_in n v
    → h ≡ next_head l n.live.version n.fixed.topology.format
    → bytes ≡ sealed l.key (frame_bytes h (contents_at n v) (replicate 32 0)) → bytes ≡ frame_to (format_of n.fixed) n v
frame_is n v l h bytes same head is =
    let c = contents_at n v in
    let format = n.fixed.topology.format in
    is
    ∙ ap (λ (hd : Head). sealed l.key (frame_bytes hd c (replicate 32 0))) head
    ∙ sealed_is l.key (next_head l n.live.version format) c
    ∙ ap (λ (k : Link). let part = head_bytes (next_head k n.live.version format) ++ sections_bytes_in format c in part ++ hmac k.key part) same
