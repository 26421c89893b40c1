-- A frame whose tag is written over zeros is its bytes and then the tag over them.
use Rattle.std.proofs.Common.{◌≡◌, ℕ, ◌-◌, ◌≤◌, ◌∙◌, List, ◌++◌, length, take, ap, arith}
use Rattle.std.specs.Prelude.{replicate}
use Rattle.std.proofs.lemmas.List.{length-append, length-replicate}
use Rattle.std.proofs.Math.Seq.{take-append_seam}
use Rattle.sp_frame.specs.Frames.{frame_bytes, head_bytes, tagged_part}
use Rattle.sp_frame.specs.Sections.{Contents, sections_bytes_in}
use Rattle.sp_frame.specs.declared.head.Head.{Head}
use Rattle.sp_hmac.specs.Hmac.{hmac}
use Rattle.sp_node_format.specs.Format.{format_in}
use Rattle.sp_runs.specs.Inputs.{sealed_frame}

-- before the zeros
signed_is : (body zeros : List ℕ) → length zeros ≡ 32 → tagged_part (body ++ zeros) ≡ body
signed_is body zeros long =
    let place : length (body ++ zeros) - 32 ≡ length body = omega (arith, length-append body zeros, long) in
    ap (λ (n : ℕ). take n (body ++ zeros)) place ∙ take-append_seam body zeros

pub sealed_is : (key bytes : List ℕ) (h : Head) (s : Contents) → bytes ≡ frame_bytes h s (replicate 32 0)
    → tagged_part bytes ++ hmac key (tagged_part bytes) ≡ sealed_frame (format_in h.format) h key s
unfolding frame_bytes
sealed_is key bytes h s is =
    let body = head_bytes h ++ sections_bytes_in h.format s in
    ap (λ (all : List ℕ). tagged_part all ++ hmac key (tagged_part all)) is
    ∙ ap (λ (part : List ℕ). part ++ hmac key part) (signed_is body (replicate 32 0) (length-replicate {A = ℕ} 32 0))

pub long_enough : (bytes : List ℕ) (h : Head) (s : Contents) → bytes ≡ frame_bytes h s (replicate 32 0) → 32 ≤ length bytes
unfolding frame_bytes
long_enough bytes h s is =
    let zeros = length-replicate {A = ℕ} 32 0 in
    let all = length-append (head_bytes h ++ sections_bytes_in h.format s) (replicate {A = ℕ} 32 0) in
    let whole = ap (λ (bs : List ℕ). length bs) is in
    omega (arith, zeros, all, whole)
