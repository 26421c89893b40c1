-- The frames of each format are read back, all of them is bytes, and what is read of them is good.
use Rattle.std.proofs.Common.{◌≡◌, ◌<◌, ℕ, ◌-◌, List, ◌++◌, length, take, drop, length-append, sym, ap, subst, ◌∙◌, arith}
use Rattle.std.proofs.Math.Seq.{drop-append_seam, take-append_seam}
use Rattle.std.proofs.lemmas.List.Elements.{All-drop, All-take}
use Rattle.sp_base.specs.Spelling.{AreBytes}
use Rattle.sp_frame.proofs.SectionLemmas.{read_is_spelled, spelled_is_read}
use Rattle.sp_frame.specs.Frames.{ends_bytes, head_bytes, numbers_bytes, sections_part, tagged_part}
use Rattle.sp_frame.specs.Sections.{Contents, sections_bytes_in, sections_of_in, with_document}
use Rattle.sp_frame.specs.declared.head.Head.{Head}
use Rattle.sp_msg.proofs.EncodedIsRead.{whole_is_read}
use Rattle.sp_hmac.proofs.Lengths.{length-hmac}
use Rattle.sp_hmac.specs.Hmac.{hmac}
use Rattle.sp_node_format.proofs.GoodFields.{fields_are_good}
use Rattle.sp_sign.specs.Heights.{param_of}
use Rattle.laws_runs_format.specs.FormatCarries.{FormatCarries}
use Rattle.laws_runs_format.proofs.Bytes.{joined, of_tag}
use Rattle.laws_runs_format.proofs.FrameBytes.{head_are, sections_in, sections_out, document_in}
use Rattle.laws_runs_format.proofs.GoodObjects.{objects_are_good}
use Rattle.laws_runs_format.proofs.Signatures.{signature_are}

pub head_long : (h : Head) → length (head_bytes h) ≡ 33
unfolding head_bytes ends_bytes numbers_bytes
head_long h = omega arith

between : (h : Head) (s : Contents) (tag : List ℕ) → length tag ≡ 32
    → sections_part ((head_bytes h ++ sections_bytes_in h.format s) ++ tag) ≡ sections_bytes_in h.format s
between h s tag long =
    let sections = sections_bytes_in h.format s in
    let body = head_bytes h ++ sections in
    let all : length (body ++ tag) - 32 ≡ length body = omega (arith, length-append body tag, long) in
    ap (λ n. drop 33 (take n (body ++ tag))) all ∙ ap (drop 33) (take-append_seam body tag)
    ∙ ap (λ n. drop n body) (sym (head_long h)) ∙ drop-append_seam (head_bytes h) sections

pub part_are : (bytes : List ℕ) → AreBytes bytes → AreBytes (sections_part bytes)
part_are bytes are = All-drop (λ (b : ℕ). b < 256) 33 (tagged_part bytes) (All-take (λ (b : ℕ). b < 256) (length bytes - 32) bytes are)

pub format_carries : FormatCarries
format_carries format = record {
  bodies = λ body good. whole_is_read format body (fields_are_good format body good);
  back = λ len h s key same is good.
      let inner = head_bytes h ++ sections_bytes_in h.format s in
      ap (sections_of_in format len) (between h s (hmac key inner) (length-hmac key inner))
      ∙ ap (λ (f : ℕ). sections_of_in format len (sections_bytes_in f s)) same ∙ spelled_is_read format len s is;
  frames = λ h s plain of. joined (head_bytes h) (sections_bytes_in h.format s) (head_are h) (sections_in h.format s plain of);
  document_frames = λ h document are.
      joined (head_bytes h) (sections_bytes_in h.format (with_document document)) (head_are h) (document_in h.format document are);
  tags = λ key bytes. of_tag key bytes;
  signatures = λ height seed index message. signature_are (param_of height) seed index message;
  reads = λ len bytes s are is.
      let spelling = read_is_spelled format len (sections_part bytes) s (part_are bytes are) is in
      sections_out format len s spelling.1 (subst AreBytes spelling.0 (part_are bytes are));
  goods = λ len bytes s are is. objects_are_good format len s (read_is_spelled format len (sections_part bytes) s (part_are bytes are) is).1;
}
