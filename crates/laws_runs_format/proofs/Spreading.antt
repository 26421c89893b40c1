-- A frame with a document begins as one, and so versions spread over this format.
use Rattle.std.proofs.Common.{◌≡◌, ◌==◌, ℕ, false, List, ◌++◌, length, drop, refl, sym, ap, ◌∙◌}
use Rattle.std.specs.Prelude.{IsTrue}
use Rattle.std.proofs.Math.Seq.{drop-append_seam}
use Rattle.sp_base.specs.declared.format.TheConstants.{FORMAT_1}
use Rattle.sp_frame.specs.Frames.{head_bytes, sections_part}
use Rattle.sp_frame.specs.Sections.{has_document, sections_bytes_in, with_document}
use Rattle.sp_frame.specs.declared.head.Head.{Head}
use Rattle.sp_hmac.proofs.Lengths.{length-hmac}
use Rattle.sp_hmac.specs.Hmac.{hmac}
use Rattle.sp_node_format.specs.Format.{format_in}
use Rattle.sp_runs.specs.Scenarios.{setting_of}
use Rattle.laws_progress.proofs.VersionsSpread.{versions_spread}
use Rattle.laws_runs.specs.Premises.{written}
use Rattle.laws_runs_format.specs.Arts.{arts_of}
use Rattle.laws_runs_format.specs.Spreading.{FormatBringsDocuments, SchedulesSpreadVersions}
use Rattle.laws_runs_format.proofs.Headers.{headers_fit}
use Rattle.laws_runs_format.proofs.Opens.{format_comes_through, front}
use Rattle.laws_runs_format.proofs.ReadBack.{head_long}

-- its sections begin with the byte of a document
sections_are : (h : Head) (sections tag : List ℕ) → length tag ≡ 32 → sections_part ((head_bytes h ++ sections) ++ tag) ≡ sections
sections_are h sections tag long =
    let inner = head_bytes h ++ sections in
    ap (drop 33) (front inner tag long) ∙ ap (λ n. drop n inner) (sym (head_long h)) ∙ drop-append_seam (head_bytes h) sections

begins : (format : ℕ) (h : Head) (document key : List ℕ) → (format == FORMAT_1) ≡ false
    → IsTrue ((format_in format).is_document (written (format_in format) h (with_document document) key))
unfolding sections_bytes_in
begins format h document key later =
    let sections = sections_bytes_in h.format (with_document document) in
    let tag = hmac key (head_bytes h ++ sections) in
    ap (has_document format) (sections_are h sections tag (length-hmac key (head_bytes h ++ sections))) ∙ rw later refl

pub format_brings_documents : FormatBringsDocuments
format_brings_documents format len h document key range same fits room = begins format h document key fits.document.0

pub schedules_spread_versions : SchedulesSpreadVersions
schedules_spread_versions s good may =
    let x = setting_of s in
    versions_spread (arts_of x) x (headers_fit s good) (format_comes_through x.topology.format s.height)
    (format_brings_documents x.topology.format x.signature_len) may
