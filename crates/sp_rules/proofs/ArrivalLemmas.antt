-- What becomes of a datagram, taken apart: by what its bytes are, then by what its link answers, then by its sections.
use Rattle.std.specs.Prelude.{ℕ, ◌≡◌, Bool, List, Option, unwrap_or, Result, Err}
use Rattle.std.proofs.Common.{refl}
use Rattle.sp_base.specs.Cursor.{or_else}
use Rattle.sp_frame.specs.Sections.{Contents}
use Rattle.sp_frame.specs.declared.refused.FrameRefused.{FrameRefused}
use Rattle.sp_frame.specs.declared.refused.FrameRefused.TheVariants as frames
use Rattle.sp_frame.specs.declared.refused.SectionRefused.{SectionRefused}
use Rattle.sp_rules.specs.Arrivals.{link_says, no_frame, not_fresh, not_taken, sections_in}
use Rattle.sp_rules.specs.Arts.{Arts, is_right}
use Rattle.sp_rules.specs.Link.{Link, after_frame}
use Rattle.sp_rules.specs.Node.{kept_or}
use Rattle.sp_rules.specs.Parts.{Fixed}
use Rattle.sp_rules.specs.declared.link.LinkAnswer.{LinkAnswer}
use Rattle.sp_rules.specs.declared.node.LinkReply.{LinkReply}
use Rattle.sp_rules.specs.declared.node.LinkReply.TheVariants as replies

-- by what the sections are, where all before is passed
abbrev pub of_fresh : (mine theirs : ℕ) → (documents : Bool) → Result Contents SectionRefused → (shut : Bool) → LinkReply
of_fresh mine theirs documents sections shut = unwrap_or (not_taken mine theirs documents sections shut) replies.Fresh

-- by the answer of the link, and by what comes after it
abbrev pub of_link : LinkAnswer → Option LinkReply → LinkReply
of_link answer after = unwrap_or (or_else (not_fresh answer) after) replies.Fresh

-- by what the bytes are
abbrev pub of_frame : Arts → Fixed → (version : ℕ) → (shut : Bool) → Link → List ℕ → Result (List ℕ) FrameRefused → LinkReply
of_frame arts f version shut l bytes frame =
    unwrap_or
    (or_else (no_frame frame)
    (or_else (not_fresh (link_says arts l bytes))
    (not_taken version (arts.head bytes).topology (arts.is_document bytes) (sections_in arts f bytes) shut)))
    replies.Fresh

-- the link, by what the bytes are
abbrev pub link_with : Arts → Link → List ℕ → Result (List ℕ) FrameRefused → Link
link_with arts l bytes frame = kept_or (no_frame frame) l (after_frame l (arts.head bytes) (is_right arts l.key bytes))

-- bytes that are no frame leave the link
pub link_stays : (arts : Arts) (l : Link) (bytes : List ℕ) (refused : FrameRefused) → link_with arts l bytes (Err refused) ≡ l
link_stays arts l bytes frames.TooLong = refl
link_stays arts l bytes (frames.Short short) = refl
link_stays arts l bytes frames.Magic = refl
link_stays arts l bytes frames.Version = refl
