-- Sections have one spelling in each format, and so have heads: what is written is read back, and what is read is all that was written.
use Rattle.std.specs.Prelude.{ℕ, ◌≡◌, List, ◌∷◌, ◌++◌, Ok, Err}
use Rattle.sp_base.specs.Spelling.{AreBytes}
use Rattle.sp_frame.specs.Frames.{IsFrame, head_bytes, head_of, sections_part, tag_part}
use Rattle.sp_frame.specs.Ranges.{IsContentsIn, IsHead}
use Rattle.sp_frame.specs.Sections.{Contents, sections_bytes_in, sections_of_in}
use Rattle.sp_frame.specs.declared.head.Head.{Head}
use Rattle.sp_frame.specs.declared.refused.SectionRefused.TheVariants as refusals

-- sections in their ranges are read back from their bytes
abbrev pub SpelledIsRead : Type 0
SpelledIsRead = (format len : ℕ) (s : Contents) → IsContentsIn format len s → sections_of_in format len (sections_bytes_in format s) ≡ Ok s

-- and refused where a byte follows
abbrev pub TailIsRefused : Type 0
TailIsRefused =
    (format len : ℕ) (s : Contents) (b : ℕ) (rest : List ℕ) → IsContentsIn format len s
    → sections_of_in format len (sections_bytes_in format s ++ b ∷ rest) ≡ Err refusals.Tail

-- what is read is spelled by those bytes, all of them, and is in its ranges
abbrev pub ReadIsSpelled : Type 0
ReadIsSpelled =
    (format len : ℕ) (bytes : List ℕ) (s : Contents) → AreBytes bytes → sections_of_in format len bytes ≡ Ok s
    → (bytes ≡ sections_bytes_in format s) × IsContentsIn format len s

-- a head is read back from its bytes, whatever follows
abbrev pub HeadIsRead : Type 0
HeadIsRead = (h : Head) (rest : List ℕ) → IsHead h → head_of (head_bytes h ++ rest) ≡ h

-- a frame is the bytes of its head, then its sections, then its tag
abbrev pub FrameIsItsParts : Type 0
FrameIsItsParts = (bytes : List ℕ) → AreBytes bytes → IsFrame bytes → bytes ≡ head_bytes (head_of bytes) ++ sections_part bytes ++ tag_part bytes
