-- The sections of a frame, one after the other: all bytes between its head and its tag.
--
--     format 1    control | priority | reliable
--     format 2    control | priority | reliable | paths | probe | epoch
--     or          128 | length 2 | document | 13 bytes 0: of the acknowledged link number, the counts and the flags after it
use Rattle.std.specs.Prelude.{ℕ, ◌==◌, ◌&&◌, not, Bool, true, false, Option, None, Some, List, [], ◌∷◌, ◌++◌, length, drop, slice_index, Result, Ok, Err}
use Rattle.std.specs.Prelude.{if◌then◌else◌}
use Rattle.byteorder.specs.Endian.{big_bytes}
use Rattle.sp_base.specs.Refusals.{◌>>=◌}
use Rattle.sp_base.specs.declared.format.TheConstants.{FORMAT_1}
use Rattle.sp_msg.specs.declared.kept.Kept.{Kept}
use Rattle.sp_frame.specs.Grammar.{◌⊗◌, limited, made, number, piece}
use Rattle.sp_frame.specs.Prioritized.{prios, prios_bytes}
use Rattle.sp_frame.specs.Probes.{epoch, epoch_bytes, probes, probes_bytes}
use Rattle.sp_frame.specs.Reliable.{Report, paths, paths_bytes, slot, slot_bytes}
use Rattle.sp_frame.specs.Weights.{weights, weights_bytes}
use Rattle.sp_frame.specs.declared.frame.TheConstants.{DOCUMENT}
use Rattle.sp_frame.specs.declared.probe.Probe.{Probe}
use Rattle.sp_frame.specs.declared.refused.SectionRefused.{SectionRefused}
use Rattle.sp_frame.specs.declared.refused.SectionRefused.TheVariants as refusals

pub record Contents : Type 0 where
  pub document : Option (List ℕ)
  pub weights : List Kept
  pub prio_ack : ℕ
  pub prios : List (ℕ × Kept)
  pub slot : Option Report
  pub paths : Option Report
  pub probe : Option Probe
  pub epoch : Option Kept

-- the sections of what was read of them, one after another
abbrev pub contents_from : (((((List Kept × ℕ) × List (ℕ × Kept)) × Option Report) × Option Report) × Option Probe) × Option Kept → Contents
contents_from ((((((updates, heard), messages), reported), on_paths), probed), said) = record {
  document = None;
  weights = updates;
  prio_ack = heard;
  prios = messages;
  slot = reported;
  paths = on_paths;
  probe = probed;
  epoch = said;
}

-- a document alone
abbrev pub with_document : List ℕ → Contents
with_document document = record { document = Some document; weights = []; prio_ack = 0; prios = []; slot = None; paths = None; probe = None; epoch = None }

-- ---- without a document
unfoldable pub plain_at : ℕ → ℕ → List ℕ → Result (Contents × List ℕ) SectionRefused
plain_at format len bytes =
    made contents_from (weights format len ⊗ number 8 ⊗ prios format len ⊗ slot format len ⊗ paths format len ⊗ probes format ⊗ epoch format len) bytes

-- all sections of a frame without a document
unfoldable pub plain_bytes : ℕ → Contents → List ℕ
plain_bytes format s =
    weights_bytes format s.weights ++ big_bytes 8 s.prio_ack ++ prios_bytes format s.prios ++ slot_bytes format s.slot ++ paths_bytes format s.paths
    ++ probes_bytes format s.probe ++ epoch_bytes format s.epoch

-- ---- with one
-- bytes after their length
unfoldable pub sized : List ℕ → Result (List ℕ × List ℕ) SectionRefused
sized bytes = number 2 bytes >>= λ n. piece n.0 n.1

-- bytes with their length before them
unfoldable pub sized_bytes : List ℕ → List ℕ
sized_bytes bytes = big_bytes 2 (length bytes) ++ bytes

-- the acknowledged link number, the counts and the flags after a document, which are 0
abbrev pub zeros_from : ((((ℕ × ℕ) × ℕ) × ℕ) × ℕ) × ℕ → ℕ
zeros_from x = 0

-- the zeros of a frame with a document at the front of these bytes, and what follows them
unfoldable pub zeros : List ℕ → Result (ℕ × List ℕ) SectionRefused
zeros bytes = made zeros_from (limited 8 0 ⊗ limited 1 0 ⊗ limited 1 0 ⊗ limited 1 0 ⊗ limited 1 0 ⊗ limited 1 0) bytes

-- empty sections behind a document
unfoldable pub zeros_bytes : ℕ → List ℕ
zeros_bytes none = big_bytes 8 none ++ big_bytes 1 none ++ big_bytes 1 none ++ big_bytes 1 none ++ big_bytes 1 none ++ big_bytes 1 none

-- sections that are a document and nothing else
abbrev pub document_from : List ℕ × ℕ → Contents
document_from parts = with_document parts.0

-- the document and what follows it, after the byte 128
unfoldable pub document_at : List ℕ → Result (Contents × List ℕ) SectionRefused
document_at bytes = made document_from (sized ⊗ zeros) bytes

-- a document with its length, and zeros in place of the other sections
unfoldable pub document_bytes : List ℕ → List ℕ
document_bytes document = sized_bytes document ++ zeros_bytes 0

-- ---- either
-- the control section is a document
abbrev pub has_document : ℕ → List ℕ → Bool
has_document format bytes = not (format == FORMAT_1) && (slice_index bytes 0 == DOCUMENT)

-- what was read, where no byte is left
abbrev pub whole_of : Result (Contents × List ℕ) SectionRefused → Result Contents SectionRefused
whole_of read = read >>= λ s. if length s.1 == 0 then Ok s.0 else Err refusals.Tail

-- the sections that bytes begin with, with signatures of this length, and the bytes after them, or the first refusal from the left
unfoldable pub sections_at_in : ℕ → ℕ → List ℕ → Result (Contents × List ℕ) SectionRefused
sections_at_in format len bytes = if has_document format bytes then document_at (drop 1 bytes) else plain_at format len bytes

-- the sections that all of the bytes are
unfoldable pub sections_of_in : ℕ → ℕ → List ℕ → Result Contents SectionRefused
sections_of_in format len bytes = whole_of (sections_at_in format len bytes)

-- all sections, as a document says or as they are without one
abbrev pub control_bytes : ℕ → Contents → Option (List ℕ) → List ℕ
control_bytes format s None = plain_bytes format s
control_bytes format s (Some document) = DOCUMENT ∷ document_bytes document

-- the bytes of all sections under this format
unfoldable pub sections_bytes_in : ℕ → Contents → List ℕ
sections_bytes_in format s = control_bytes format s s.document

-- ---- the same in format 1
abbrev pub sections_of : ℕ → List ℕ → Result Contents SectionRefused
sections_of len bytes = sections_of_in FORMAT_1 len bytes

-- the bytes of all sections under format 1
abbrev pub sections_bytes : Contents → List ℕ
sections_bytes s = sections_bytes_in FORMAT_1 s
