-- A frame: one datagram between two neighbours.
--
--     name 2, 53 49 | format 1 | from 1 | to 1 | boot 8 | echo 8 | counter 8 | topology version 4     the head, 33 bytes
--     sections                                                                                            at least 11 bytes
--     tag 32                                                                                              over all before it
use Rattle.std.specs.Prelude.{ℕ, ◌≡◌, ◌≤◌, ◌-◌, ◌==◌, nat_lt, not, List, ◌++◌, length, take, drop, slice_index, Result, Ok, Err, if◌then◌else◌}
use Rattle.byteorder.specs.Endian.{big_bytes, big_number}
use Rattle.sp_base.specs.declared.format.TheConstants.{FORMAT_1}
use Rattle.sp_frame.specs.Sections.{Contents, sections_bytes_in}
use Rattle.sp_frame.specs.declared.frame.TheConstants.{HEAD_BYTES, MAX_FRAME_BYTES, MIN_FRAME_BYTES, NAME, TAG_BYTES}
use Rattle.sp_frame.specs.declared.head.Head.{Head}
use Rattle.sp_frame.specs.declared.refused.FrameRefused.{FrameRefused}
use Rattle.sp_frame.specs.declared.refused.FrameRefused.TheVariants as refusals

-- a datagram as a frame of a format, or the first of these tests that fails: its length, its name, its version
abbrev pub opened_in : ℕ → List ℕ → Result (List ℕ) FrameRefused
opened_in format bytes =
    if nat_lt MAX_FRAME_BYTES (length bytes) then Err refusals.TooLong
    else if nat_lt (length bytes) MIN_FRAME_BYTES then Err (refusals.Short (record { need = MIN_FRAME_BYTES; left = length bytes }))
    else if not (big_number 2 bytes == NAME) then Err refusals.Magic
    else if not (slice_index bytes 2 == format) then Err refusals.Version
    else Ok bytes

-- the bytes before the tag of a frame of format 1, or the first test of its bytes that fails
abbrev pub opened : List ℕ → Result (List ℕ) FrameRefused
opened bytes = opened_in FORMAT_1 bytes

-- bytes that pass these tests in the format that their third byte says
pub record IsFrame (bytes : List ℕ) : Type 0 where
  pub least : MIN_FRAME_BYTES ≤ length bytes
  pub most : length bytes ≤ MAX_FRAME_BYTES
  pub name : big_number 2 bytes ≡ NAME

-- ---- the parts of a frame
unfoldable pub head_of : List ℕ → Head
head_of bytes = record {
  format = slice_index bytes 2;
  from = record { 0 = slice_index bytes 3 };
  to = record { 0 = slice_index bytes 4 };
  boot = big_number 8 (drop 5 bytes);
  echo = big_number 8 (drop 13 bytes);
  counter = big_number 8 (drop 21 bytes);
  topology = big_number 4 (drop 29 bytes);
}

-- all before the tag
abbrev pub tagged_part : List ℕ → List ℕ
tagged_part bytes = take (length bytes - TAG_BYTES) bytes

-- the tag: the last bytes of a frame
abbrev pub tag_part : List ℕ → List ℕ
tag_part bytes = drop (length bytes - TAG_BYTES) bytes

-- all between the head and the tag
abbrev pub sections_part : List ℕ → List ℕ
sections_part bytes = drop HEAD_BYTES (tagged_part bytes)

-- ---- the bytes of a frame
-- what it is, from whom and to whom
unfoldable pub ends_bytes : Head → List ℕ
ends_bytes h = big_bytes 2 NAME ++ big_bytes 1 h.format ++ big_bytes 1 h.from.0 ++ big_bytes 1 h.to.0

-- which of the sender's frames it is
unfoldable pub numbers_bytes : Head → List ℕ
numbers_bytes h = big_bytes 8 h.boot ++ big_bytes 8 h.echo ++ big_bytes 8 h.counter ++ big_bytes 4 h.topology

-- the head of a frame: its two ends, and its numbers
unfoldable pub head_bytes : Head → List ℕ
head_bytes h = ends_bytes h ++ numbers_bytes h

-- a frame: head, sections, tag
unfoldable pub frame_bytes : Head → Contents → List ℕ → List ℕ
frame_bytes h s tag = head_bytes h ++ sections_bytes_in h.format s ++ tag
