-- The arts of each format: the frames of `sp_frame`, tags by HMAC with SHA-256 (RFC 2104), and signatures of two levels of hash-based
-- trees (RFC 8554).
use Rattle.std.specs.Prelude.{ℕ, ◌++◌, List, drop, take, Option, None, Some, Result, Ok, Err}
use Rattle.sp_base.specs.declared.format.TheConstants.{FORMAT_1}
use Rattle.sp_frame.specs.Frames.{head_bytes, head_of, opened_in, sections_part}
use Rattle.sp_frame.specs.Sections.{has_document, sections_bytes_in, sections_of_in}
use Rattle.sp_hmac.specs.Hmac.{hmac}
use Rattle.sp_hss.specs.Decision.{is_valid}
use Rattle.sp_hss.specs.KeyTree.{signature}
use Rattle.sp_msg.specs.Bodies.{encoded_in, read_body_in}
use Rattle.sp_rules.specs.Arts.{Arts, Document}
use Rattle.sp_rules.specs.Parts.{Fixed}
use Rattle.sp_sign.specs.Heights.{param_of}
use Rattle.sp_topology.specs.Documents.{read_of}
use Rattle.sp_topology.specs.declared.refused.TopologyRefused.{TopologyRefused}
use Rattle.sp_topology.specs.declared.topology.Topology.{Topology}
use Rattle.sp_node_format.specs.GoodFields.{has_good_fields}

-- bytes as a signed document, by the topology that they begin with and the length of its document: the signature is all that comes after it
abbrev pub document_of : List ℕ → Result (Topology × ℕ) TopologyRefused → Option Document
document_of bytes (Ok read) = Some (record { topology = read.0; message = take read.1 bytes; signature = drop read.1 bytes })
document_of bytes (Err refused) = None

-- the document that bytes are, if they are one
abbrev pub document_in : List ℕ → Option Document
document_in bytes = document_of bytes (read_of bytes)

-- a frame is spelled in the format that its head says
abbrev pub format_in : ℕ → Arts
format_in format = record {
  opened = opened_in format;
  head = head_of;
  sections = λ len bytes. sections_of_in format len (sections_part bytes);
  is_document = λ bytes. has_document format (sections_part bytes);
  read_document = document_in;
  frame = λ head contents. head_bytes head ++ sections_bytes_in head.format contents;
  tag = λ key bytes. hmac key bytes;
  is_good = has_good_fields format;
  spell = encoded_in format;
  read = read_body_in format;
  sign = λ height seed index message. signature (param_of height) seed index message;
  valid = is_valid;
}

-- those of a node: its topology says the format
abbrev pub format_of : Fixed → Arts
format_of f = format_in f.topology.format

-- those of format 1
abbrev pub format : Arts
format = format_in FORMAT_1
