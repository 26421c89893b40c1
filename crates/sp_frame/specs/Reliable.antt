-- The reliable section of a frame: a report on one flow, with an acknowledgement and messages. The paths section is the same of a K-path flow.
--
--     flag 1 | where it is 1: src 1 | dst 1 | sboot 8 | dboot 8 | base 8 | have 8 | acknowledgement flag 1 | its object | count 1 | objects
--
-- Format 1 lacks the boots, and the paths section.
use Rattle.std.specs.Prelude.{ℕ, ◌==◌, Option, List, ◌++◌, Result}
use Rattle.byteorder.specs.Endian.{big_bytes}
use Rattle.sp_base.specs.Formats.{by_format}
use Rattle.sp_base.specs.declared.format.TheConstants.{FORMAT_1}
use Rattle.sp_base.specs.declared.id.Flow.{Flow}
use Rattle.sp_msg.specs.declared.kept.Kept.{Kept}
use Rattle.sp_frame.specs.Grammar.{◌⊗◌, counted, counted_bytes, flagged, flagged_bytes, later, later_bytes, made, number}
use Rattle.sp_frame.specs.Objects.{most, object, object_bytes}
use Rattle.sp_frame.specs.declared.kind.Kind.{Kind}
use Rattle.sp_frame.specs.declared.kind.Kind.TheVariants as kinds
use Rattle.sp_frame.specs.declared.refused.SectionRefused.{SectionRefused}

-- all messages of the flow up to base are acknowledged, and all up to have came. The ends may be any bytes, the numbers any of 8 bytes
pub record Report : Type 0 where
  pub flow : Flow
  pub sboot : ℕ
  pub dboot : ℕ
  pub base : ℕ
  pub have : ℕ
  pub ack : Option Kept
  pub rels : List Kept

-- the bytes of a boot
abbrev pub boot_bytes : ℕ → ℕ
boot_bytes format = by_format format 0 8

-- the acknowledgement of a report at the front of these bytes, if there is one, and what follows it
unfoldable pub ack : ℕ → Kind → ℕ → List ℕ → Result (Option Kept × List ℕ) SectionRefused
ack format kind len bytes = flagged (object format kind len) bytes

-- the bytes of a report's acknowledgement
unfoldable pub ack_bytes : ℕ → Option Kept → List ℕ
ack_bytes format acked = flagged_bytes (object_bytes format) acked

-- the messages of a report at the front of these bytes, as many as the format has at most, and what follows them
unfoldable pub rels : ℕ → Kind → ℕ → List ℕ → Result (List Kept × List ℕ) SectionRefused
rels format kind len bytes = counted (object format kind len) (most format kind) bytes

-- the bytes of a report's messages
unfoldable pub rels_bytes : ℕ → List Kept → List ℕ
rels_bytes format objects = counted_bytes (object_bytes format) objects

-- the report of what was read of it, one after another
abbrev pub report_from : ((((((ℕ × ℕ) × ℕ) × ℕ) × ℕ) × ℕ) × Option Kept) × List Kept → Report
report_from (((((((src, dst), sboot), dboot), base), have), acked), objects) = record {
  flow = record { src = record { 0 = src }; dst = record { 0 = dst } };
  sboot = sboot;
  dboot = dboot;
  base = base;
  have = have;
  ack = acked;
  rels = objects;
}

-- a report with an acknowledgement of one kind and messages of another
unfoldable pub report : ℕ → Kind → Kind → ℕ → List ℕ → Result (Report × List ℕ) SectionRefused
report format acks messages len bytes =
    made report_from (number 1 ⊗ number 1 ⊗ number (boot_bytes format) ⊗ number (boot_bytes format) ⊗ number 8 ⊗ number 8 ⊗ ack format acks len
    ⊗ rels format messages len) bytes

-- the numbers of a report
unfoldable pub place_bytes : ℕ → Report → List ℕ
place_bytes format r =
    big_bytes 1 r.flow.src.0 ++ big_bytes 1 r.flow.dst.0 ++ big_bytes (boot_bytes format) r.sboot ++ big_bytes (boot_bytes format) r.dboot
    ++ big_bytes 8 r.base ++ big_bytes 8 r.have

-- a report: where the flow stands, its acknowledgement, and its messages
unfoldable pub report_bytes : ℕ → Report → List ℕ
report_bytes format r = place_bytes format r ++ ack_bytes format r.ack ++ rels_bytes format r.rels

-- the slot of reliable flows at the front of these bytes, and what follows it
unfoldable pub slot : ℕ → ℕ → List ℕ → Result (Option Report × List ℕ) SectionRefused
slot format len bytes = flagged (report format kinds.Ack kinds.Rel len) bytes

-- the bytes of the slot of reliable flows
unfoldable pub slot_bytes : ℕ → Option Report → List ℕ
slot_bytes format reported = flagged_bytes (report_bytes format) reported

-- the slot of flows over paths at the front of these bytes, and what follows it
unfoldable pub paths : ℕ → ℕ → List ℕ → Result (Option Report × List ℕ) SectionRefused
paths format len bytes = later (report format kinds.Kack kinds.Krel len) (format == FORMAT_1) bytes

-- the bytes of the slot of flows over paths
unfoldable pub paths_bytes : ℕ → Option Report → List ℕ
paths_bytes format reported = later_bytes (report_bytes format) (format == FORMAT_1) reported
