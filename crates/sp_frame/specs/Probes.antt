-- The probe section of a frame, and the epoch section. Format 1 lacks both.
--
--     flag 1 | where it is 1: number 8 | nonce 8 | echo 8 | proof 32
--     flag 1 | where it is 1: object
use Rattle.std.specs.Prelude.{ℕ, ◌==◌, Option, List, ◌++◌, Result}
use Rattle.byteorder.specs.Endian.{big_bytes}
use Rattle.sp_base.specs.declared.format.TheConstants.{FORMAT_1}
use Rattle.sp_msg.specs.declared.kept.Kept.{Kept}
use Rattle.sp_frame.specs.Grammar.{◌⊗◌, later, later_bytes, made, number, piece}
use Rattle.sp_frame.specs.Objects.{object, object_bytes}
use Rattle.sp_frame.specs.declared.kind.Kind.TheVariants as kinds
use Rattle.sp_frame.specs.declared.probe.Probe.{Probe}
use Rattle.sp_frame.specs.declared.refused.SectionRefused.{SectionRefused}

abbrev pub probe_from : ((ℕ × List ℕ) × ℕ) × List ℕ → Probe
probe_from (((n, told), back), shown) = record { number = n; nonce = told; echo = back; proof = shown }

-- a probe with its echo at the front of these bytes, and what follows it
unfoldable pub probe_at : List ℕ → Result (Probe × List ℕ) SectionRefused
probe_at bytes = made probe_from (number 8 ⊗ piece 8 ⊗ number 8 ⊗ piece 32) bytes

-- a probe: its number and nonce, the number that it echoes, and the proof
unfoldable pub probe_bytes : Probe → List ℕ
probe_bytes p = big_bytes 8 p.number ++ p.nonce ++ big_bytes 8 p.echo ++ p.proof

-- the probe section at the front of these bytes, and what follows it
unfoldable pub probes : ℕ → List ℕ → Result (Option Probe × List ℕ) SectionRefused
probes format bytes = later probe_at (format == FORMAT_1) bytes

-- the bytes of the probe section
unfoldable pub probes_bytes : ℕ → Option Probe → List ℕ
probes_bytes format probe = later_bytes probe_bytes (format == FORMAT_1) probe

-- the epoch section at the front of these bytes, and what follows it
unfoldable pub epoch : ℕ → ℕ → List ℕ → Result (Option Kept × List ℕ) SectionRefused
epoch format len bytes = later (object format kinds.Epoch len) (format == FORMAT_1) bytes

-- the bytes of the epoch section
unfoldable pub epoch_bytes : ℕ → Option Kept → List ℕ
epoch_bytes format said = later_bytes (object_bytes format) (format == FORMAT_1) said
