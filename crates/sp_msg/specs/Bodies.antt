-- The bytes of each kind of message, in each format.
--
--     format 1
--     priority          1 | src 1 | dst 1 | seq 8 | prio 1 | expiry 8 | mask 16 | length 2 | payload
--     reliable          2 | src 1 | dst 1 | seq 8 | length 2 | payload
--     acknowledgement   3 | src 1 | dst 1 | seq 8
--     weight            4 | origin 1 | edge 2 | seq 8 | weight 4
--
--     format 2
--     priority          1 | src 1 | dst 1 | sboot 8 | seq 8 | prio 1 | expiry 8 | high mask 16 | low mask 16 | length 2 | payload
--     reliable          2 | src 1 | dst 1 | sboot 8 | dboot 8 | seq 8 | length 2 | payload
--     acknowledgement   3 | src 1 | dst 1 | sboot 8 | dboot 8 | seq 8
--     weight            4 | origin 1 | edge 2 | seq 8 | weight 4
--     K-path            5 | src 1 | dst 1 | sboot 8 | dboot 8 | seq 8 | high mask 16 | low mask 16 | length 2 | payload
--     its answer        6 | src 1 | dst 1 | sboot 8 | dboot 8 | seq 8
--     epoch             7 | origin 1 | boot 8
--
-- One table serves both formats: a field that format 1 lacks has no bytes there, so its number is 0.
use Rattle.std.specs.Prelude.{ℕ, ◌≡◌, ◌==◌, ◌-◌, ◌^◌, Bool, true, false, List, [], ◌∷◌, ◌++◌, length, slice_index, Result, Ok, Err, if◌then◌else◌}
use Rattle.sp_base.specs.Formats.{by_format, max_edges, max_nodes}
use Rattle.sp_base.specs.Reading.{number_at, piece_at}
use Rattle.sp_base.specs.Refusals.{◌>>=◌, as_refusal}
use Rattle.sp_base.specs.declared.format.TheConstants.{FORMAT_1}
use Rattle.sp_base.specs.declared.limits.TheConstants.{MAX_EDGES, MAX_WEIGHT, MAX_SEQ, MAX_PRIORITY, MAX_PAYLOAD_BYTES}
use Rattle.sp_msg.specs.declared.body.Body.{Body}
use Rattle.sp_msg.specs.declared.body.Body.TheVariants as bodies
use Rattle.sp_msg.specs.declared.body.TheConstants.{PRIO, REL, ACK, WEIGHT, KREL, KACK, EPOCH}
use Rattle.sp_msg.specs.declared.refused.Field.TheVariants.{Src, Dst, Seq, Prio, Mask, Length, Origin, Edge, Weight}
use Rattle.sp_msg.specs.declared.refused.MsgRefused.{MsgRefused}
use Rattle.sp_msg.specs.declared.refused.MsgRefused.TheVariants as refusals
use Rattle.sp_msg.specs.Fields.{AreInRange, Rule, fields_at, free, ranged, spelled}

-- ---- the tables: each field's name, bytes, least and greatest value
-- the boot of an end
abbrev pub boot_field : ℕ → Rule
boot_field format = free (by_format format 0 8)

-- the two halves of a mask
abbrev pub high_field : ℕ → Rule
high_field format = free (by_format format 0 16)

-- the lower half of a mask: under format 1 no bit above the greatest edge may stand in it
abbrev pub low_field : ℕ → Rule
low_field format = by_format format (ranged Mask 16 0 (2 ^ MAX_EDGES - 1)) (free 16)

-- the fields of a priority message
abbrev pub prio_fields : ℕ → List Rule
prio_fields format =
    ranged Src 1 1 (max_nodes format)
    ∷ ranged Dst 1 1 (max_nodes format)
    ∷ boot_field format
    ∷ ranged Seq 8 1 MAX_SEQ
    ∷ ranged Prio 1 1 MAX_PRIORITY
    ∷ free 8
    ∷ high_field format
    ∷ low_field format
    ∷ ranged Length 2 0 MAX_PAYLOAD_BYTES
    ∷ []

-- the ends of a flow with their boots, and a number
abbrev pub flow_fields : ℕ → List Rule
flow_fields format =
    ranged Src 1 1 (max_nodes format)
    ∷ ranged Dst 1 1 (max_nodes format)
    ∷ boot_field format
    ∷ boot_field format
    ∷ ranged Seq 8 1 MAX_SEQ
    ∷ []

-- the fields of a reliable message
abbrev pub rel_fields : ℕ → List Rule
rel_fields format = flow_fields format ++ ranged Length 2 0 MAX_PAYLOAD_BYTES ∷ []

-- the fields of an update of a weight
abbrev pub weight_fields : ℕ → List Rule
weight_fields format =
    ranged Origin 1 1 (max_nodes format)
    ∷ ranged Edge 2 0 (max_edges format - 1)
    ∷ ranged Seq 8 1 MAX_SEQ
    ∷ ranged Weight 4 1 MAX_WEIGHT
    ∷ []

-- the fields of a message over paths
abbrev pub krel_fields : ℕ → List Rule
krel_fields format = flow_fields format ++ high_field format ∷ low_field format ∷ ranged Length 2 0 MAX_PAYLOAD_BYTES ∷ []

-- the fields of an Epoch object
abbrev pub epoch_fields : ℕ → List Rule
epoch_fields format = ranged Origin 1 1 (max_nodes format) ∷ boot_field format ∷ []

-- ---- a message by its parts
abbrev pub kind_of : Body → ℕ
kind_of (bodies.Prio p) = PRIO
kind_of (bodies.Rel r) = REL
kind_of (bodies.Ack a) = ACK
kind_of (bodies.Weight w) = WEIGHT
kind_of (bodies.Krel r) = KREL
kind_of (bodies.Kack a) = KACK
kind_of (bodies.Epoch e) = EPOCH

-- the fields of the message's kind
abbrev pub fields_of : ℕ → Body → List Rule
fields_of format (bodies.Prio p) = prio_fields format
fields_of format (bodies.Rel r) = rel_fields format
fields_of format (bodies.Ack a) = flow_fields format
fields_of format (bodies.Weight w) = weight_fields format
fields_of format (bodies.Krel r) = krel_fields format
fields_of format (bodies.Kack a) = flow_fields format
fields_of format (bodies.Epoch e) = epoch_fields format

-- what stands in the fields of a message, in their order
abbrev pub numbers_of : Body → List ℕ
numbers_of (bodies.Prio p) =
    p.src.0 ∷ p.dst.0 ∷ p.sboot ∷ p.seq ∷ p.prio ∷ p.expiry ∷ p.mask.high ∷ p.mask.low ∷ length p.payload ∷ []
numbers_of (bodies.Rel r) = r.src.0 ∷ r.dst.0 ∷ r.sboot ∷ r.dboot ∷ r.seq ∷ length r.payload ∷ []
numbers_of (bodies.Ack a) = a.src.0 ∷ a.dst.0 ∷ a.sboot ∷ a.dboot ∷ a.seq ∷ []
numbers_of (bodies.Weight w) = w.origin.0 ∷ w.edge.0 ∷ w.seq ∷ w.weight ∷ []
numbers_of (bodies.Krel r) = r.src.0 ∷ r.dst.0 ∷ r.sboot ∷ r.dboot ∷ r.seq ∷ r.mask.high ∷ r.mask.low ∷ length r.payload ∷ []
numbers_of (bodies.Kack a) = a.src.0 ∷ a.dst.0 ∷ a.sboot ∷ a.dboot ∷ a.seq ∷ []
numbers_of (bodies.Epoch e) = e.origin.0 ∷ e.boot ∷ []

-- the payload of a message; kinds without one have none
abbrev pub payload_of : Body → List ℕ
payload_of (bodies.Prio p) = p.payload
payload_of (bodies.Rel r) = r.payload
payload_of (bodies.Ack a) = []
payload_of (bodies.Weight w) = []
payload_of (bodies.Krel r) = r.payload
payload_of (bodies.Kack a) = []
payload_of (bodies.Epoch e) = []

-- the format has messages of this kind
abbrev pub has_kind : ℕ → Body → Bool
has_kind format (bodies.Krel r) = by_format format false true
has_kind format (bodies.Kack a) = by_format format false true
has_kind format (bodies.Epoch e) = by_format format false true
has_kind format body = true

-- the format has the message: its kind, and each field in its range
abbrev pub HasGoodFieldsIn : ℕ → Body → Type 0
HasGoodFieldsIn format body = (has_kind format body ≡ true) × AreInRange (fields_of format body) (numbers_of body)

-- ---- the bytes of a message
abbrev pub encoded_in : ℕ → Body → List ℕ
encoded_in format body = kind_of body ∷ spelled (fields_of format body) (numbers_of body) ++ payload_of body

-- ---- the message that bytes begin with
-- each number stands at the place of its field
abbrev pub prio_from : List ℕ → List ℕ → Body
prio_from xs payload = bodies.Prio (record {
  src = record { 0 = slice_index xs 0 };
  dst = record { 0 = slice_index xs 1 };
  sboot = slice_index xs 2;
  seq = slice_index xs 3;
  prio = slice_index xs 4;
  expiry = slice_index xs 5;
  mask = record { low = slice_index xs 7; high = slice_index xs 6 };
  payload = payload;
})

-- the reliable message of these numbers and this payload
abbrev pub rel_from : List ℕ → List ℕ → Body
rel_from xs payload = bodies.Rel (record {
  src = record { 0 = slice_index xs 0 };
  dst = record { 0 = slice_index xs 1 };
  sboot = slice_index xs 2;
  dboot = slice_index xs 3;
  seq = slice_index xs 4;
  payload = payload;
})

-- the acknowledgement of these numbers
abbrev pub ack_from : List ℕ → Body
ack_from xs = bodies.Ack (record {
  src = record { 0 = slice_index xs 0 };
  dst = record { 0 = slice_index xs 1 };
  sboot = slice_index xs 2;
  dboot = slice_index xs 3;
  seq = slice_index xs 4;
})

-- the update of a weight of these numbers
abbrev pub weight_from : List ℕ → Body
weight_from xs = bodies.Weight (record {
  origin = record { 0 = slice_index xs 0 };
  edge = record { 0 = slice_index xs 1 };
  seq = slice_index xs 2;
  weight = slice_index xs 3;
})

-- the message over paths of these numbers and this payload
abbrev pub krel_from : List ℕ → List ℕ → Body
krel_from xs payload = bodies.Krel (record {
  src = record { 0 = slice_index xs 0 };
  dst = record { 0 = slice_index xs 1 };
  sboot = slice_index xs 2;
  dboot = slice_index xs 3;
  seq = slice_index xs 4;
  mask = record { low = slice_index xs 6; high = slice_index xs 5 };
  payload = payload;
})

-- the acknowledgement over paths of these numbers
abbrev pub kack_from : List ℕ → Body
kack_from xs = bodies.Kack (record {
  src = record { 0 = slice_index xs 0 };
  dst = record { 0 = slice_index xs 1 };
  sboot = slice_index xs 2;
  dboot = slice_index xs 3;
  seq = slice_index xs 4;
})

-- the Epoch object of these numbers
abbrev pub epoch_from : List ℕ → Body
epoch_from xs = bodies.Epoch (record { origin = record { 0 = slice_index xs 0 }; boot = slice_index xs 1 })

-- the last of the numbers
abbrev pub last_of : List ℕ → ℕ
last_of [] = 0
last_of (x ∷ []) = x
last_of (x ∷ y ∷ ys) = last_of (y ∷ ys)

-- a message of a table's fields
unfoldable pub of_fields : List Rule → (List ℕ → Body) → List ℕ → Result (Body × List ℕ) MsgRefused
of_fields rs make bytes = fields_at rs bytes >>= λ xs. Ok (make xs.0, xs.1)

-- the same, with as many bytes after them as the last one says
unfoldable pub with_payload : List Rule → (List ℕ → List ℕ → Body) → List ℕ → Result (Body × List ℕ) MsgRefused
with_payload rs make bytes = do
  xs ← fields_at rs bytes
  payload ← as_refusal refusals.Short (piece_at (last_of xs.0) xs.1)
  Ok (make xs.0 payload.0, payload.1)

-- a message of a kind that format 1 lacks
abbrev pub later_of_kind : ℕ → ℕ → List ℕ → Result (Body × List ℕ) MsgRefused
later_of_kind format kind bytes =
    if format == FORMAT_1 then Err refusals.Kind
    else if kind == KREL then with_payload (krel_fields format) krel_from bytes
    else if kind == KACK then of_fields (flow_fields format) kack_from bytes
    else if kind == EPOCH then of_fields (epoch_fields format) epoch_from bytes
    else Err refusals.Kind

-- a message of this kind at the front of these bytes, and what follows it, or the first fault
abbrev pub body_of_kind : ℕ → ℕ → List ℕ → Result (Body × List ℕ) MsgRefused
body_of_kind format kind bytes =
    if kind == PRIO then with_payload (prio_fields format) prio_from bytes
    else if kind == REL then with_payload (rel_fields format) rel_from bytes
    else if kind == ACK then of_fields (flow_fields format) ack_from bytes
    else if kind == WEIGHT then of_fields (weight_fields format) weight_from bytes
    else later_of_kind format kind bytes

-- the message and the bytes after it, or the first refusal from the left
unfoldable pub body_at_in : ℕ → List ℕ → Result (Body × List ℕ) MsgRefused
body_at_in format bytes = do
  kind ← as_refusal refusals.Short (number_at 1 bytes)
  body_of_kind format kind.0 kind.1

-- the message that all of the bytes are
unfoldable pub read_body_in : ℕ → List ℕ → Result Body MsgRefused
read_body_in format bytes = body_at_in format bytes >>= λ body. if length body.1 == 0 then Ok body.0 else Err refusals.Tail

-- ---- the same in format 1
abbrev pub HasGoodFields : Body → Type 0
HasGoodFields body = HasGoodFieldsIn FORMAT_1 body

-- the bytes of a message of format 1
abbrev pub encoded : Body → List ℕ
encoded body = encoded_in FORMAT_1 body

-- the message of format 1 that bytes are
abbrev pub read_body : List ℕ → Result Body MsgRefused
read_body bytes = read_body_in FORMAT_1 bytes
