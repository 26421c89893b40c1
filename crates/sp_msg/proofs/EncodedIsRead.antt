-- What is encoded is read back.
use Rattle.std.proofs.Common.{◌≡◌, ℕ, ◌<◌, ◌-◌, ◌^◌, ◌==◌, Bool, true, false, List, [], ◌∷◌, ◌++◌, length, append_assoc, append-nil, Ok, Err, if◌then◌else◌}
use Rattle.std.proofs.Common.{refl, sym, ap, ◌∙◌, arith, lit<}
use Rattle.std.proofs.lemmas.Bool.{ne_eqb}
use Rattle.byteorder.specs.Endian.{big_bytes}
use Rattle.sp_base.specs.Formats.{by_format, max_edges, max_nodes}
use Rattle.sp_base.specs.declared.format.TheConstants.{FORMAT_1}
use Rattle.sp_base.specs.declared.limits.TheConstants.{MAX_EDGES, MAX_EDGES_2, MAX_NODES, MAX_NODES_2}
use Rattle.sp_base.proofs.NumberLemmas.{number_back, piece_back}
use Rattle.sp_msg.specs.declared.body.Body.{Body}
use Rattle.sp_msg.specs.declared.body.Body.TheVariants as bodies
use Rattle.sp_msg.specs.declared.body.TheConstants.{PRIO, REL, ACK, WEIGHT, KREL, KACK, EPOCH}
use Rattle.sp_msg.specs.declared.refused.Field.TheVariants as fields
use Rattle.sp_msg.specs.declared.refused.MsgRefused.TheVariants as refusals
use Rattle.sp_msg.specs.Bodies.{ack_from, body_at_in, body_of_kind, encoded_in, epoch_fields, epoch_from, flow_fields, kack_from, krel_fields, krel_from}
use Rattle.sp_msg.specs.Bodies.{last_of, low_field, numbers_of, of_fields, prio_fields, prio_from, read_body_in, rel_fields, rel_from, weight_fields}
use Rattle.sp_msg.specs.Bodies.{weight_from, with_payload}
use Rattle.sp_msg.specs.Fields.{AreInRange, HasRoom, HaveRoom, Rule, free, ranged, spelled}
use Rattle.sp_msg.specs.Laws.{EncodedIsRead, NoOtherHasItsBytes, TailIsRefused, WholeIsRead}
use Rattle.sp_msg.proofs.FieldLemmas.{fields_back}

-- ---- what is encoded is read

of_fields_back : (rs : List Rule) (make : List ℕ → Body) (xs rest : List ℕ) → HaveRoom rs → AreInRange rs xs
    → of_fields rs make (spelled rs xs ++ [] ++ rest) ≡ Ok (make xs, rest)
unfolding of_fields
of_fields_back rs make xs rest room are = rw (append-nil (spelled rs xs)) (rw (fields_back rs xs rest room are) refl)

with_payload_back : (rs : List Rule) (make : List ℕ → List ℕ → Body) (xs payload rest : List ℕ) → HaveRoom rs → AreInRange rs xs → last_of xs ≡ length payload
    → with_payload rs make (spelled rs xs ++ payload ++ rest) ≡ Ok (make xs payload, rest)
unfolding with_payload
with_payload_back rs make xs payload rest room are last =
    rw (append_assoc (spelled rs xs) payload rest) (rw (fields_back rs xs (payload ++ rest) room are) (rw last (rw (piece_back payload rest) refl)))

-- the first byte says the kind
kind_back : (format kind : ℕ) (bytes : List ℕ) → kind < 256 → body_at_in format (big_bytes 1 kind ++ bytes) ≡ body_of_kind format kind bytes
unfolding body_at_in
kind_back format kind bytes small = rw (number_back 1 kind bytes small) refl

-- ---- each table has room, in either format
by_each : (Q : ℕ → Type 0) (format one two : ℕ) → Q one → Q two → Q (by_format format one two)
by_each Q format one two first second = go (format == FORMAT_1)
  where
    go : (b : Bool) → Q (if b then one else two)
    go true = first
    go false = second

node_room : (format : ℕ) → max_nodes format < 256 ^ 1
node_room format = by_each (λ n. n < 256 ^ 1) format MAX_NODES MAX_NODES_2 (lit< tt) (lit< tt)

edge_room : (format : ℕ) → max_edges format - 1 < 256 ^ 2
edge_room format = by_each (λ n. n - 1 < 256 ^ 2) format MAX_EDGES MAX_EDGES_2 (lit< tt) (lit< tt)

low_room : (format : ℕ) → HasRoom (low_field format)
low_room format = go (format == FORMAT_1)
  where
    go : (b : Bool) → HasRoom (if b then ranged fields.Mask 16 0 (2 ^ MAX_EDGES - 1) else free 16)
    go true = lit< tt
    go false = tt

prio_room : (format : ℕ) → HaveRoom (prio_fields format)
prio_room format = (node_room format, (node_room format, (tt, (lit< tt, (lit< tt, (tt, (tt, (low_room format, (lit< tt, tt)))))))))

rel_room : (format : ℕ) → HaveRoom (rel_fields format)
rel_room format = (node_room format, (node_room format, (tt, (tt, (lit< tt, (lit< tt, tt))))))

flow_room : (format : ℕ) → HaveRoom (flow_fields format)
flow_room format = (node_room format, (node_room format, (tt, (tt, (lit< tt, tt)))))

weight_room : (format : ℕ) → HaveRoom (weight_fields format)
weight_room format = (node_room format, (edge_room format, (lit< tt, (lit< tt, tt))))

krel_room : (format : ℕ) → HaveRoom (krel_fields format)
krel_room format = (node_room format, (node_room format, (tt, (tt, (lit< tt, (tt, (low_room format, (lit< tt, tt))))))))

epoch_room : (format : ℕ) → HaveRoom (epoch_fields format)
epoch_room format = (node_room format, (tt, tt))

-- a kind that format 1 lacks is of format 2
is_second : (format : ℕ) → by_format format false true ≡ true → (format == FORMAT_1) ≡ false
is_second format has = go (format == FORMAT_1) refl
  where
    go : (b : Bool) → (format == FORMAT_1) ≡ b → (format == FORMAT_1) ≡ false
    go true is = absurd (let f : false ≡ true = rw is at has in cc)
    go false is = is

pub encoded_is_read : EncodedIsRead
encoded_is_read format (bodies.Prio p) rest good =
    kind_back format PRIO (spelled (prio_fields format) (numbers_of (bodies.Prio p)) ++ p.payload ++ rest) (lit< tt)
    ∙ with_payload_back (prio_fields format) prio_from (numbers_of (bodies.Prio p)) p.payload rest (prio_room format) good.1 refl
encoded_is_read format (bodies.Rel r) rest good =
    kind_back format REL (spelled (rel_fields format) (numbers_of (bodies.Rel r)) ++ r.payload ++ rest) (lit< tt)
    ∙ with_payload_back (rel_fields format) rel_from (numbers_of (bodies.Rel r)) r.payload rest (rel_room format) good.1 refl
encoded_is_read format (bodies.Ack a) rest good =
    kind_back format ACK (spelled (flow_fields format) (numbers_of (bodies.Ack a)) ++ [] ++ rest) (lit< tt)
    ∙ of_fields_back (flow_fields format) ack_from (numbers_of (bodies.Ack a)) rest (flow_room format) good.1
encoded_is_read format (bodies.Weight w) rest good =
    kind_back format WEIGHT (spelled (weight_fields format) (numbers_of (bodies.Weight w)) ++ [] ++ rest) (lit< tt)
    ∙ of_fields_back (weight_fields format) weight_from (numbers_of (bodies.Weight w)) rest (weight_room format) good.1
encoded_is_read format (bodies.Krel r) rest good =
    kind_back format KREL (spelled (krel_fields format) (numbers_of (bodies.Krel r)) ++ r.payload ++ rest) (lit< tt)
    ∙ rw (is_second format good.0) refl
    ∙ with_payload_back (krel_fields format) krel_from (numbers_of (bodies.Krel r)) r.payload rest (krel_room format) good.1 refl
encoded_is_read format (bodies.Kack a) rest good =
    kind_back format KACK (spelled (flow_fields format) (numbers_of (bodies.Kack a)) ++ [] ++ rest) (lit< tt)
    ∙ rw (is_second format good.0) refl
    ∙ of_fields_back (flow_fields format) kack_from (numbers_of (bodies.Kack a)) rest (flow_room format) good.1
encoded_is_read format (bodies.Epoch e) rest good =
    kind_back format EPOCH (spelled (epoch_fields format) (numbers_of (bodies.Epoch e)) ++ [] ++ rest) (lit< tt)
    ∙ rw (is_second format good.0) refl
    ∙ of_fields_back (epoch_fields format) epoch_from (numbers_of (bodies.Epoch e)) rest (epoch_room format) good.1

-- a message that bytes begin with is all of them, or more follows
whole : (format : ℕ) (bytes : List ℕ) (body : Body) → body_at_in format bytes ≡ Ok (body, []) → read_body_in format bytes ≡ Ok body
unfolding read_body_in
whole format bytes body is = rw is refl

more : (format : ℕ) (bytes : List ℕ) (body : Body) (b : ℕ) (rest : List ℕ) → body_at_in format bytes ≡ Ok (body, b ∷ rest)
    → read_body_in format bytes ≡ Err refusals.Tail
unfolding read_body_in
more format bytes body b rest is =
    let some : (length (b ∷ rest) == 0) ≡ false = ne_eqb (length (b ∷ rest)) 0 (λ none. omega (arith, none)) in
    rw is (rw some refl)

pub whole_is_read : WholeIsRead
whole_is_read format body good =
    whole format (encoded_in format body) body (ap (body_at_in format) (sym (append-nil (encoded_in format body))) ∙ encoded_is_read format body [] good)

pub tail_is_refused : TailIsRefused
tail_is_refused format body b rest good = more format (encoded_in format body ++ b ∷ rest) body b rest (encoded_is_read format body (b ∷ rest) good)

pub no_other_has_its_bytes : NoOtherHasItsBytes
no_other_has_its_bytes format a b good_a good_b same =
    let both : Ok a ≡ Ok b = sym (whole_is_read format a good_a) ∙ ap (read_body_in format) same ∙ whole_is_read format b good_b in cc
