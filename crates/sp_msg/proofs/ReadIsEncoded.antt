-- What is read is encoded by the bytes that were read.
use Rattle.std.proofs.Common.{◌≡◌, ℕ, ◌==◌, Bool, true, false, inl, inr, List, [], ◌∷◌, ◌++◌, length, append_assoc, append-nil, Result, Ok, Err, if◌then◌else◌}
use Rattle.std.proofs.Common.{refl, sym, ap, ◌∙◌, subst, arith}
use Rattle.std.specs.Prelude.{IfOk}
use Rattle.std.proofs.lemmas.Bool.{cases_Bool, eqb-true, ne_eqb}
use Rattle.byteorder.specs.Endian.{big_bytes}
use Rattle.sp_base.specs.declared.format.TheConstants.{FORMAT_1}
use Rattle.sp_base.specs.Reading.{number_at, piece_at}
use Rattle.sp_base.specs.Refusals.{◌>>=◌, Gives, as_refusal}
use Rattle.sp_base.specs.Spelling.{AreBytes}
use Rattle.sp_base.proofs.NumberLemmas.{BeginsWithPiece, number_read, piece_read}
use Rattle.sp_base.proofs.RefusalLemmas.{as_refusal_ok, then_ok}
use Rattle.sp_msg.specs.declared.body.Body.{Body}
use Rattle.sp_msg.specs.declared.body.Body.TheVariants as bodies
use Rattle.sp_msg.specs.declared.body.TheConstants.{PRIO, REL, ACK, WEIGHT, KREL, KACK, EPOCH}
use Rattle.sp_msg.specs.declared.body.BodyRef.{BodyRef}
use Rattle.sp_msg.specs.declared.refused.MsgRefused.{MsgRefused}
use Rattle.sp_msg.specs.declared.refused.MsgRefused.TheVariants as refusals
use Rattle.sp_msg.specs.Views.{as_body}
use Rattle.sp_msg.specs.Bodies.{HasGoodFieldsIn, ack_from, body_at_in, body_of_kind, encoded_in, epoch_fields, epoch_from, fields_of, flow_fields, has_kind}
use Rattle.sp_msg.specs.Bodies.{kack_from, kind_of, krel_fields, krel_from, last_of, later_of_kind, numbers_of, of_fields, payload_of, prio_fields, prio_from}
use Rattle.sp_msg.specs.Bodies.{read_body_in, rel_fields, rel_from, weight_fields, weight_from, with_payload}
use Rattle.sp_msg.specs.Fields.{AreInRange, Rule, fields_at, spelled}
use Rattle.sp_msg.specs.Laws.{FrontIsEncoded, ReadIsEncoded}
use Rattle.sp_msg.proofs.FieldLemmas.{BeginsWithFields, fields_read}

-- ---- the numbers of a table and a payload, as they were read

record Parts (rs : List Rule) (make : List ℕ → List ℕ → Body) (bytes : List ℕ) (body : Body) (rest : List ℕ) : Type 0 where
  numbers : List ℕ
  payload : List ℕ
  is : bytes ≡ spelled rs numbers ++ payload ++ rest
  in_range : AreInRange rs numbers
  made : make numbers payload ≡ body
  last : last_of numbers ≡ length payload

put_together : (rs : List Rule) (make : List ℕ → List ℕ → Body) (bytes numbers middle payload rest : List ℕ) → BeginsWithFields rs bytes numbers middle
    → BeginsWithPiece (last_of numbers) middle payload rest → Parts rs make bytes (make numbers payload) rest
put_together rs make bytes numbers middle payload rest front back = record {
  numbers = numbers;
  payload = payload;
  is = front.is ∙ ap (λ bs. spelled rs numbers ++ bs) back.joined ∙ sym (append_assoc (spelled rs numbers) payload rest);
  in_range = front.in_range;
  made = refl;
  last = sym back.count;
}

same_parts : (rs : List Rule) (make : List ℕ → List ℕ → Body) (bytes : List ℕ) (p q : Body × List ℕ) → p ≡ q → Parts rs make bytes p.0 p.1
    → Parts rs make bytes q.0 q.1
same_parts rs make bytes p q same is = subst (λ (z : Body × List ℕ). Parts rs make bytes z.0 z.1) same is

with_payload_read : (rs : List Rule) (make : List ℕ → List ℕ → Body) (bytes : List ℕ) (p : Body × List ℕ) → AreBytes bytes → with_payload rs make bytes ≡ Ok p
    → Parts rs make bytes p.0 p.1
unfolding with_payload
with_payload_read rs make bytes p are e =
    let s =
    then_ok (fields_at rs bytes)
    (λ xs. as_refusal refusals.Short (piece_at (last_of xs.0) xs.1) >>= λ payload. Ok (make xs.0 payload.0, payload.1)) p e in
    let t = then_ok (as_refusal refusals.Short (piece_at (last_of s.0.0) s.0.1)) (λ payload. Ok (make s.0.0 payload.0, payload.1)) p s.2 in
    let front = fields_read rs bytes s.0 are s.1 in
    let back = piece_read (last_of s.0.0) s.0.1 t.0 (as_refusal_ok refusals.Short (piece_at (last_of s.0.0) s.0.1) t.0 t.1) in
    let pair : (make s.0.0 t.0.0, t.0.1) ≡ p = let f : Ok (make s.0.0 t.0.0, t.0.1) ≡ Ok p = t.2 in cc in
    same_parts rs make bytes (make s.0.0 t.0.0, t.0.1) p pair (put_together rs make bytes s.0.0 s.0.1 t.0.0 t.0.1 front back)

-- ---- the numbers of a table alone

record Numbers (rs : List Rule) (make : List ℕ → Body) (bytes : List ℕ) (body : Body) (rest : List ℕ) : Type 0 where
  numbers : List ℕ
  is : bytes ≡ spelled rs numbers ++ rest
  in_range : AreInRange rs numbers
  made : make numbers ≡ body

same_numbers : (rs : List Rule) (make : List ℕ → Body) (bytes : List ℕ) (p q : Body × List ℕ) → p ≡ q → Numbers rs make bytes p.0 p.1
    → Numbers rs make bytes q.0 q.1
same_numbers rs make bytes p q same is = subst (λ (z : Body × List ℕ). Numbers rs make bytes z.0 z.1) same is

of_fields_read : (rs : List Rule) (make : List ℕ → Body) (bytes : List ℕ) (p : Body × List ℕ) → AreBytes bytes → of_fields rs make bytes ≡ Ok p
    → Numbers rs make bytes p.0 p.1
unfolding of_fields
of_fields_read rs make bytes p are e =
    let s = then_ok (fields_at rs bytes) (λ xs. Ok (make xs.0, xs.1)) p e in
    let front = fields_read rs bytes s.0 are s.1 in
    let pair : (make s.0.0, s.0.1) ≡ p = let f : Ok (make s.0.0, s.0.1) ≡ Ok p = s.2 in cc in
    same_numbers rs make bytes (make s.0.0, s.0.1) p pair (record { numbers = s.0.0; is = front.is; in_range = front.in_range; made = refl })

-- ---- a message has the numbers from which it was made

prio_numbers : (format : ℕ) (xs payload : List ℕ) → AreInRange (prio_fields format) xs → last_of xs ≡ length payload → numbers_of (prio_from xs payload) ≡ xs
prio_numbers format (a ∷ b ∷ c ∷ d ∷ e ∷ f ∷ g ∷ h ∷ i ∷ []) payload are last = ap (λ n. a ∷ b ∷ c ∷ d ∷ e ∷ f ∷ g ∷ h ∷ n ∷ []) (sym last)
prio_numbers format [] payload are last = absurd are
prio_numbers format (a ∷ []) payload are last = absurd are.1
prio_numbers format (a ∷ b ∷ []) payload are last = absurd are.1.1
prio_numbers format (a ∷ b ∷ c ∷ []) payload are last = absurd are.1.1.1
prio_numbers format (a ∷ b ∷ c ∷ d ∷ []) payload are last = absurd are.1.1.1.1
prio_numbers format (a ∷ b ∷ c ∷ d ∷ e ∷ []) payload are last = absurd are.1.1.1.1.1
prio_numbers format (a ∷ b ∷ c ∷ d ∷ e ∷ f ∷ []) payload are last = absurd are.1.1.1.1.1.1
prio_numbers format (a ∷ b ∷ c ∷ d ∷ e ∷ f ∷ g ∷ []) payload are last = absurd are.1.1.1.1.1.1.1
prio_numbers format (a ∷ b ∷ c ∷ d ∷ e ∷ f ∷ g ∷ h ∷ []) payload are last = absurd are.1.1.1.1.1.1.1.1
prio_numbers format (a ∷ b ∷ c ∷ d ∷ e ∷ f ∷ g ∷ h ∷ i ∷ j ∷ xs) payload are last = absurd are.1.1.1.1.1.1.1.1.1

rel_numbers : (format : ℕ) (xs payload : List ℕ) → AreInRange (rel_fields format) xs → last_of xs ≡ length payload → numbers_of (rel_from xs payload) ≡ xs
rel_numbers format (a ∷ b ∷ c ∷ d ∷ e ∷ f ∷ []) payload are last = ap (λ n. a ∷ b ∷ c ∷ d ∷ e ∷ n ∷ []) (sym last)
rel_numbers format [] payload are last = absurd are
rel_numbers format (a ∷ []) payload are last = absurd are.1
rel_numbers format (a ∷ b ∷ []) payload are last = absurd are.1.1
rel_numbers format (a ∷ b ∷ c ∷ []) payload are last = absurd are.1.1.1
rel_numbers format (a ∷ b ∷ c ∷ d ∷ []) payload are last = absurd are.1.1.1.1
rel_numbers format (a ∷ b ∷ c ∷ d ∷ e ∷ []) payload are last = absurd are.1.1.1.1.1
rel_numbers format (a ∷ b ∷ c ∷ d ∷ e ∷ f ∷ g ∷ xs) payload are last = absurd are.1.1.1.1.1.1

ack_numbers : (format : ℕ) (xs : List ℕ) → AreInRange (flow_fields format) xs → numbers_of (ack_from xs) ≡ xs
ack_numbers format (a ∷ b ∷ c ∷ d ∷ e ∷ []) are = refl
ack_numbers format [] are = absurd are
ack_numbers format (a ∷ []) are = absurd are.1
ack_numbers format (a ∷ b ∷ []) are = absurd are.1.1
ack_numbers format (a ∷ b ∷ c ∷ []) are = absurd are.1.1.1
ack_numbers format (a ∷ b ∷ c ∷ d ∷ []) are = absurd are.1.1.1.1
ack_numbers format (a ∷ b ∷ c ∷ d ∷ e ∷ f ∷ xs) are = absurd are.1.1.1.1.1

weight_numbers : (format : ℕ) (xs : List ℕ) → AreInRange (weight_fields format) xs → numbers_of (weight_from xs) ≡ xs
weight_numbers format (a ∷ b ∷ c ∷ d ∷ []) are = refl
weight_numbers format [] are = absurd are
weight_numbers format (a ∷ []) are = absurd are.1
weight_numbers format (a ∷ b ∷ []) are = absurd are.1.1
weight_numbers format (a ∷ b ∷ c ∷ []) are = absurd are.1.1.1
weight_numbers format (a ∷ b ∷ c ∷ d ∷ e ∷ xs) are = absurd are.1.1.1.1

krel_numbers : (format : ℕ) (xs payload : List ℕ) → AreInRange (krel_fields format) xs → last_of xs ≡ length payload → numbers_of (krel_from xs payload) ≡ xs
krel_numbers format (a ∷ b ∷ c ∷ d ∷ e ∷ f ∷ g ∷ h ∷ []) payload are last = ap (λ n. a ∷ b ∷ c ∷ d ∷ e ∷ f ∷ g ∷ n ∷ []) (sym last)
krel_numbers format [] payload are last = absurd are
krel_numbers format (a ∷ []) payload are last = absurd are.1
krel_numbers format (a ∷ b ∷ []) payload are last = absurd are.1.1
krel_numbers format (a ∷ b ∷ c ∷ []) payload are last = absurd are.1.1.1
krel_numbers format (a ∷ b ∷ c ∷ d ∷ []) payload are last = absurd are.1.1.1.1
krel_numbers format (a ∷ b ∷ c ∷ d ∷ e ∷ []) payload are last = absurd are.1.1.1.1.1
krel_numbers format (a ∷ b ∷ c ∷ d ∷ e ∷ f ∷ []) payload are last = absurd are.1.1.1.1.1.1
krel_numbers format (a ∷ b ∷ c ∷ d ∷ e ∷ f ∷ g ∷ []) payload are last = absurd are.1.1.1.1.1.1.1
krel_numbers format (a ∷ b ∷ c ∷ d ∷ e ∷ f ∷ g ∷ h ∷ i ∷ xs) payload are last = absurd are.1.1.1.1.1.1.1.1

kack_numbers : (format : ℕ) (xs : List ℕ) → AreInRange (flow_fields format) xs → numbers_of (kack_from xs) ≡ xs
kack_numbers format (a ∷ b ∷ c ∷ d ∷ e ∷ []) are = refl
kack_numbers format [] are = absurd are
kack_numbers format (a ∷ []) are = absurd are.1
kack_numbers format (a ∷ b ∷ []) are = absurd are.1.1
kack_numbers format (a ∷ b ∷ c ∷ []) are = absurd are.1.1.1
kack_numbers format (a ∷ b ∷ c ∷ d ∷ []) are = absurd are.1.1.1.1
kack_numbers format (a ∷ b ∷ c ∷ d ∷ e ∷ f ∷ xs) are = absurd are.1.1.1.1.1

epoch_numbers : (format : ℕ) (xs : List ℕ) → AreInRange (epoch_fields format) xs → numbers_of (epoch_from xs) ≡ xs
epoch_numbers format (a ∷ b ∷ []) are = refl
epoch_numbers format [] are = absurd are
epoch_numbers format (a ∷ []) are = absurd are.1
epoch_numbers format (a ∷ b ∷ c ∷ xs) are = absurd are.1.1

-- ---- the message after its kind

-- these bytes are the fields and the payload of a message of this kind, in their ranges, and the rest
record Spells (format kind : ℕ) (bytes : List ℕ) (body : Body) (rest : List ℕ) : Type 0 where
  kind_is : kind_of body ≡ kind
  is : bytes ≡ spelled (fields_of format body) (numbers_of body) ++ payload_of body ++ rest
  good : HasGoodFieldsIn format body

-- what is made of numbers and a payload is of this kind and this table, and has them
record Makes (format kind : ℕ) (rs : List Rule) (make : List ℕ → List ℕ → Body) : Type 0 where
  kind_is : (xs payload : List ℕ) → kind_of (make xs payload) ≡ kind
  has : (xs payload : List ℕ) → has_kind format (make xs payload) ≡ true
  table : (xs payload : List ℕ) → fields_of format (make xs payload) ≡ rs
  payload_is : (xs payload : List ℕ) → payload_of (make xs payload) ≡ payload
  numbers : (xs payload : List ℕ) → AreInRange rs xs → last_of xs ≡ length payload → numbers_of (make xs payload) ≡ xs

-- the same without a payload
record MakesAlone (format kind : ℕ) (rs : List Rule) (make : List ℕ → Body) : Type 0 where
  kind_is : (xs : List ℕ) → kind_of (make xs) ≡ kind
  has : (xs : List ℕ) → has_kind format (make xs) ≡ true
  table : (xs : List ℕ) → fields_of format (make xs) ≡ rs
  payload_is : (xs : List ℕ) → payload_of (make xs) ≡ []
  numbers : (xs : List ℕ) → AreInRange rs xs → numbers_of (make xs) ≡ xs

spells : (format kind : ℕ) (rs : List Rule) (make : List ℕ → List ℕ → Body) (bytes : List ℕ) (body : Body) (rest : List ℕ) → Makes format kind rs make
    → Parts rs make bytes body rest → Spells format kind bytes body rest
spells format kind rs make bytes body rest m parts = subst (λ b. Spells format kind bytes b rest) parts.made here
  where
    xs : List ℕ
    xs = parts.numbers

    same : numbers_of (make xs parts.payload) ≡ xs
    same = m.numbers xs parts.payload parts.in_range parts.last

    here : Spells format kind bytes (make xs parts.payload) rest
    here = record {
      kind_is = m.kind_is xs parts.payload;
      is = parts.is
          ∙ sym (ap (λ ts. spelled ts (numbers_of (make xs parts.payload)) ++ payload_of (make xs parts.payload) ++ rest) (m.table xs parts.payload)
          ∙ ap (λ ys. spelled rs ys ++ payload_of (make xs parts.payload) ++ rest) same
          ∙ ap (λ ps. spelled rs xs ++ ps ++ rest) (m.payload_is xs parts.payload));
      good = (
        m.has xs parts.payload,
        subst (λ ts. AreInRange ts (numbers_of (make xs parts.payload))) (sym (m.table xs parts.payload)) (subst (AreInRange rs) (sym same) parts.in_range),
      );
    }

no_payload : (bytes front rest : List ℕ) → bytes ≡ front ++ rest → bytes ≡ front ++ [] ++ rest
no_payload bytes front rest is = is ∙ ap (λ bs. bs ++ rest) (sym (append-nil front))

spells_alone : (format kind : ℕ) (rs : List Rule) (make : List ℕ → Body) (bytes : List ℕ) (body : Body) (rest : List ℕ) → MakesAlone format kind rs make
    → Numbers rs make bytes body rest → Spells format kind bytes body rest
spells_alone format kind rs make bytes body rest m parts = subst (λ b. Spells format kind bytes b rest) parts.made here
  where
    xs : List ℕ
    xs = parts.numbers

    same : numbers_of (make xs) ≡ xs
    same = m.numbers xs parts.in_range

    here : Spells format kind bytes (make xs) rest
    here = record {
      kind_is = m.kind_is xs;
      is = no_payload bytes (spelled rs xs) rest parts.is
          ∙ sym (ap (λ ts. spelled ts (numbers_of (make xs)) ++ payload_of (make xs) ++ rest) (m.table xs)
          ∙ ap (λ ys. spelled rs ys ++ payload_of (make xs) ++ rest) same
          ∙ ap (λ ps. spelled rs xs ++ ps ++ rest) (m.payload_is xs));
      good = (m.has xs, subst (λ ts. AreInRange ts (numbers_of (make xs))) (sym (m.table xs)) (subst (AreInRange rs) (sym same) parts.in_range));
    }

prio_made : (format : ℕ) → Makes format PRIO (prio_fields format) prio_from
prio_made format = record {
  kind_is = λ xs payload. refl;
  has = λ xs payload. refl;
  table = λ xs payload. refl;
  payload_is = λ xs payload. refl;
  numbers = prio_numbers format;
}

rel_made : (format : ℕ) → Makes format REL (rel_fields format) rel_from
rel_made format = record {
  kind_is = λ xs payload. refl;
  has = λ xs payload. refl;
  table = λ xs payload. refl;
  payload_is = λ xs payload. refl;
  numbers = rel_numbers format;
}

krel_made : (format : ℕ) → (format == FORMAT_1) ≡ false → Makes format KREL (krel_fields format) krel_from
krel_made format second = record {
  kind_is = λ xs payload. refl;
  has = λ xs payload. rw second refl;
  table = λ xs payload. refl;
  payload_is = λ xs payload. refl;
  numbers = krel_numbers format;
}

ack_made : (format : ℕ) → MakesAlone format ACK (flow_fields format) ack_from
ack_made format = record { kind_is = λ xs. refl; has = λ xs. refl; table = λ xs. refl; payload_is = λ xs. refl; numbers = ack_numbers format }

weight_made : (format : ℕ) → MakesAlone format WEIGHT (weight_fields format) weight_from
weight_made format = record { kind_is = λ xs. refl; has = λ xs. refl; table = λ xs. refl; payload_is = λ xs. refl; numbers = weight_numbers format }

kack_made : (format : ℕ) → (format == FORMAT_1) ≡ false → MakesAlone format KACK (flow_fields format) kack_from
kack_made format second =
    record { kind_is = λ xs. refl; has = λ xs. rw second refl; table = λ xs. refl; payload_is = λ xs. refl; numbers = kack_numbers format }

epoch_made : (format : ℕ) → (format == FORMAT_1) ≡ false → MakesAlone format EPOCH (epoch_fields format) epoch_from
epoch_made format second =
    record { kind_is = λ xs. refl; has = λ xs. rw second refl; table = λ xs. refl; payload_is = λ xs. refl; numbers = epoch_numbers format }

of_table : (format named kind : ℕ) (rs : List Rule) (make : List ℕ → List ℕ → Body) (bytes : List ℕ) (p : Body × List ℕ) → (kind == named) ≡ true
    → Makes format named rs make → AreBytes bytes → with_payload rs make bytes ≡ Ok p → Spells format kind bytes p.0 p.1
of_table format named kind rs make bytes p is makes are e =
    subst (λ k. Spells format k bytes p.0 p.1) (sym (eqb-true kind named is))
    (spells format named rs make bytes p.0 p.1 makes (with_payload_read rs make bytes p are e))

of_table_alone : (format named kind : ℕ) (rs : List Rule) (make : List ℕ → Body) (bytes : List ℕ) (p : Body × List ℕ) → (kind == named) ≡ true
    → MakesAlone format named rs make → AreBytes bytes → of_fields rs make bytes ≡ Ok p → Spells format kind bytes p.0 p.1
of_table_alone format named kind rs make bytes p is makes are e =
    subst (λ k. Spells format k bytes p.0 p.1) (sym (eqb-true kind named is))
    (spells_alone format named rs make bytes p.0 p.1 makes (of_fields_read rs make bytes p are e))

-- a kind that format 1 lacks
of_later : (format kind : ℕ) (bytes : List ℕ) (p : Body × List ℕ) → AreBytes bytes → later_of_kind format kind bytes ≡ Ok p → Spells format kind bytes p.0 p.1
of_later format kind bytes p are e = go (format == FORMAT_1) refl e
  where
    second : (format == FORMAT_1) ≡ false
        → (if kind == KREL then with_payload (krel_fields format) krel_from bytes
        else if kind == KACK then of_fields (flow_fields format) kack_from bytes
        else if kind == EPOCH then of_fields (epoch_fields format) epoch_from bytes
        else Err refusals.Kind) ≡ Ok p → Spells format kind bytes p.0 p.1
    second two e = elim (cases_Bool (kind == KREL)) [
      | inl is ↦ of_table format KREL kind (krel_fields format) krel_from bytes p is (krel_made format two) are (rw is at e)
      | inr not_krel ↦ elim (cases_Bool (kind == KACK)) [
        | inl is ↦ of_table_alone format KACK kind (flow_fields format) kack_from bytes p is (kack_made format two) are (rw (not_krel, is) at e)
        | inr not_kack ↦ elim (cases_Bool (kind == EPOCH)) [
          | inl is ↦ of_table_alone format EPOCH kind (epoch_fields format) epoch_from bytes p is (epoch_made format two) are (rw (not_krel, not_kack, is) at e)
          | inr not_epoch ↦ absurd (let f = rw (not_krel, not_kack, not_epoch) at e in cc)
        ]
      ]
    ]

    go : (b : Bool) → (format == FORMAT_1) ≡ b
        → (if b then Err refusals.Kind
        else if kind == KREL then with_payload (krel_fields format) krel_from bytes
        else if kind == KACK then of_fields (flow_fields format) kack_from bytes
        else if kind == EPOCH then of_fields (epoch_fields format) epoch_from bytes
        else Err refusals.Kind) ≡ Ok p → Spells format kind bytes p.0 p.1
    go true is e = absurd (let f : Err refusals.Kind ≡ Ok p = e in cc)
    go false is e = second is e

of_kind : (format kind : ℕ) (bytes : List ℕ) (p : Body × List ℕ) → AreBytes bytes → body_of_kind format kind bytes ≡ Ok p → Spells format kind bytes p.0 p.1
of_kind format kind bytes p are e = elim (cases_Bool (kind == PRIO)) [
  | inl is ↦ of_table format PRIO kind (prio_fields format) prio_from bytes p is (prio_made format) are (rw is at e)
  | inr not_prio ↦ elim (cases_Bool (kind == REL)) [
    | inl is ↦ of_table format REL kind (rel_fields format) rel_from bytes p is (rel_made format) are (rw (not_prio, is) at e)
    | inr not_rel ↦ elim (cases_Bool (kind == ACK)) [
      | inl is ↦ of_table_alone format ACK kind (flow_fields format) ack_from bytes p is (ack_made format) are (rw (not_prio, not_rel, is) at e)
      | inr not_ack ↦ elim (cases_Bool (kind == WEIGHT)) [
        | inl is ↦ of_table_alone format WEIGHT kind (weight_fields format) weight_from bytes p is (weight_made format) are
            (rw (not_prio, not_rel, not_ack, is) at e)
        | inr not_weight ↦ of_later format kind bytes p are (rw (not_prio, not_rel, not_ack, not_weight) at e)
      ]
    ]
  ]
]

-- ---- the whole

kind_byte : (body : Body) → big_bytes 1 (kind_of body) ≡ kind_of body ∷ []
kind_byte (bodies.Prio p) = refl
kind_byte (bodies.Rel r) = refl
kind_byte (bodies.Ack a) = refl
kind_byte (bodies.Weight w) = refl
kind_byte (bodies.Krel r) = refl
kind_byte (bodies.Kack a) = refl
kind_byte (bodies.Epoch e) = refl

with_kind : (format kind : ℕ) (bytes others : List ℕ) (body : Body) (rest : List ℕ) → bytes ≡ big_bytes 1 kind ++ others
    → Spells format kind others body rest → (bytes ≡ encoded_in format body ++ rest) × HasGoodFieldsIn format body
with_kind format kind bytes others body rest first after =
    let fields = spelled (fields_of format body) (numbers_of body) ++ payload_of body ++ rest in (
      first
          ∙ ap (λ bs. big_bytes 1 kind ++ bs) after.is
          ∙ ap (λ k. big_bytes 1 k ++ fields) (sym after.kind_is)
          ∙ ap (λ front. front ++ fields) (kind_byte body),
      after.good,
    )

pub front_is_encoded : FrontIsEncoded
unfolding body_at_in
front_is_encoded format bytes body rest are e =
    let s = then_ok (as_refusal refusals.Short (number_at 1 bytes)) (λ kind. body_of_kind format kind.0 kind.1) (body, rest) e in
    let n = number_read 1 bytes s.0 are (as_refusal_ok refusals.Short (number_at 1 bytes) s.0 s.1) in
    with_kind format s.0.0 bytes s.0.1 body rest n.spelled (of_kind format s.0.0 s.0.1 (body, rest) n.are_bytes s.2)

is_whole : (format : ℕ) (bytes : List ℕ) (found body : Body) (rest : List ℕ) → (bytes ≡ encoded_in format found ++ rest) × HasGoodFieldsIn format found
    → (if length rest == 0 then Ok found else Err refusals.Tail) ≡ Ok body → (bytes ≡ encoded_in format body) × HasGoodFieldsIn format body
is_whole format bytes found body [] front e =
    let same : found ≡ body = let f : Ok found ≡ Ok body = e in cc in
    subst (λ b. (bytes ≡ encoded_in format b) × HasGoodFieldsIn format b) same (front.0 ∙ append-nil (encoded_in format found), front.1)
is_whole format bytes found body (b ∷ rest) front e =
    let some : (length (b ∷ rest) == 0) ≡ false = ne_eqb (length (b ∷ rest)) 0 (λ none. omega (arith, none)) in
    absurd (let f = rw some at e in cc)

pub read_is_encoded : ReadIsEncoded
unfolding read_body_in
read_is_encoded format bytes body are e =
    let s = then_ok (body_at_in format bytes) (λ found. if length found.1 == 0 then Ok found.0 else Err refusals.Tail) body e in
    is_whole format bytes s.0.0 body s.0.1 (front_is_encoded format bytes s.0.0 s.0.1 are s.1) s.2

-- what a call read has its fields in their ranges
pub read_is_good : (format : ℕ) (result : Result BodyRef MsgRefused) (bytes : List ℕ) → AreBytes bytes → Gives as_body result (read_body_in format bytes)
    → IfOk result (λ body. HasGoodFieldsIn format (as_body body))
read_is_good format (Ok body) bytes are gives = (read_is_encoded format bytes (as_body body) are gives).1
read_is_good format (Err e) bytes are gives = tt
