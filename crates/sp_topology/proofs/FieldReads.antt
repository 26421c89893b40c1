-- The fields of a document that are read, and its front: the bytes begin with them.
use Rattle.std.proofs.Common.{◌≡◌, if◌then◌else◌, ℕ, ◌<◌, ◌≤◌, ◌^◌, ◌==◌, inl, inr, List, [], ◌∷◌, ◌++◌, append_assoc, Result, Ok, Some, None, refl, sym, ap}
use Rattle.std.proofs.Common.{subst, ◌∙◌, arith}
use Rattle.std.specs.Prelude.{Option}
use Rattle.std.proofs.lemmas.Bool.{cases_Bool, eqb-true}
use Rattle.std.proofs.lemmas.List.Elements.{All-cons, All-head, All-nil, All-tail}
use Rattle.byteorder.specs.Endian.{big_bytes}
use Rattle.sp_base.proofs.NumberLemmas.{number_read}
use Rattle.sp_base.proofs.RefusalLemmas.{as_refusal_ok, then_ok}
use Rattle.sp_base.specs.Reading.{number_at}
use Rattle.sp_base.specs.Refusals.{◌>>=◌}
use Rattle.sp_base.specs.Spelling.{AreBytes}
use Rattle.sp_base.specs.Formats.{IsFormat, max_nodes}
use Rattle.sp_base.specs.declared.format.TheConstants.{FORMAT_1, FORMAT_2}
use Rattle.sp_topology.specs.declared.topology.LmsHeight.{LmsHeight}
use Rattle.sp_topology.specs.declared.refused.TopologyRefused.{TopologyRefused}
use Rattle.sp_topology.specs.declared.refused.TopologyRefused.TheVariants as refusals
use Rattle.sp_topology.specs.Documents.{Front, field_at, format_fault, front_at, front_bytes, height_field_at, height_or_refusal, judged_at, name, name_fault}
use Rattle.sp_topology.specs.Documents.{unless}
use Rattle.sp_topology.specs.Faults.{node_count_fault}
use Rattle.sp_topology.specs.Heights.{height_at, height_number}
use Rattle.sp_topology.proofs.Judged.{node_count_passed, number_of_height}

-- bytes begin with these, and the rest are bytes too
pub record Begins (bytes front rest : List ℕ) : Type 0 where
  pub spelled : bytes ≡ front ++ rest
  pub are_bytes : AreBytes rest

-- two beginnings, one after the other
pub joined : (bytes front middle mid rest : List ℕ) → Begins bytes front middle → Begins middle mid rest → Begins bytes (front ++ mid) rest
joined bytes front middle mid rest one two = record {
  spelled = one.spelled ∙ ap (λ tail. front ++ tail) two.spelled ∙ sym (append_assoc front mid rest);
  are_bytes = two.are_bytes;
}

pub unless_ok : {A : Type 0} (fault : Option TopologyRefused) (x y : A) → unless fault x ≡ Ok y → (fault ≡ None) × (x ≡ y)
unless_ok None x y e = (refl, cc)
unless_ok (Some fault) x y e = absurd (cc)

abbrev pub ok_of : {A : Type 0} → A → Result A TopologyRefused
ok_of x = Ok x

pub ok_same : {A : Type 0} (x y : A) → ok_of x ≡ ok_of y → x ≡ y
ok_same x y e = cc

pub front_are_bytes : (front rest : List ℕ) → AreBytes (front ++ rest) → AreBytes front
front_are_bytes [] rest are = All-nil (λ (b : ℕ). b < 256)
front_are_bytes (b ∷ front) rest are =
    All-cons (λ (b : ℕ). b < 256) b front (All-head (λ (b : ℕ). b < 256) b (front ++ rest) are)
    (front_are_bytes front rest (All-tail (λ (b : ℕ). b < 256) b (front ++ rest) are))

pub rest_are_bytes : (front rest : List ℕ) → AreBytes (front ++ rest) → AreBytes rest
rest_are_bytes [] rest are = are
rest_are_bytes (b ∷ front) rest are = rest_are_bytes front rest (All-tail (λ (b : ℕ). b < 256) b (front ++ rest) are)

-- a field that was read
pub record Field (n : ℕ) (bytes : List ℕ) (x : ℕ) (rest : List ℕ) : Type 0 where
  pub begins : Begins bytes (big_bytes n x) rest
  pub small : x < 256 ^ n

pub field_read : (n : ℕ) (bytes : List ℕ) (p : ℕ × List ℕ) → AreBytes bytes → field_at n bytes ≡ Ok p → Field n bytes p.0 p.1
field_read n bytes p are e =
    let is = number_read n bytes p are (as_refusal_ok refusals.Short (number_at n bytes) p e) in
    record { begins = record { spelled = is.spelled; are_bytes = is.are_bytes }; small = is.fits }

-- a field that was read and judged
pub record Judged (n : ℕ) (fault : ℕ → Option TopologyRefused) (bytes : List ℕ) (x : ℕ) (rest : List ℕ) : Type 0 where
  pub field : Field n bytes x rest
  pub passes : fault x ≡ None

pub judged_read : (n : ℕ) (fault : ℕ → Option TopologyRefused) (bytes : List ℕ) (p : ℕ × List ℕ) → AreBytes bytes → judged_at n fault bytes ≡ Ok p
    → Judged n fault bytes p.0 p.1
unfolding judged_at
judged_read n fault bytes p are e =
    let s = then_ok (field_at n bytes) (λ x. unless (fault x.0) x) p e in
    let u = unless_ok (fault s.0.0) s.0 p s.2 in
    let here : Judged n fault bytes s.0.0 s.0.1 = record { field = field_read n bytes s.0 are s.1; passes = u.0 } in
    subst (λ (q : ℕ × List ℕ). Judged n fault bytes q.0 q.1) u.1 here

-- ---- the front

height_ok : (height : Option LmsHeight) (bytes : List ℕ) (p : LmsHeight × List ℕ) → height_or_refusal height bytes ≡ Ok p → (height ≡ Some p.0) × (bytes ≡ p.1)
height_ok (Some height) bytes p e =
    let pair : (height, bytes) ≡ p = cc in
    (ap (λ (q : LmsHeight × List ℕ). Some q.0) pair, ap (λ (q : LmsHeight × List ℕ). q.1) pair)
height_ok None bytes p e = absurd (cc)

height_read : (bytes : List ℕ) (p : LmsHeight × List ℕ) → AreBytes bytes → height_field_at bytes ≡ Ok p → Begins bytes (big_bytes 1 (height_number p.0)) p.1
unfolding height_field_at
height_read bytes p are e =
    let s = then_ok (field_at 1 bytes) (λ x. height_or_refusal (height_at x.0) x.1) p e in
    let h = height_ok (height_at s.0.0) s.0.1 p s.2 in
    let is = (field_read 1 bytes s.0 are s.1).begins in
    let number : height_number p.0 ≡ s.0.0 = number_of_height s.0.0 p.0 h.0 in
    rw number (subst (λ (rest : List ℕ). Begins bytes (big_bytes 1 s.0.0) rest) h.1 is)

exact : (x wanted : ℕ) (refused : TopologyRefused) → (if x == wanted then None else Some refused) ≡ None → x ≡ wanted
exact x wanted refused e = elim (cases_Bool (x == wanted)) [
  | inl same ↦ eqb-true x wanted same
  | inr other ↦ absurd (let is = rw other at e in cc)
]

is_format : (number : ℕ) → format_fault number ≡ None → IsFormat number
is_format number e = elim (cases_Bool (number == FORMAT_1)) [
  | inl one ↦ inl (eqb-true number FORMAT_1 one)
  | inr other ↦ elim (cases_Bool (number == FORMAT_2)) [
    | inl two ↦ inr (eqb-true number FORMAT_2 two)
    | inr neither ↦ absurd (let is = rw (other, neither) at e in cc)
  ]
]

pub record FrontRead (bytes : List ℕ) (f : Front) (rest : List ℕ) : Type 0 where
  pub begins : Begins bytes (front_bytes f) rest
  pub format : IsFormat f.format
  pub version : f.version < 2 ^ 32
  pub count : (2 ≤ f.count) × (f.count ≤ max_nodes f.format)

-- the steps of the front, each with what comes after it
abbrev after_height : ℕ → ℕ → LmsHeight × List ℕ → Result (Front × List ℕ) TopologyRefused
after_height format version h =
    judged_at 1 (node_count_fault format) h.1 >>= λ c. Ok (record { format = format; version = version; height = h.0; count = c.0 }, c.1)

abbrev after_version : ℕ → ℕ × List ℕ → Result (Front × List ℕ) TopologyRefused
after_version format v = height_field_at v.1 >>= λ h. after_height format v.0 h

abbrev after_format : ℕ × List ℕ → Result (Front × List ℕ) TopologyRefused
after_format g = field_at 4 g.1 >>= λ v. after_version g.0 v

abbrev after_name : ℕ × List ℕ → Result (Front × List ℕ) TopologyRefused
after_name b = judged_at 1 format_fault b.1 >>= λ g. after_format g

front_joined : (f : Front) (bytes named formatted versioned raised counted : List ℕ) → Begins bytes (big_bytes 4 name) named
    → Begins named (big_bytes 1 f.format) formatted
    → Begins formatted (big_bytes 4 f.version) versioned → Begins versioned (big_bytes 1 (height_number f.height)) raised
    → Begins raised (big_bytes 1 f.count) counted
    → Begins bytes (front_bytes f) counted
front_joined f bytes named formatted versioned raised counted one two three four five =
    let last = joined versioned (big_bytes 1 (height_number f.height)) raised (big_bytes 1 f.count) counted four five in
    let third = joined formatted (big_bytes 4 f.version) versioned (big_bytes 1 (height_number f.height) ++ big_bytes 1 f.count) counted three last in
    let second = joined named (big_bytes 1 f.format) formatted (big_bytes 4 f.version ++
    (big_bytes 1 (height_number f.height) ++ big_bytes 1 f.count)) counted two third in
    joined bytes (big_bytes 4 name) named (big_bytes 1 f.format ++ (big_bytes 4 f.version ++
    (big_bytes 1 (height_number f.height) ++ big_bytes 1 f.count))) counted one second

same_front : (bytes : List ℕ) (p q : Front × List ℕ) → p ≡ q → FrontRead bytes p.0 p.1 → FrontRead bytes q.0 q.1
same_front bytes p q same is = subst (λ (z : Front × List ℕ). FrontRead bytes z.0 z.1) same is

pub front_read : (bytes : List ℕ) (p : Front × List ℕ) → AreBytes bytes → front_at bytes ≡ Ok p → FrontRead bytes p.0 p.1
unfolding front_at
front_read bytes p are e =
    let s1 = then_ok (judged_at 4 name_fault bytes) after_name p e in
    let s2 = then_ok (judged_at 1 format_fault s1.0.1) after_format p s1.2 in
    let s3 = then_ok (field_at 4 s2.0.1) (after_version s2.0.0) p s2.2 in
    let s4 = then_ok (height_field_at s3.0.1) (after_height s2.0.0 s3.0.0) p s3.2 in
    let s5 = then_ok (judged_at 1 (node_count_fault s2.0.0) s4.0.1) (λ c. Ok (record { format = s2.0.0; version = s3.0.0; height = s4.0.0; count = c.0 }, c.1))
    p s4.2 in
    let f : Front = record { format = s2.0.0; version = s3.0.0; height = s4.0.0; count = s5.0.0 } in
    let j1 = judged_read 4 name_fault bytes s1.0 are s1.1 in
    let j2 = judged_read 1 format_fault s1.0.1 s2.0 j1.field.begins.are_bytes s2.1 in
    let j3 = field_read 4 s2.0.1 s3.0 j2.field.begins.are_bytes s3.1 in
    let j4 = height_read s3.0.1 s4.0 j3.begins.are_bytes s4.1 in
    let j5 = judged_read 1 (node_count_fault s2.0.0) s4.0.1 s5.0 j4.are_bytes s5.1 in
    let named : Begins bytes (big_bytes 4 name) s1.0.1 = subst (λ (x : ℕ). Begins bytes (big_bytes 4 x) s1.0.1)
    (exact s1.0.0 name refusals.Magic j1.passes) j1.field.begins in
    let here : FrontRead bytes f s5.0.1 = record {
      begins = front_joined f bytes s1.0.1 s2.0.1 s3.0.1 s4.0.1 s5.0.1 named j2.field.begins j3.begins j4 j5.field.begins;
      format = is_format s2.0.0 j2.passes;
      version = omega (arith, j3.small);
      count = node_count_passed s2.0.0 s5.0.0 j5.passes;
    } in
    let pair : (f, s5.0.1) ≡ p = ok_same (f, s5.0.1) p s5.2 in
    same_front bytes (f, s5.0.1) p pair here
