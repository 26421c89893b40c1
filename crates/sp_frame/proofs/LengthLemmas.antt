-- How long a message is.
use Rattle.std.proofs.Common.{◌≡◌, ◌+◌, ◌*◌, ◌<◌, ◌≤◌, ◌==◌, ℕ, Bool, true, false, if◌then◌else◌, List, [], ◌∷◌, ◌++◌, append-nil, ◌∙◌, ap, sym, subst}
use Rattle.std.proofs.Common.{drop, map, length, length-append, Option, None, Some, refl, arith}
use Rattle.std.specs.List.{flat_map, slice_get}
use Rattle.byteorder.specs.Endian.{big_bytes}
use Rattle.byteorder.specs.Numbers.{length-bytes_high_first}
use Rattle.sp_frame.specs.Grammar.{counted_bytes, later_bytes}
use Rattle.sp_base.proofs.FewLemmas.{drop_first}
use Rattle.sp_base.specs.Formats.{by_format}
use Rattle.sp_base.specs.declared.format.TheConstants.{FORMAT_1}
use Rattle.sp_msg.specs.Bodies.{HasGoodFieldsIn, encoded_in}
use Rattle.sp_msg.proofs.GoodFields.{good_prio, good_rel}
use Rattle.sp_msg.proofs.LongLemmas.{ack_long, kack_long, krel_long, prio_long, rel_long}
use Rattle.sp_msg.proofs.LongLemmas.{epoch_long as epoch_body_long}
use Rattle.sp_msg.specs.declared.kept.Kept.{Kept}
use Rattle.sp_frame.specs.Frames.{ends_bytes, head_bytes, numbers_bytes}
use Rattle.sp_frame.specs.Objects.{object_bytes}
use Rattle.sp_frame.specs.Prioritized.{numbered_bytes, prios_bytes}
use Rattle.sp_frame.specs.Probes.{epoch_bytes, probe_bytes, probes_bytes}
use Rattle.sp_frame.specs.Reliable.{Report, ack_bytes, boot_bytes, paths_bytes, place_bytes, rels_bytes, report_bytes, slot_bytes}
use Rattle.sp_frame.specs.declared.probe.Probe.{Probe}
use Rattle.sp_frame.specs.Views.{as_list}
use Rattle.sp_frame.specs.declared.head.Head.{Head}
use Rattle.sp_frame.specs.Weights.{weights_bytes}
use Rattle.sp_msg.specs.declared.body.Body.{Body}
use Rattle.sp_msg.specs.declared.body.Body.TheVariants as bodies

-- the length of a message has room in two bytes
short : (one two payload : ℕ) (format : ℕ) → one ≤ 100 → two ≤ 100 → payload ≤ 1024 → by_format format one two + payload < 65536
short one two payload format few_one few_two few = go (format == FORMAT_1)
  where
    go : (b : Bool) → (if b then one else two) + payload < 65536
    go true = omega (arith, few_one, few)
    go false = omega (arith, few_two, few)

pub encoded_fits : (format : ℕ) (body : Body) → HasGoodFieldsIn format body → length (encoded_in format body) < 65536
encoded_fits format (bodies.Prio p) good =
    let few : length p.payload ≤ 1024 = (good_prio format p good).payload in
    subst (λ n. n < 65536) (sym (prio_long format p)) (short 38 62 (length p.payload) format (omega arith) (omega arith) few)
encoded_fits format (bodies.Rel r) good =
    let few : length r.payload ≤ 1024 = (good_rel format r good).payload in
    subst (λ n. n < 65536) (sym (rel_long format r)) (short 13 29 (length r.payload) format (omega arith) (omega arith) few)
encoded_fits format (bodies.Ack a) good =
    let same : by_format format 11 27 ≡ by_format format 11 27 + 0 = omega arith in
    let e : length (encoded_in format (bodies.Ack a)) ≡ by_format format 11 27 + 0 = ack_long format a ∙ same in
    subst (λ n. n < 65536) (sym e) (short 11 27 0 format (omega arith) (omega arith) (omega arith))
encoded_fits format (bodies.Weight w) good = omega arith
encoded_fits format (bodies.Krel r) good =
    let few : length r.payload ≤ 1024 = good.1.1.1.1.1.1.1.1.0.1 in
    subst (λ n. n < 65536) (sym (krel_long format r)) (short 29 61 (length r.payload) format (omega arith) (omega arith) few)
encoded_fits format (bodies.Kack a) good =
    let same : by_format format 11 27 ≡ by_format format 11 27 + 0 = omega arith in
    let e : length (encoded_in format (bodies.Kack a)) ≡ by_format format 11 27 + 0 = kack_long format a ∙ same in
    subst (λ n. n < 65536) (sym e) (short 11 27 0 format (omega arith) (omega arith) (omega arith))
encoded_fits format (bodies.Epoch e) good =
    let same : by_format format 2 10 ≡ by_format format 2 10 + 0 = omega arith in
    let long : length (encoded_in format (bodies.Epoch e)) ≡ by_format format 2 10 + 0 = epoch_body_long format e ∙ same in
    subst (λ n. n < 65536) (sym long) (short 2 10 0 format (omega arith) (omega arith) (omega arith))

-- a message with its lengths and its signature
pub object_long : (format : ℕ) (o : Kept) → length (object_bytes format o) ≡ 2 + length (encoded_in format o.body) + 2 + length o.signature
unfolding object_bytes
object_long format o = simp length-append (omega arith)

pub weights_long : (format : ℕ) (o : Option Kept) → length (weights_bytes format (as_list o)) ≡ length (rels_bytes format (as_list o))
unfolding weights_bytes rels_bytes
weights_long format o = refl

-- a count and what it counts
pub counted_long : {X : Type 0} (spell : X → List ℕ) (xs : List X) → length (counted_bytes spell xs) ≡ 1 + length (flat_map spell xs)
counted_long spell xs =
    length-append (big_bytes 1 (length xs)) (flat_map spell xs)
    ∙ ap (λ (n : ℕ). n + length (flat_map spell xs)) (length-bytes_high_first 1 (length xs))

-- one message more, with its link number
pub numbered_long : (format : ℕ) (p : ℕ × Kept) (ps : List (ℕ × Kept))
    → length (flat_map (numbered_bytes format) (p ∷ ps)) ≡ 8 + length (object_bytes format p.1) + length (flat_map (numbered_bytes format) ps)
unfolding numbered_bytes
numbered_long format p ps = simp length-append (omega arith)

pub objects_long : (format : ℕ) (o : Kept) (os : List Kept)
    → length (flat_map (object_bytes format) (o ∷ os)) ≡ length (object_bytes format o) + length (flat_map (object_bytes format) os)
objects_long format o os = length-append (object_bytes format o) (flat_map (object_bytes format) os)

-- what is left from a place on: what stands there, and what is left after it
pub numbered_from : (format : ℕ) {X : Type 0} (xs : List X) (view : X → ℕ × Kept) (i : ℕ) (x : X) → slice_get xs i ≡ Some x
    → length (flat_map (numbered_bytes format) (map view (drop i xs)))
    ≡ 8 + length (object_bytes format (view x).1) + length (flat_map (numbered_bytes format) (map view (drop (i + 1) xs)))
numbered_from format xs view i x at = rw (drop_first xs i x at) (numbered_long format (view x) (map view (drop (i + 1) xs)))

pub objects_from : (format : ℕ) {X : Type 0} (xs : List X) (view : X → Kept) (i : ℕ) (x : X) → slice_get xs i ≡ Some x
    → length (flat_map (object_bytes format) (map view (drop i xs)))
    ≡ length (object_bytes format (view x)) + length (flat_map (object_bytes format) (map view (drop (i + 1) xs)))
objects_from format xs view i x at = rw (drop_first xs i x at) (objects_long format (view x) (map view (drop (i + 1) xs)))

pub acks_long : (format : ℕ) (o : Option Kept) → length (ack_bytes format o) ≡ length (rels_bytes format (as_list o))
unfolding ack_bytes rels_bytes
acks_long format None = refl
acks_long format (Some o) = simp length-append (omega arith)

pub rels_long : (format : ℕ) (o : Kept) → length (rels_bytes format (o ∷ [])) ≡ 1 + length (object_bytes format o)
unfolding rels_bytes
rels_long format o = simp length-append (omega arith)

pub no_rels_long : (format : ℕ) → length (rels_bytes format []) ≡ 1
unfolding rels_bytes
no_rels_long format = refl

pub no_slot_long : (format : ℕ) → length (slot_bytes format None) ≡ 1
unfolding slot_bytes
no_slot_long format = refl

-- a report has 18 bytes and the two boots of its format
pub place_long : (format : ℕ) (r : Report) → length (place_bytes format r) ≡ 18 + 2 * boot_bytes format
unfolding place_bytes
place_long format r = go (format == FORMAT_1) refl
  where
    go : (b : Bool) → (format == FORMAT_1) ≡ b → length (place_bytes format r) ≡ 18 + 2 * boot_bytes format
    go true is = rw is refl
    go false is = rw is refl

pub slot_long : (format : ℕ) (r : Report)
    → length (slot_bytes format (Some r)) ≡ 1 + (18 + 2 * boot_bytes format) + length (ack_bytes format r.ack) + length (rels_bytes format r.rels)
unfolding slot_bytes report_bytes
slot_long format r = simp length-append (omega (arith, place_long format r))

pub no_paths_long : (format : ℕ) (o : Option Report) → (format == FORMAT_1) ≡ true → length (paths_bytes format o) ≡ 0
unfolding paths_bytes
no_paths_long format o is = rw is refl

pub paths_long : (format : ℕ) (o : Option Report) → (format == FORMAT_1) ≡ false → length (paths_bytes format o) ≡ length (slot_bytes format o)
unfolding paths_bytes slot_bytes
paths_long format o is = ap (λ b. length (later_bytes (report_bytes format) b o)) is

pub no_probes_long : (format : ℕ) (o : Option Probe) → (format == FORMAT_1) ≡ true → length (probes_bytes format o) ≡ 0
unfolding probes_bytes
no_probes_long format o is = rw is refl

pub none_probed_long : (format : ℕ) → (format == FORMAT_1) ≡ false → length (probes_bytes format None) ≡ 1
unfolding probes_bytes
none_probed_long format is = rw is refl

pub probes_long : (format : ℕ) (p : Probe) → (format == FORMAT_1) ≡ false → length (probes_bytes format (Some p)) ≡ 1 + 16 + length p.nonce + length p.proof
unfolding probes_bytes probe_bytes
probes_long format p is = rw is (simp length-append (omega arith))

pub no_epoch_long : (format : ℕ) (o : Option Kept) → (format == FORMAT_1) ≡ true → length (epoch_bytes format o) ≡ 0
unfolding epoch_bytes
no_epoch_long format o is = rw is refl

pub epoch_long : (format : ℕ) (o : Option Kept) → (format == FORMAT_1) ≡ false → length (epoch_bytes format o) ≡ length (rels_bytes format (as_list o))
unfolding epoch_bytes rels_bytes ack_bytes
epoch_long format o is = ap (λ b. length (later_bytes (object_bytes format) b o)) is ∙ acks_long format o

pub head_long : (h : Head) → length (head_bytes h) ≡ 33
unfolding head_bytes ends_bytes numbers_bytes
head_long h = refl

-- ---- one object at most is spelled alike after a count and after a flag
pub weights_are : (format : ℕ) (o : Option Kept) → weights_bytes format (as_list o) ≡ ack_bytes format o
unfolding weights_bytes ack_bytes
weights_are format None = refl
weights_are format (Some o) = ap (λ b. big_bytes 1 1 ++ b) (append-nil (object_bytes format o))

-- ---- the parts that format 1 lacks are spelled as others are
pub paths_are : (format : ℕ) (o : Option Report) → (format == FORMAT_1) ≡ false → paths_bytes format o ≡ slot_bytes format o
unfolding paths_bytes slot_bytes
paths_are format o is = ap (λ b. later_bytes (report_bytes format) b o) is

pub no_paths_are : (format : ℕ) (o : Option Report) → (format == FORMAT_1) ≡ true → paths_bytes format o ≡ []
unfolding paths_bytes
no_paths_are format o is = ap (λ b. later_bytes (report_bytes format) b o) is

pub epoch_is : (format : ℕ) (o : Option Kept) → (format == FORMAT_1) ≡ false → epoch_bytes format o ≡ ack_bytes format o
unfolding epoch_bytes ack_bytes
epoch_is format o is = ap (λ b. later_bytes (object_bytes format) b o) is

pub no_epoch_is : (format : ℕ) (o : Option Kept) → (format == FORMAT_1) ≡ true → epoch_bytes format o ≡ []
unfolding epoch_bytes
no_epoch_is format o is = ap (λ b. later_bytes (object_bytes format) b o) is
