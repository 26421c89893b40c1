-- How long the messages and the reports of a frame are at most, where signatures have at most the greatest length.
use Rattle.std.proofs.Common.{◌≡◌, ◌≤◌, ℕ, ◌+◌, ◌*◌, ◌==◌, if◌then◌else◌, Bool, true, false, List, [], ◌∷◌, ◌++◌, length}
use Rattle.std.proofs.Common.{flat_map, Option, Some, None, length-append, sym, subst, arith}
use Rattle.std.specs.Prelude.{IfSome}
use Rattle.std.specs.List.{All}
use Rattle.std.proofs.lemmas.List.Elements.{All-head, All-tail}
use Rattle.byteorder.specs.Endian.{big_bytes}
use Rattle.sp_base.specs.Formats.{by_format}
use Rattle.sp_base.specs.declared.format.TheConstants.{FORMAT_1}
use Rattle.sp_frame.proofs.LengthLemmas.{place_long}
use Rattle.sp_frame.specs.Grammar.{counted_bytes}
use Rattle.sp_frame.specs.Objects.{IsObject, is_of, most, object_bytes}
use Rattle.sp_frame.specs.Ranges.{IsReport}
use Rattle.sp_frame.specs.Reliable.{Report, ack_bytes, place_bytes, rels_bytes, report_bytes}
use Rattle.sp_frame.specs.declared.kind.Kind.{Kind}
use Rattle.sp_frame.specs.declared.kind.Kind.TheVariants as kinds
use Rattle.sp_msg.proofs.GoodFields.{good_krel, good_prio, good_rel}
use Rattle.sp_msg.proofs.LongLemmas.{ack_long, epoch_long, kack_long, krel_long, prio_long, rel_long}
use Rattle.sp_msg.specs.Bodies.{HasGoodFieldsIn, encoded_in}
use Rattle.sp_msg.specs.declared.body.Body.{Body}
use Rattle.sp_msg.specs.declared.body.Body.TheVariants as bodies
use Rattle.sp_msg.specs.declared.body.Krel.{Krel}
use Rattle.sp_msg.specs.declared.body.Prio.{Prio}
use Rattle.sp_msg.specs.declared.body.Rel.{Rel}
use Rattle.sp_msg.specs.declared.kept.Kept.{Kept}
use Rattle.sp_node_format.specs.PolledFrames.{most_signature}

-- one of two numbers is at most what both are
pub by_most : (format a b most : ℕ) → a ≤ most → b ≤ most → by_format format a b ≤ most
by_most format a b most one two = go (format == FORMAT_1)
  where
    go : (t : Bool) → (if t then a else b) ≤ most
    go true = one
    go false = two

-- ---- a message

-- whatever the format: a priority message of format 2 with the longest payload is the longest
body_len : (format : ℕ) (body : Body) → HasGoodFieldsIn format body → length (encoded_in format body) ≤ 1086
body_len format (bodies.Prio p) good =
    omega (arith, prio_long format p, by_most format 38 62 62 (omega arith) (omega arith), (good_prio format p good).payload)
body_len format (bodies.Rel r) good =
    omega (arith, rel_long format r, by_most format 13 29 29 (omega arith) (omega arith), (good_rel format r good).payload)
body_len format (bodies.Krel r) good =
    omega (arith, krel_long format r, by_most format 29 61 61 (omega arith) (omega arith), (good_krel format r good).payload)
body_len format (bodies.Ack a) good = omega (arith, ack_long format a, by_most format 11 27 27 (omega arith) (omega arith))
body_len format (bodies.Kack a) good = omega (arith, kack_long format a, by_most format 11 27 27 (omega arith) (omega arith))
body_len format (bodies.Epoch e) good = omega (arith, epoch_long format e, by_most format 2 10 10 (omega arith) (omega arith))
body_len format (bodies.Weight w) good = omega arith

-- the kinds without a payload
abbrev pub is_short : Kind → Bool
is_short kinds.Weight = true
is_short kinds.Ack = true
is_short kinds.Kack = true
is_short kinds.Epoch = true
is_short kinds.Prio = false
is_short kinds.Rel = false
is_short kinds.Krel = false

no_prio : (kind : Kind) (p : Prio) → is_short kind ≡ true → is_of kind (bodies.Prio p) ≡ true → ⊥
no_prio kinds.Weight p short is = absurd (cc)
no_prio kinds.Ack p short is = absurd (cc)
no_prio kinds.Kack p short is = absurd (cc)
no_prio kinds.Epoch p short is = absurd (cc)
no_prio kinds.Prio p short is = absurd (cc)
no_prio kinds.Rel p short is = absurd (cc)
no_prio kinds.Krel p short is = absurd (cc)

no_rel : (kind : Kind) (r : Rel) → is_short kind ≡ true → is_of kind (bodies.Rel r) ≡ true → ⊥
no_rel kinds.Weight r short is = absurd (cc)
no_rel kinds.Ack r short is = absurd (cc)
no_rel kinds.Kack r short is = absurd (cc)
no_rel kinds.Epoch r short is = absurd (cc)
no_rel kinds.Prio r short is = absurd (cc)
no_rel kinds.Rel r short is = absurd (cc)
no_rel kinds.Krel r short is = absurd (cc)

no_krel : (kind : Kind) (r : Krel) → is_short kind ≡ true → is_of kind (bodies.Krel r) ≡ true → ⊥
no_krel kinds.Weight r short is = absurd (cc)
no_krel kinds.Ack r short is = absurd (cc)
no_krel kinds.Kack r short is = absurd (cc)
no_krel kinds.Epoch r short is = absurd (cc)
no_krel kinds.Prio r short is = absurd (cc)
no_krel kinds.Rel r short is = absurd (cc)
no_krel kinds.Krel r short is = absurd (cc)

-- whatever the format: an acknowledgement of format 2 is the longest of these
short_body : (format : ℕ) (kind : Kind) (body : Body) → is_short kind ≡ true → is_of kind body ≡ true → length (encoded_in format body) ≤ 28
short_body format kind (bodies.Ack a) short is = omega (arith, ack_long format a, by_most format 11 27 27 (omega arith) (omega arith))
short_body format kind (bodies.Kack a) short is = omega (arith, kack_long format a, by_most format 11 27 27 (omega arith) (omega arith))
short_body format kind (bodies.Epoch e) short is = omega (arith, epoch_long format e, by_most format 2 10 10 (omega arith) (omega arith))
short_body format kind (bodies.Weight w) short is = omega arith
short_body format kind (bodies.Prio p) short is = absurd (no_prio kind p short is)
short_body format kind (bodies.Rel r) short is = absurd (no_rel kind r short is)
short_body format kind (bodies.Krel r) short is = absurd (no_krel kind r short is)

-- ---- a signed message

four : (a b c d : List ℕ) → length (a ++ b ++ c ++ d) ≡ length a + length b + length c + length d
four a b c d =
    let one = length-append ((a ++ b) ++ c) d in
    let two = length-append (a ++ b) c in
    let three = length-append a b in
    let right_one = length-append a (b ++ (c ++ d)) in
    let right_two = length-append b (c ++ d) in
    let right_three = length-append c d in
    omega (arith, one, two, three, right_one, right_two, right_three)

-- a number of two bytes
pub two_bytes : (n : ℕ) → length (big_bytes 2 n) ≡ 2
two_bytes n = omega arith

object_size : (body signature : List ℕ) (len most_body : ℕ) → length body ≤ most_body → length signature ≡ len → len ≤ most_signature
    → length (big_bytes 2 (length body) ++ body ++ big_bytes 2 (length signature) ++ signature) ≤ most_body + 5080
object_size body signature len most_body short long small =
    subst (λ (k : ℕ). k ≤ most_body + 5080) (sym (four (big_bytes 2 (length body)) body (big_bytes 2 (length signature)) signature))
    (let one = two_bytes (length body) in let two = two_bytes (length signature) in omega (arith, short, long, small, one, two))

-- of any kind
pub object_len : (format : ℕ) (kind : Kind) (len : ℕ) → len ≤ most_signature → (o : Kept) → IsObject format kind len o → length (object_bytes format o) ≤ 6166
unfolding object_bytes
object_len format kind len small o is =
    let size = object_size (encoded_in format o.body) o.signature len 1086 (body_len format o.body is.fields) is.long small in
    omega (arith, size)

-- of a kind without a payload
pub short_len : (format : ℕ) (kind : Kind) (len : ℕ) → is_short kind ≡ true → len ≤ most_signature → (o : Kept) → IsObject format kind len o
    → length (object_bytes format o) ≤ 5108
unfolding object_bytes
short_len format kind len short small o is =
    let size = object_size (encoded_in format o.body) o.signature len 28 (short_body format kind o.body short is.is) is.long small in
    omega (arith, size)

-- ---- several

all_len : {X : Type 0} (P : X → Type 0) (spell : X → List ℕ) (each_most : ℕ) → ((x : X) → P x → length (spell x) ≤ each_most) → (xs : List X) → All P xs
    → length (flat_map spell xs) ≤ each_most * length xs
all_len P spell each_most each [] all = omega arith
all_len P spell each_most each (x ∷ xs) all =
    let one = each x (All-head P x xs all) in
    let others = all_len P spell each_most each xs (All-tail P x xs all) in
    let together = length-append (spell x) (flat_map spell xs) in
    grind (arith, one, others, together)

-- where each is at most so long, with their count before them
pub counted_len : {X : Type 0} (P : X → Type 0) (spell : X → List ℕ) (each_most : ℕ) → ((x : X) → P x → length (spell x) ≤ each_most) → (xs : List X)
    → All P xs → length (counted_bytes spell xs) ≤ each_most * length xs + 1
counted_len P spell each_most each xs all = let spelled = all_len P spell each_most each xs all in omega (arith, spelled)

-- ---- a report of one kind of flows

ack_len : (format : ℕ) (kind : Kind) (len : ℕ) → is_short kind ≡ true → len ≤ most_signature → (o : Option Kept) → IfSome o (IsObject format kind len)
    → length (ack_bytes format o) ≤ 5109
unfolding ack_bytes
ack_len format kind len short small None is = omega arith
ack_len format kind len short small (Some o) is = let one = short_len format kind len short small o is in omega (arith, one)

three : (a b c : List ℕ) → length (a ++ b ++ c) ≡ length a + length b + length c
three a b c =
    let one = length-append (a ++ b) c in
    let two = length-append a b in
    let right_one = length-append a (b ++ c) in
    let right_two = length-append b c in
    omega (arith, one, two, right_one, right_two)

place_len : (format : ℕ) (r : Report) → length (place_bytes format r) ≤ 34
unfolding place_bytes
place_len format r = omega (arith, place_long format r, by_most format 0 8 8 (omega arith) (omega arith))

-- with at most so many messages
rels_len : (format : ℕ) (kind : Kind) (len few : ℕ) → len ≤ most_signature → (rs : List Kept) → All (IsObject format kind len) rs → length rs ≤ few
    → length (rels_bytes format rs) ≤ 6166 * few + 1
unfolding rels_bytes
rels_len format kind len few small rs all within =
    let counted = counted_len (IsObject format kind len) (object_bytes format) 6166 (object_len format kind len small) rs all in
    omega (arith, within, counted)

-- where a format has at most so many messages of its kind
pub report_len : (format : ℕ) (ack_kind messages : Kind) (len few : ℕ) → is_short ack_kind ≡ true → len ≤ most_signature
    → most format messages ≤ few → (r : Report) → IsReport format ack_kind messages len r → length (report_bytes format r) ≤ 6166 * few + 5144
unfolding report_bytes
report_len format ack_kind messages len few short small most_few r is =
    subst (λ (k : ℕ). k ≤ 6166 * few + 5144) (sym (three (place_bytes format r) (ack_bytes format r.ack) (rels_bytes format r.rels)))
    (let place = place_len format r in let said = ack_len format ack_kind len short small r.ack is.ack in let within = is.few in
    let rels = rels_len format messages len few small r.rels is.rels (omega (arith, within, most_few)) in omega (arith, place, said, rels))
