-- An object is read back, and its bytes are those that were read.
use Rattle.std.proofs.Common.{◌≡◌, ℕ, ◌<◌, ◌==◌, true, inl, inr, List, ◌++◌, length, append_assoc, Result, Ok, Err, if◌then◌else◌}
use Rattle.std.proofs.Common.{refl, sym, ap, ◌∙◌, subst, arith}
use Rattle.std.proofs.lemmas.Bool.{cases_Bool, eqb-true}
use Rattle.std.proofs.lemmas.Bool.Decides.{nat_tests}
use Rattle.byteorder.specs.Endian.{big_bytes}
use Rattle.sp_base.specs.Refusals.{◌>>=◌}
use Rattle.sp_base.specs.declared.format.TheConstants.{FORMAT_1}
use Rattle.sp_base.specs.Spelling.{AreBytes}
use Rattle.sp_base.proofs.RefusalLemmas.{then_ok}
use Rattle.sp_msg.specs.Bodies.{encoded_in, read_body_in}
use Rattle.sp_msg.specs.declared.body.Body.{Body}
use Rattle.sp_msg.specs.declared.kept.Kept.{Kept}
use Rattle.sp_msg.specs.declared.refused.MsgRefused.{MsgRefused}
use Rattle.sp_msg.proofs.EncodedIsRead.{whole_is_read}
use Rattle.sp_msg.proofs.ReadIsEncoded.{read_is_encoded}
use Rattle.sp_frame.specs.Grammar.{number, piece}
use Rattle.sp_frame.specs.Objects.{IsObject, is_of, length_of, object, object_bytes, of_kind}
use Rattle.sp_frame.specs.declared.kind.Kind.{Kind}
use Rattle.sp_frame.specs.declared.refused.SectionRefused.TheVariants as refusals
use Rattle.sp_frame.proofs.GrammarLemmas.{Begins, Fit, IsPiece, joined, number_fit, piece_is_back, piece_is_read}
use Rattle.sp_frame.proofs.LengthLemmas.{encoded_fits}

-- ---- what is spelled is read
same_number : (n : ℕ) → (n == n) ≡ true
same_number n = grind (arith, nat_tests)

length_back : (len : ℕ) (rest : List ℕ) → len < 65536 → length_of len (big_bytes 2 len ++ rest) ≡ Ok (len, rest)
unfolding length_of
length_back len rest small = rw ((number_fit 2).back len rest small) (rw (same_number len) refl)

-- an object by its pieces
pieces_back : (format : ℕ) (kind : Kind) (len : ℕ) (o : Kept) (rest : List ℕ) → IsObject format kind len o
    → object format kind len (big_bytes 2 (length (encoded_in format o.body)) ++ (encoded_in format o.body ++ (big_bytes 2 len ++ (o.signature ++ rest))))
    ≡ Ok (o, rest)
unfolding object
pieces_back format kind len o rest good =
    let signed : piece len (o.signature ++ rest) ≡ Ok (o.signature, rest) =
    ap (λ n. piece n (o.signature ++ rest)) (sym good.long) ∙ piece_is_back o.signature rest in
    rw ((number_fit 2).back (length (encoded_in format o.body)) (encoded_in format o.body ++ (big_bytes 2 len ++ (o.signature ++ rest)))
    (encoded_fits format o.body good.fields))
    (rw (piece_is_back (encoded_in format o.body) (big_bytes 2 len ++ (o.signature ++ rest)))
    (rw (whole_is_read format o.body good.fields) (rw good.is (rw (length_back len (o.signature ++ rest) good.fits) (rw signed refl)))))

pub in_pieces : (a b c d rest : List ℕ) → (a ++ b ++ c ++ d) ++ rest ≡ a ++ (b ++ (c ++ (d ++ rest)))
in_pieces a b c d rest = append_assoc (a ++ b ++ c) d rest ∙ append_assoc (a ++ b) c (d ++ rest) ∙ append_assoc a b (c ++ (d ++ rest))

object_back : (format : ℕ) (kind : Kind) (len : ℕ) (o : Kept) (rest : List ℕ) → IsObject format kind len o
    → object format kind len (object_bytes format o ++ rest) ≡ Ok (o, rest)
unfolding object_bytes
object_back format kind len o rest good =
    ap (object format kind len)
    (in_pieces (big_bytes 2 (length (encoded_in format o.body))) (encoded_in format o.body) (big_bytes 2 (length o.signature)) o.signature rest)
    ∙ ap
    (λ n. object format kind len (big_bytes 2 (length (encoded_in format o.body)) ++ (encoded_in format o.body ++ (big_bytes 2 n ++ (o.signature ++ rest)))))
    good.long
    ∙ pieces_back format kind len o rest good

-- ---- what is read is spelled
-- the message was read, and is of the kind
is_message : (kind : Kind) (r : Result Body MsgRefused) (body : Body) → of_kind kind r ≡ Ok body → (r ≡ Ok body) × (is_of kind body ≡ true)
is_message kind (Err refused) body e = absurd (cc)
is_message kind (Ok found) body e = elim (cases_Bool (is_of kind found)) [
  | inr t ↦ absurd (let f = rw t at e in cc)
  | inl t ↦
      let f : Ok found ≡ Ok body = rw t at e in
      let same : found ≡ body = cc in
      (ap Ok same, subst (λ b. is_of kind b ≡ true) same t)
]

is_length : (len : ℕ) (n p : ℕ × List ℕ) → (if n.0 == len then Ok n else Err refusals.Object) ≡ Ok p → (n ≡ p) × (n.0 ≡ len)
is_length len n p e = elim (cases_Bool (n.0 == len)) [
  | inr t ↦ absurd (let f = rw t at e in cc)
  | inl t ↦ (let f : Ok n ≡ Ok p = rw t at e in cc, eqb-true n.0 len t)
]

-- the length was read
record IsLength (len : ℕ) (bytes : List ℕ) (p : ℕ × List ℕ) : Type 0 where
  begins : Begins bytes (big_bytes 2 len) p.1
  fits : len < 65536

length_read : (len : ℕ) (bytes : List ℕ) (p : ℕ × List ℕ) → AreBytes bytes → length_of len bytes ≡ Ok p → IsLength len bytes p
unfolding length_of
length_read len bytes p are e =
    let s = then_ok (number 2 bytes) (λ n. if n.0 == len then Ok n else Err refusals.Object) p e in
    let f = (number_fit 2).read bytes s.0 are s.1 in
    let right = is_length len s.0 p s.2 in
    let here : IsLength len bytes s.0 = record {
      begins = subst (λ n. Begins bytes (big_bytes 2 n) s.0.1) right.1 f.0;
      fits = subst (λ n. n < 65536) right.1 f.1;
    } in
    subst (λ (q : ℕ × List ℕ). IsLength len bytes q) right.0 here

-- the pieces of an object, one after the other
four : (bytes a one b two c three d rest : List ℕ) → Begins bytes a one → Begins one b two → Begins two c three → Begins three d rest
    → Begins bytes (a ++ b ++ c ++ d) rest
four bytes a one b two c three d rest w x y z = joined bytes (a ++ b ++ c) three d rest (joined bytes (a ++ b) two c three (joined bytes a one b two w x) y) z

-- an object was read
record IsRead (format : ℕ) (kind : Kind) (len : ℕ) (bytes : List ℕ) (p : Kept × List ℕ) : Type 0 where
  begins : Begins bytes
      (big_bytes 2 (length (encoded_in format p.0.body)) ++ encoded_in format p.0.body ++ big_bytes 2 (length p.0.signature) ++ p.0.signature) p.1
  good : IsObject format kind len p.0

put_together : (format : ℕ) (kind : Kind) (len size : ℕ) (bytes one two three : List ℕ) (piece_read signature : List ℕ × List ℕ) (body : Body)
    → Begins bytes (big_bytes 2 size) one → IsPiece size one piece_read → read_body_in format piece_read.0 ≡ Ok body → is_of kind body ≡ true
    → Begins piece_read.1 (big_bytes 2 len) three → len < 65536 → IsPiece len three signature
    → IsRead format kind len bytes (record { body = body; signature = signature.0 }, signature.1)
put_together format kind len size bytes one two three found signature body first second read is third fits fourth =
    let message = read_is_encoded format found.0 body second.are_bytes read in
    let body_is : Begins one (encoded_in format body) found.1 = subst (λ bs. Begins one bs found.1) message.0 second.begins in
    let size_is : Begins bytes (big_bytes 2 (length (encoded_in format body))) one =
    subst (λ n. Begins bytes (big_bytes 2 n) one) (sym second.count ∙ ap length message.0) first in
    let len_is : Begins found.1 (big_bytes 2 (length signature.0)) three = subst (λ n. Begins found.1 (big_bytes 2 n) three) (sym fourth.count) third in
    record {
      begins = four bytes (big_bytes 2 (length (encoded_in format body))) one (encoded_in format body) found.1 (big_bytes 2 (length signature.0)) three
          signature.0 signature.1
          size_is body_is len_is fourth.begins;
      good = record { fields = message.1; is = is; long = fourth.count; fits = fits };
    }

same_read : (format : ℕ) (kind : Kind) (len : ℕ) (bytes : List ℕ) (p q : Kept × List ℕ) → p ≡ q → IsRead format kind len bytes p
    → IsRead format kind len bytes q
same_read format kind len bytes p q same is = subst (λ (r : Kept × List ℕ). IsRead format kind len bytes r) same is

object_is_read : (format : ℕ) (kind : Kind) (len : ℕ) (bytes : List ℕ) (p : Kept × List ℕ) → AreBytes bytes → object format kind len bytes ≡ Ok p
    → IsRead format kind len bytes p
unfolding object
object_is_read format kind len bytes p are e =
    let s = then_ok (number 2 bytes) (λ size. piece size.0 size.1 >>= λ spelling. of_kind kind (read_body_in format spelling.0) >>= λ body.
    length_of len spelling.1 >>= λ long. piece len long.1 >>= λ signature. Ok (record { body = body; signature = signature.0 }, signature.1)) p e in
    let t = then_ok (piece s.0.0 s.0.1) (λ spelling. of_kind kind (read_body_in format spelling.0) >>= λ body.
    length_of len spelling.1 >>= λ long. piece len long.1 >>= λ signature. Ok (record { body = body; signature = signature.0 }, signature.1)) p s.2 in
    let u = then_ok (of_kind kind (read_body_in format t.0.0)) (λ body.
    length_of len t.0.1 >>= λ long. piece len long.1 >>= λ signature. Ok (record { body = body; signature = signature.0 }, signature.1)) p t.2 in
    let v = then_ok (length_of len t.0.1) (λ long. piece len long.1 >>= λ signature. Ok (record { body = u.0; signature = signature.0 }, signature.1)) p u.2 in
    let w = then_ok (piece len v.0.1) (λ signature. Ok (record { body = u.0; signature = signature.0 }, signature.1)) p v.2 in
    let first = (number_fit 2).read bytes s.0 are s.1 in
    let second = piece_is_read s.0.0 s.0.1 t.0 first.0.are_bytes t.1 in
    let message = is_message kind (read_body_in format t.0.0) u.0 u.1 in
    let third = length_read len t.0.1 v.0 second.begins.are_bytes v.1 in
    let fourth = piece_is_read len v.0.1 w.0 third.begins.are_bytes w.1 in
    let same : (record { body = u.0; signature = w.0.0 }, w.0.1) ≡ p =
    let h : Ok (record { body = u.0; signature = w.0.0 }, w.0.1) ≡ Ok p = w.2 in cc in
    same_read format kind len bytes (record { body = u.0; signature = w.0.0 }, w.0.1) p same
    (put_together format kind len s.0.0 bytes s.0.1 t.0.1 v.0.1 t.0 w.0 u.0 first.0 second message.0 message.1 third.begins third.fits fourth)

object_read : (format : ℕ) (kind : Kind) (len : ℕ) (bytes : List ℕ) (p : Kept × List ℕ) → AreBytes bytes → object format kind len bytes ≡ Ok p
    → Begins bytes (object_bytes format p.0) p.1 × IsObject format kind len p.0
unfolding object_bytes
object_read format kind len bytes p are e = let r = object_is_read format kind len bytes p are e in (r.begins, r.good)

pub object_fit : (format : ℕ) (kind : Kind) (len : ℕ) → Fit (object format kind len) (object_bytes format) (IsObject format kind len)
object_fit format kind len = record { back = object_back format kind len; read = object_read format kind len }
