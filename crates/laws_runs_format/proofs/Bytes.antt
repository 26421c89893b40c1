-- Strings of bytes: what they are made of, and what is made of them.
use Rattle.std.proofs.Common.{◌<◌, ℕ, zero, suc, List, [], ◌∷◌, ◌++◌}
use Rattle.std.specs.List.{All, concat, slice_index}
use Rattle.std.proofs.lemmas.List.Elements.{All-append, All-cons, All-head, All-nil, All-tail}
use Rattle.sha2.specs.Sha256.{digest_bytes, final_hash, initial_hash_256, sha256}
use Rattle.byteorder.specs.Endian.{big_bytes}
use Rattle.sp_base.proofs.NumberLemmas.{AreBytes-big_bytes}
use Rattle.sp_base.specs.Spelling.{AreBytes}
use Rattle.sp_hmac.specs.Hmac.{block_hmac, hmac}
use Rattle.sp_ots.specs.Strings.{u32str}

pub none : AreBytes []
none = All-nil (λ (b : ℕ). b < 256)

pub joined : (xs ys : List ℕ) → AreBytes xs → AreBytes ys → AreBytes (xs ++ ys)
joined xs ys one two = All-append (λ (b : ℕ). b < 256) xs ys one two

pub one_first : (x : ℕ) (xs : List ℕ) → x < 256 → AreBytes xs → AreBytes (x ∷ xs)
one_first x xs small are = All-cons (λ (b : ℕ). b < 256) x xs small are

pub left : (xs ys : List ℕ) → AreBytes (xs ++ ys) → AreBytes xs
left [] ys are = none
left (x ∷ xs) ys are = one_first x xs (All-head (λ (b : ℕ). b < 256) x (xs ++ ys) are) (left xs ys (All-tail (λ (b : ℕ). b < 256) x (xs ++ ys) are))

pub right : (xs ys : List ℕ) → AreBytes (xs ++ ys) → AreBytes ys
right [] ys are = are
right (x ∷ xs) ys are = right xs ys (All-tail (λ (b : ℕ). b < 256) x (xs ++ ys) are)

pub joined3 : (a b c : List ℕ) → AreBytes a → AreBytes b → AreBytes c → AreBytes (a ++ b ++ c)
joined3 a b c x y z = joined (a ++ b) c (joined a b x y) z

pub joined4 : (a b c d : List ℕ) → AreBytes a → AreBytes b → AreBytes c → AreBytes d → AreBytes (a ++ b ++ c ++ d)
joined4 a b c d x y z w = joined (a ++ b ++ c) d (joined3 a b c x y z) w

pub parts3 : (a b c : List ℕ) → AreBytes (a ++ b ++ c) → AreBytes a × AreBytes b × AreBytes c
parts3 a b c are = let front = left (a ++ b) c are in (left a b front, right a b front, right (a ++ b) c are)

pub parts4 : (a b c d : List ℕ) → AreBytes (a ++ b ++ c ++ d) → AreBytes a × AreBytes b × AreBytes c × AreBytes d
parts4 a b c d are = let front = parts3 a b c (left (a ++ b ++ c) d are) in (front.0, front.1, front.2, right (a ++ b ++ c) d are)

pub of_number : (n x : ℕ) → AreBytes (big_bytes n x)
of_number n x = AreBytes-big_bytes n x

-- strings of bytes, one after the other
pub all_joined : (xss : List (List ℕ)) → All AreBytes xss → AreBytes (concat xss)
all_joined [] all = none
all_joined (xs ∷ xss) all = joined xs (concat xss) (All-head AreBytes xs xss all) (all_joined xss (All-tail AreBytes xs xss all))

-- ---- hashes

digest_are : (h : List ℕ) (n : ℕ) → AreBytes (digest_bytes h n)
unfolding digest_bytes
digest_are h zero = none
digest_are h (suc n) = joined (digest_bytes h n) (big_bytes 4 (slice_index h n)) (digest_are h n) (of_number 4 (slice_index h n))

pub of_hash : (m : List ℕ) → AreBytes (sha256 m)
unfolding sha256
of_hash m = digest_are (final_hash initial_hash_256 m) 8

pub of_tag : (key m : List ℕ) → AreBytes (hmac key m)
unfolding block_hmac
of_tag key m = of_hash _

pub of_word : (x : ℕ) → AreBytes (u32str x)
unfolding u32str
of_word x = of_number 4 x
