-- A string of four parts that is written part by part, each after the one before.
use Rattle.std.proofs.Common.{◌≡◌, ℕ, ◌+◌, ◌-◌, ◌≤◌, List, ◌++◌, length, drop, ◌∙◌, ap, arith}
use borrow.Rule.Slice.PartMut.{put_mid}
use Rattle.std.proofs.lemmas.List.{length-append, length-drop}
use Rattle.sp_ots.proofs.Written.{put_next, last_written}

-- three parts, and what is left of what stood there
three_written : (a b c out : List ℕ) (i j m n : ℕ) → length a ≡ i → i + length b ≡ j
    → put_mid j n (put_mid i m (a ++ drop i out) b) c ≡ a ++ b ++ c ++ drop n (drop m (drop i out))
three_written a b c out i j m n la lb =
    let two : length (a ++ b) ≡ j = length-append a b ∙ omega arith in
    ap (λ (xs : List ℕ). put_mid j n xs c) (put_next a b (drop i out) i m la) ∙ put_next (a ++ b) c (drop m (drop i out)) j n two

long_three : (a b c : List ℕ) (i j k : ℕ) → length a ≡ i → i + length b ≡ j → j + length c ≡ k → length (a ++ b ++ c) ≡ k
long_three a b c i j k la lb lc = omega (arith, length-append (a ++ b) c, length-append a b)

-- four parts, over the bytes from i, j and k on
pub four_written : (a b c d out : List ℕ) (i j k m n o : ℕ) → length a ≡ i → i + length b ≡ j → j + length c ≡ k
    → length out ≤ i + m + n + o
    → put_mid k o (put_mid j n (put_mid i m (a ++ drop i out) b) c) d ≡ a ++ b ++ c ++ d
four_written a b c d out i j k m n o la lb lc covered =
    let rest = drop n (drop m (drop i out)) in
    ap (λ (xs : List ℕ). put_mid k o xs d) (three_written a b c out i j m n la lb)
    ∙ last_written (a ++ b ++ c) d rest k o (long_three a b c i j k la lb lc)
    (omega (arith, length-drop n (drop m (drop i out)), length-drop m (drop i out), length-drop i out))

-- four parts, the last to the end
pub four_written_to_end : (a b c d out : List ℕ) (i j k m n : ℕ) → length a ≡ i → i + length b ≡ j → j + length c ≡ k
    → (let three = put_mid j n (put_mid i m (a ++ drop i out) b) c in put_mid k (length three - k) three d ≡ a ++ b ++ c ++ d)
four_written_to_end a b c d out i j k m n la lb lc =
    let rest = drop n (drop m (drop i out)) in
    let long = long_three a b c i j k la lb lc in
    ap (λ (xs : List ℕ). put_mid k (length xs - k) xs d) (three_written a b c out i j m n la lb)
    ∙ last_written (a ++ b ++ c) d rest k (length (a ++ b ++ c ++ rest) - k) long (omega (arith, length-append (a ++ b ++ c) rest, long))
