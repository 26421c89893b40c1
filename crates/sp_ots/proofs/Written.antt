-- A string that is written part by part, each after the one before.
use Rattle.std.proofs.Common.{◌≡◌, ℕ, ◌+◌, ◌-◌, ◌≤◌, List, [], ◌++◌, length, take, drop, sym, ◌∙◌, ap, arith}
use borrow.Rule.Slice.PartMut.{put_mid}
use Rattle.std.proofs.lemmas.List.{append-nil, append_assoc, take_at, drop_at, drop_all, length-append}

-- one more part, over n bytes of what stood there
pub put_next : (front part rest : List ℕ) (i n : ℕ) → length front ≡ i → put_mid i n (front ++ rest) part ≡ front ++ part ++ drop n rest
put_next front part rest i n at =
    let kept : take i (front ++ rest) ≡ front = take_at front rest i at in
    let left : drop i (front ++ rest) ≡ rest = drop_at front rest i at in
    rw (kept, left) (sym (append_assoc front part (drop n rest)))

-- a last part, over all that is left
pub last_written : (front part rest : List ℕ) (i n : ℕ) → length front ≡ i → length rest ≤ n → put_mid i n (front ++ rest) part ≡ front ++ part
last_written front part rest i n at all =
    let none : drop n rest ≡ [] = drop_all n rest all in
    put_next front part rest i n at ∙ ap (λ (xs : List ℕ). front ++ part ++ xs) none ∙ append-nil (front ++ part)

-- three parts, the last to the end
pub three_written_to_end : (a b c out : List ℕ) (i j m : ℕ) → length a ≡ i → i + length b ≡ j
    → (let two = put_mid i m (a ++ drop i out) b in put_mid j (length two - j) two c ≡ a ++ b ++ c)
three_written_to_end a b c out i j m la lb =
    let rest = drop m (drop i out) in
    let long : length (a ++ b) ≡ j = length-append a b ∙ omega arith in
    ap (λ (xs : List ℕ). put_mid j (length xs - j) xs c) (put_next a b (drop i out) i m la)
    ∙ last_written (a ++ b) c rest j (length (a ++ b ++ rest) - j) long (omega (arith, length-append (a ++ b) rest, long))
