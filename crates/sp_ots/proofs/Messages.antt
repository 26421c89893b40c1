-- What a message holds whose parts are written one after the other.
use Rattle.std.proofs.Common.{◌≡◌, ℕ, ◌+◌, List, [], ◌∷◌, ◌++◌, length, take, drop, replicate, refl, sym, ◌∙◌, ap, arith}
use borrow.Rule.Slice.PartMut.{put_mid}
use Rattle.std.proofs.lemmas.List.{append-nil, take_at, drop-drop, drop_at, length-append}

-- one more part, of n bytes, after those that stand
put_behind : (was front rest part now : List ℕ) (place n : ℕ) → was ≡ front ++ rest → length front ≡ place → length part ≡ n
    → now ≡ take place was ++ part ++ drop (place + length part) was
    → now ≡ (front ++ part) ++ drop n rest
put_behind was front rest part now place n stands at long put =
    let kept : take place was ≡ front = ap (take place) stands ∙ take_at front rest place at in
    let left : drop (place + length part) was ≡ drop n rest =
    ap (λ (k : ℕ). drop (place + k) was) long ∙ sym (drop-drop n place was) ∙ ap (λ (xs : List ℕ). drop n (drop place xs)) stands
    ∙ ap (drop n) (drop_at front rest place at) in
    put ∙ rw (kept, left) refl

-- the five parts of the message of an element
pub laid_out : (id leaf chain step element m1 m2 m3 m4 m5 : List ℕ) → length id ≡ 16 → length leaf ≡ 4 → length chain ≡ 2 → length step ≡ 1
    → length element ≡ 32
    → m1 ≡ take 0 (replicate 55 0) ++ id ++ drop (0 + length id) (replicate 55 0)
    → m2 ≡ take 16 m1 ++ leaf ++ drop (16 + length leaf) m1
    → m3 ≡ take 20 m2 ++ chain ++ drop (20 + length chain) m2
    → m4 ≡ take 22 m3 ++ step ++ drop (22 + length step) m3
    → m5 ≡ take 23 m4 ++ element ++ drop (23 + length element) m4
    → m5 ≡ id ++ leaf ++ chain ++ step ++ element
laid_out id leaf chain step element m1 m2 m3 m4 m5 l1 l2 l3 l4 l5 e1 e2 e3 e4 e5 =
    let two = id ++ leaf in
    let three = two ++ chain in
    let four = three ++ step in
    let long2 : length two ≡ 20 = length-append id leaf ∙ omega arith in
    let long3 : length three ≡ 22 = length-append two chain ∙ omega arith in
    let long4 : length four ≡ 23 = length-append three step ∙ omega arith in
    let f1 : m1 ≡ id ++ replicate 39 0 = put_behind (replicate 55 0) [] (replicate 55 0) id m1 0 16 refl refl l1 e1 in
    let f2 : m2 ≡ two ++ replicate 35 0 = put_behind m1 id (replicate 39 0) leaf m2 16 4 f1 l1 l2 e2 in
    let f3 : m3 ≡ three ++ replicate 33 0 = put_behind m2 two (replicate 35 0) chain m3 20 2 f2 long2 l3 e3 in
    let f4 : m4 ≡ four ++ replicate 32 0 = put_behind m3 three (replicate 33 0) step m4 22 1 f3 long3 l4 e4 in
    let f5 : m5 ≡ four ++ element ++ [] = put_behind m4 four (replicate 32 0) element m5 23 32 f4 long4 l5 e5 in
    f5 ∙ append-nil (four ++ element)

-- a checksum of two bytes, written over two zeros after a hash
pub checksum_behind : (hash checksum : List ℕ) → length hash ≡ 32 → put_mid 32 2 (hash ++ 0 ∷ 0 ∷ []) checksum ≡ hash ++ checksum
checksum_behind hash checksum long =
    let front : take 32 (hash ++ 0 ∷ 0 ∷ []) ≡ hash = take_at hash (0 ∷ 0 ∷ []) 32 long in
    let zeros : drop 32 (hash ++ 0 ∷ 0 ∷ []) ≡ 0 ∷ 0 ∷ [] = drop_at hash (0 ∷ 0 ∷ []) 32 long in
    rw (front, zeros) (ap (λ (xs : List ℕ). hash ++ xs) (append-nil checksum))
