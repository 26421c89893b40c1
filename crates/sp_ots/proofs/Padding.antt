-- The padding of a message. A message of 55 bytes and its padding are one block.
use Rattle.std.proofs.Common.{◌≡◌, ℕ, suc, ◌+◌, ◌-◌, ◌*◌, ◌/◌, ◌%◌, ◌^◌, ◌≤◌, List, [], ◌∷◌, ◌++◌, length, take, drop, replicate, ap, ◌∙◌, arith}
use borrow.Rule.Slice.PartMut.{put_mid}
use Rattle.std.proofs.lemmas.List.{append-nil, drop_at, length-append, length-replicate, take-replicate, take_all, take_at}
use Rattle.std.specs.Int.{w64, to_be_bytes}
use Rattle.std.proofs.lemmas.Slice.{take-put_mid}
use Rattle.sha2.specs.Sha256.{compress, digest_bytes, hash_after, initial_hash_256, padded_message, padding, sha256}
use Rattle.sp_ots.specs.Blocks.{block_digest}

pub padded_55 : (m : List ℕ) → length m ≡ 55 → padded_message m ≡ m ++ padding 55
padded_55 m long = ap (λ (n : ℕ). m ++ padding n) long

pub sha256_of_55 : (m : List ℕ) → length m ≡ 55 → sha256 m ≡ block_digest (m ++ padding 55)
unfolding sha256 hash_after
sha256_of_55 m long =
    let pad = padded_55 m long in
    let count : length (m ++ padding 55) ≡ 64 = length-append m (padding 55) ∙ ap (λ (n : ℕ). n + 9) long in
    let blocks : length (m ++ padding 55) / 64 ≡ 1 = ap (λ (n : ℕ). n / 64) count in
    ap (λ (p : List ℕ). digest_bytes (hash_after initial_hash_256 p (length p / 64)) 8) pad
    ∙ ap (λ (n : ℕ). digest_bytes (hash_after initial_hash_256 (m ++ padding 55) n) 8) blocks
    ∙ ap (λ (p : List ℕ). digest_bytes (compress initial_hash_256 p) 8) (take_all 64 (m ++ padding 55) (omega (arith, count)))

-- nine bytes that are written after a message
pub padding_behind : (m tail : List ℕ) → length m ≡ 55 → put_mid 55 9 (m ++ replicate 9 0) tail ≡ m ++ tail
padding_behind m tail long =
    let front : take 55 (m ++ replicate 9 0) ≡ m = take_at m (replicate 9 0) 55 long in
    let none : drop 9 (drop 55 (m ++ replicate 9 0)) ≡ [] = ap (drop 9) (drop_at m (replicate 9 0) 55 long) in
    rw (front, none) (ap (λ (xs : List ℕ). m ++ xs) (append-nil tail))

pub length_of_padding : (n : ℕ) → length (padding n) ≡ (119 - n % 64) % 64 + 9
length_of_padding n =
    let zeros : ℕ = (119 - n % 64) % 64 in
    ap suc (length-append (replicate zeros 0) (to_be_bytes w64 (n * 8 % 2 ^ 64)) ∙ ap (λ (k : ℕ). k + 8) (length-replicate zeros 0)) ∙ omega arith

-- the padding of a message of n bytes, where its number of bits is written before its end
pub padding_laid : (n end : ℕ) (number : List ℕ) → end ≡ length (padding n) → number ≡ to_be_bytes w64 (n * 8 % 2 ^ 64)
    → take (length (padding n)) (put_mid (end - 8) (end - (end - 8)) (0x80 ∷ replicate 71 0) number) ≡ padding n
padding_laid n end number end_is is =
    let zeros : ℕ = (119 - n % 64) % 64 in
    let few : zeros ≤ 63 = omega arith in
    let long : length (padding n) ≡ zeros + 9 = length_of_padding n in
    let place : end - 8 ≡ suc zeros = omega (arith, end_is, long) in
    let size : length number ≡ 8 = ap length is in
    let room : List ℕ = 0x80 ∷ replicate 71 0 in
    let laid : List ℕ = 0x80 ∷ replicate zeros 0 in
    let front : take (end - 8) room ≡ laid =
    ap (λ (k : ℕ). take k room) place ∙ ap (λ (xs : List ℕ). 0x80 ∷ xs) (take-replicate zeros 71 0 (omega arith)) in
    let written : take (length (padding n)) (put_mid (end - 8) (end - (end - 8)) room number) ≡ take (end - 8) room ++ number =
    take-put_mid (end - 8) (end - (end - 8)) room number (length (padding n)) (omega (arith, end_is, long, size)) (omega (arith, end_is, long)) in
    written ∙ (λ i. front i ++ is i)
