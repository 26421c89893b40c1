-- The digests of messages, from the hash values after all their blocks.
use Rattle.std.proofs.Common.{◌≡◌, ℕ, suc, ◌+◌, ◌/◌, ◌≤◌, List, [], ◌∷◌, All, length, map, take, refl, sym, ap, ◌∙◌, arith, length-append}
use Rattle.std.proofs.lemmas.List.{length-take-le}
use Rattle.sha2.specs.Sha256.{compress, digest_bytes, hash_after, initial_hash_256, padded_message, padding, sha256}
use Rattle.sha2.proofs.Absorbing256.{hash_after_next}
use Rattle.sp_ots.specs.Lanes.{columns}
use Rattle.sp_ots.specs.Blocks.{block_at}

-- the hash values after one more block
pub hash_more : (ms : List (List ℕ)) (len n : ℕ)
    → columns (λ m. compress (hash_after initial_hash_256 (padded_message (take len m)) n) (block_at (take len m) n)) ms
    ≡ columns (λ m. hash_after initial_hash_256 (padded_message (take len m)) (n + 1)) ms
hash_more ms len n = ap (λ (f : List ℕ → List ℕ). columns f ms) (λ i m. sym (hash_after_next initial_hash_256 (padded_message (take len m)) n) i)

-- the hash value after all blocks is that of the digest
pub digest_of_hash : (m : List ℕ) (len count : ℕ) → len ≤ length m → count ≡ (len + length (padding len)) / 64
    → digest_bytes (hash_after initial_hash_256 (padded_message (take len m)) count) 8 ≡ sha256 (take len m)
unfolding sha256
digest_of_hash m len count long is =
    let whole : length (take len m) ≡ len = length-take-le len m long in
    let size : length (padded_message (take len m)) ≡ len + length (padding len) =
    length-append (take len m) (padding (length (take len m))) ∙ (λ i. whole i + length (padding (whole i))) in
    ap (λ (n : ℕ). digest_bytes (hash_after initial_hash_256 (padded_message (take len m)) n) 8) (is ∙ ap (λ (n : ℕ). n / 64) (sym size))

pub digests_of_all : (ms : List (List ℕ)) (len count : ℕ) → All (λ m. len ≤ length m) ms → count ≡ (len + length (padding len)) / 64
    → map (λ m. digest_bytes (hash_after initial_hash_256 (padded_message (take len m)) count) 8) ms ≡ map (λ m. sha256 (take len m)) ms
digests_of_all [] len count long is = refl
digests_of_all (m ∷ ms) len count long is =
    λ i. digest_of_hash m len count (long 0 m (omega arith)) is i ∷ digests_of_all ms len count (λ k d lt. long (suc k) d (omega (arith, lt))) is i
