-- What stands in a key's block once the key, or its digest, is written over the front of 64 zeros.
use Rattle.std.proofs.Common.{◌≡◌, ℕ, ◌-◌, ◌<◌, ◌≤◌, List, ◌++◌, length, drop, replicate, true, false, nat_le, refl, sym, ◌∙◌, ap, arith}
use Rattle.std.proofs.lemmas.List.{drop-replicate}
use Rattle.std.proofs.lemmas.Bool.Decides.{nat_tests}
use Rattle.sha2.specs.Sha256.{sha256}
use Rattle.sha2.proofs.Facts256.{length-sha256}
use Rattle.sp_hmac.specs.Hmac.{short_key, key_block}

-- the key, no longer than a block, over the zeros
written : (key front : List ℕ) (n : ℕ) → front ≡ short_key key → n ≡ length front → front ++ drop n (replicate 64 0) ≡ key_block key
unfolding key_block
written key front n short e =
    ap (λ (zeros : List ℕ). front ++ zeros) (drop-replicate n 64 0 ∙ ap (λ (k : ℕ). replicate (64 - k) 0) e)
    ∙ ap (λ (bytes : List ℕ). bytes ++ replicate (64 - length bytes) 0) short

-- a key that fits is written as it is
pub block_of_short : (key front : List ℕ) → length key ≤ 64 → front ≡ key → front ++ drop (length key) (replicate 64 0) ≡ key_block key
block_of_short key front fits e =
    let test : nat_le (length key) 64 ≡ true = grind (arith, nat_tests) in
    written key front (length key) (e ∙ rw test refl) (ap length (sym e))

-- of a longer key the digest is written
pub block_of_long : (key front : List ℕ) → 64 < length key → front ≡ sha256 key → front ++ drop 32 (replicate 64 0) ≡ key_block key
block_of_long key front long e =
    let test : nat_le (length key) 64 ≡ false = grind (arith, nat_tests) in
    written key front 32 (e ∙ rw test refl) (sym (length-sha256 key) ∙ ap length (sym e))
