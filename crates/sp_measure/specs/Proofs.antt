-- What proves that probes were received. Each has a nonce that the two ends of its link alone can make, and the proof of probes 1 to n has all their
-- nonces, in their order: nobody makes it who lacks one of them.
--
--     nonce of probe n            the first 8 bytes of the tag, under the link's key, of "probe" | sender 1 | its boot 8 | n 8
--     proof of no probe           32 zeros
--     proof of probes 1 to n      the digest of: the proof of 1 to n - 1 | the nonce of n
use Rattle.std.specs.Prelude.{ℕ, Bool, List, [], ◌∷◌, ◌++◌, codes, fold, map, nat_eq, replicate, take}
use Rattle.std.specs.Cmp.Lexicographic.{pointwise}
use Rattle.std.specs.Int.{w64, to_be_bytes}
use Rattle.std.specs.List.{range_with_len}
use Rattle.sp_base.specs.declared.id.NodeId.{NodeId}

-- what proofs are made with: the tag of bytes under a key, and the digest of bytes
pub record Hashes : Type 0 where
  pub tag : List ℕ → List ℕ → List ℕ
  pub hash : List ℕ → List ℕ

-- who sends the probes: a node in its life of this boot, over the link of this key
pub record Sender : Type 0 where
  pub key : List ℕ
  pub me : NodeId
  pub boot : ℕ

-- what names a probe among all over its link: its sender, the sender's boot, and its number
unfoldable pub name_of : NodeId → (boot number : ℕ) → List ℕ
name_of me boot number = me.0 ∷ [] ++ to_be_bytes w64 boot ++ to_be_bytes w64 number

-- the nonce of a sender's probe of this number
abbrev pub nonce : Hashes → Sender → ℕ → List ℕ
nonce h s n = take 8 (h.tag s.key (codes "probe" ++ name_of s.me s.boot n))

-- the nonces of a sender's probes 1 to n
abbrev pub nonces : Hashes → Sender → ℕ → List (List ℕ)
nonces h s n = map (nonce h s) (range_with_len 1 n)

-- a proof with one nonce more
abbrev pub with_nonce : Hashes → List ℕ → List ℕ → List ℕ
with_nonce h proof nonce = h.hash (proof ++ nonce)

-- the proof of these nonces, in their order
abbrev pub proof_of : Hashes → List (List ℕ) → List ℕ
proof_of h nonces = fold (with_nonce h) (replicate 32 0) nonces

-- whether this is the proof of a sender's probes 1 to n
abbrev pub is_proof : Hashes → Sender → ℕ → List ℕ → Bool
is_proof h s n proof = pointwise nat_eq proof (proof_of h (nonces h s n))
