-- The one-time signature of a message (RFC 8554, section 4.5).
use Rattle.std.specs.Prelude.{ℕ, List, ◌++◌}
use Rattle.std.specs.List.{concat}
use Rattle.sha2.specs.Sha256.{sha256}
use Rattle.sp_ots.specs.declared.param.OtsParam.{OtsParam}
use Rattle.sp_ots.specs.Parameters.{typecode, for_each_chain}
use Rattle.sp_ots.specs.Strings.{u8str, u16str, u32str}
use Rattle.sp_ots.specs.Digits.{digit}
use Rattle.sp_ots.specs.Chains.{chain_end}
use Rattle.sp_ots.specs.Keys.{private_start}

-- the hash of a message after its randomizer C: Q, after D_MESG (algorithm 3)
unfoldable pub message_hash : List ℕ → ℕ → List ℕ → List ℕ → List ℕ
message_hash id q randomizer message = sha256 (id ++ u32str q ++ u16str 0x8181 ++ randomizer ++ message)

-- the randomizer C that a seed gives: made as a private start is, for the number fffd, which no chain has
unfoldable pub randomizer : List ℕ → ℕ → List ℕ → List ℕ
randomizer id q seed = sha256 (id ++ u32str q ++ u16str 0xfffd ++ u8str 0xff ++ seed)

-- the elements of a signature: every chain is gone to its digit of the hash (algorithm 3)
unfoldable pub signed_elements : OtsParam → List ℕ → ℕ → List ℕ → List ℕ → List (List ℕ)
signed_elements param id q seed hash =
    for_each_chain param (λ i. chain_end id q i 0 (digit param hash i) (private_start id q seed i))

-- the signature: its typecode, the randomizer and the elements (algorithm 3)
unfoldable pub signature : OtsParam → List ℕ → ℕ → List ℕ → List ℕ → List ℕ
signature param id q seed message =
    u32str (typecode param) ++ randomizer id q seed
    ++ concat (signed_elements param id q seed (message_hash id q (randomizer id q seed) message))
