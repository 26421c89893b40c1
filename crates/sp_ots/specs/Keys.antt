-- The one-time key pair that a seed gives (RFC 8554, section 4.3 and appendix A).
use Rattle.std.specs.Prelude.{ℕ, List, ◌++◌}
use Rattle.std.specs.List.{concat}
use Rattle.sha2.specs.Sha256.{sha256}
use Rattle.sp_ots.specs.declared.param.OtsParam.{OtsParam}
use Rattle.sp_ots.specs.Parameters.{last_step, for_each_chain}
use Rattle.sp_ots.specs.Strings.{u8str, u16str, u32str}
use Rattle.sp_ots.specs.Chains.{chain_end}

-- the private start of chain i: x[i] (appendix A)
unfoldable pub private_start : List ℕ → ℕ → List ℕ → ℕ → List ℕ
private_start id q seed i = sha256 (id ++ u32str q ++ u16str i ++ u8str 0xff ++ seed)

-- the public key of the ends of all chains: K, after D_PBLC (algorithm 1)
unfoldable pub key_of_ends : List ℕ → ℕ → List (List ℕ) → List ℕ
key_of_ends id q ends = sha256 (id ++ u32str q ++ u16str 0x8080 ++ concat ends)

-- the public key K of a seed: every chain is gone to its end (algorithm 1)
unfoldable pub public_key : OtsParam → List ℕ → ℕ → List ℕ → List ℕ
public_key param id q seed =
    key_of_ends id q (for_each_chain param (λ i. chain_end id q i 0 (last_step param) (private_start id q seed i)))
