-- What it means that a one-time signature is valid (RFC 8554, section 4.6).
use Rattle.std.specs.Prelude.{◌≡◌, ℕ, ◌+◌, ◌*◌, List, length, take, slice_range}
use Rattle.sp_ots.specs.declared.param.OtsParam.{OtsParam}
use Rattle.sp_ots.specs.Parameters.{typecode, signature_len, last_step, for_each_chain}
use Rattle.sp_ots.specs.Strings.{u32str}
use Rattle.sp_ots.specs.Digits.{digit}
use Rattle.sp_ots.specs.Chains.{chain_end}
use Rattle.sp_ots.specs.Keys.{key_of_ends}
use Rattle.sp_ots.specs.Signature.{message_hash}

-- a signature has as many bytes as its parameter set says
abbrev pub HasLength : OtsParam → List ℕ → Type 0
HasLength param signature = length signature ≡ signature_len param

-- a signature begins with the typecode of the parameter set
abbrev pub HasTypecode : OtsParam → List ℕ → Type 0
HasTypecode param signature = take 4 signature ≡ u32str (typecode param)

-- the randomizer of a signature: C (algorithm 4b)
abbrev pub randomizer_of : List ℕ → List ℕ
randomizer_of signature = slice_range signature 4 36

-- the element of chain i in a signature: y[i] (algorithm 4b)
abbrev pub element_of : List ℕ → ℕ → List ℕ
element_of signature i = slice_range signature (36 + 32 * i) (36 + 32 * i + 32)

-- the ends of all chains, each gone on from its digit of the hash, where its element in the signature stands: z[i]
-- (algorithm 4b)
unfoldable pub candidate_ends : OtsParam → List ℕ → ℕ → List ℕ → List ℕ → List (List ℕ)
candidate_ends param id q hash signature =
    for_each_chain param (λ i. chain_end id q i (digit param hash i) (last_step param) (element_of signature i))

-- the key under which the signature is one of the message, if its form is right: Kc (algorithm 4b)
unfoldable pub candidate_key : OtsParam → List ℕ → ℕ → List ℕ → List ℕ → List ℕ
candidate_key param id q message signature =
    key_of_ends id q (candidate_ends param id q (message_hash id q (randomizer_of signature) message) signature)

-- a signature is valid for a message under the public key of leaf q (algorithm 4a)
pub record IsValid (param : OtsParam) (id : List ℕ) (q : ℕ) (key message signature : List ℕ) : Type 0 where
  pub length_is : HasLength param signature
  pub typecode_is : HasTypecode param signature
  pub key_is : key ≡ candidate_key param id q message signature
