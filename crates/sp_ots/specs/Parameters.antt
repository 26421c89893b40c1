-- The parameter sets of LM-OTS with SHA-256 (RFC 8554, section 4.1, table 1). A hash has n = 32 bytes.
use Rattle.std.specs.Prelude.{ℕ, ◌+◌, ◌-◌, ◌*◌, ◌/◌, ◌^◌, List, map}
use Rattle.std.specs.List.{range_with_len}
use Rattle.sp_ots.specs.declared.param.OtsParam.{OtsParam}
use Rattle.sp_ots.specs.declared.param.OtsParam.TheVariants.{W1, W2, W4, W8}

-- the bits of a digit: w
abbrev pub width : OtsParam → ℕ
width W1 = 1
width W2 = 2
width W4 = 4
width W8 = 8

-- how many chains there are: p
abbrev pub chain_count : OtsParam → ℕ
chain_count W1 = 265
chain_count W2 = 133
chain_count W4 = 67
chain_count W8 = 34

-- how far the checksum is moved to the left: ls
abbrev pub checksum_shift : OtsParam → ℕ
checksum_shift W1 = 7
checksum_shift W2 = 6
checksum_shift W4 = 4
checksum_shift W8 = 0

-- the number that stands for the parameter set
abbrev pub typecode : OtsParam → ℕ
typecode W1 = 1
typecode W2 = 2
typecode W4 = 3
typecode W8 = 4

-- the greatest digit, and the step at which every chain ends: 2^w - 1
abbrev pub last_step : OtsParam → ℕ
last_step param = 2 ^ width param - 1

-- how many digits a hash has: 8 n / w
abbrev pub hash_digit_count : OtsParam → ℕ
hash_digit_count param = 8 * 32 / width param

-- the length of a signature in bytes: a typecode, the randomizer and an element of each chain (section 4.5)
abbrev pub signature_len : OtsParam → ℕ
signature_len param = 4 + 32 * (chain_count param + 1)

-- what f gives for the chains 0, 1, .. p - 1
abbrev pub for_each_chain : {X : Type 0} → OtsParam → (ℕ → X) → List X
for_each_chain param f = map f (range_with_len 0 (chain_count param))
