-- What holds of every parameter set.
use Rattle.std.proofs.Common.{ℕ, ◌*◌, ◌<◌, ◌≤◌, arith}
use Rattle.sp_ots.specs.declared.param.OtsParam.{OtsParam}
use Rattle.sp_ots.specs.declared.param.OtsParam.TheVariants.{W1, W2, W4, W8}
use Rattle.sp_ots.specs.Parameters.{width, chain_count}

-- a hash and its checksum have a digit for each chain
pub digit_within : (param : OtsParam) (i : ℕ) → i < chain_count param → i * width param < 272
digit_within W1 i within = omega arith
digit_within W2 i within = omega arith
digit_within W4 i within = omega arith
digit_within W8 i within = omega arith

-- no parameter set has more than 265 chains
pub few_chains : (param : OtsParam) → chain_count param ≤ 265
few_chains W1 = omega arith
few_chains W2 = omega arith
few_chains W4 = omega arith
few_chains W8 = omega arith
