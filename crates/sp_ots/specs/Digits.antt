-- The digits of a hash and of its checksum, which say how far each chain goes (RFC 8554, section 4.4).
use Rattle.std.specs.Prelude.{ℕ, ◌-◌, ◌*◌, ◌%◌, ◌^◌, List, ◌++◌, map, sum}
use Rattle.std.specs.List.{range_with_len}
use Rattle.sp_ots.specs.declared.param.OtsParam.{OtsParam}
use Rattle.sp_ots.specs.Parameters.{width, checksum_shift, last_step, hash_digit_count}
use Rattle.sp_ots.specs.Strings.{coef, u16str}

-- how far the digits of a hash are from the greatest, all together
abbrev pub distance : OtsParam → List ℕ → ℕ
distance param hash =
    sum (map (λ i. last_step param - coef hash i (width param)) (range_with_len 0 (hash_digit_count param)))

-- the checksum, a number of 16 bits: Cksm (algorithm 2)
unfoldable pub checksum : OtsParam → List ℕ → ℕ
checksum param hash = distance param hash * 2 ^ checksum_shift param % 2 ^ 16

-- the digit of chain i: of the hash followed by its checksum (algorithm 3 of section 4.5)
unfoldable pub digit : OtsParam → List ℕ → ℕ → ℕ
digit param hash i = coef (hash ++ u16str (checksum param hash)) i (width param)
