-- The number whose bits are the edges of a mask.
use Rattle.std.specs.Prelude.{ℕ, ◌+◌, ◌*◌, ◌/◌, ◌%◌, ◌^◌}
use Rattle.sp_msg.specs.declared.mask.Mask.{Mask}

-- one more than the greatest value of a half
abbrev pub HALF : ℕ
HALF = 2 ^ 128

-- the number of a high and a low half
abbrev pub of_halves : ℕ → ℕ → ℕ
of_halves high low = high * HALF + low

-- the number of a mask's two halves
abbrev pub bits : Mask → ℕ
bits mask = of_halves mask.high mask.low

-- the mask of the edges that are the bits of a number
abbrev pub mask_from : ℕ → Mask
mask_from n = record { low = n % HALF; high = n / HALF }
