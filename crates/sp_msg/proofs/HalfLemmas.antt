-- The bits of a mask are those of its halves.
use Rattle.std.proofs.Common.{◌≡◌, ℕ, ◌+◌, ◌-◌, ◌*◌, ◌/◌, ◌%◌, ◌^◌, ◌<◌, ◌≤◌, ◌==◌, sym, ap, ◌∙◌, arith}
use Rattle.std.specs.Int.RustNames.{bit_or}
use Rattle.std.proofs.Math.Nat.{add-mul-div_left, add-mul-mod_self_right, div-div-eq-div-mul}
use Rattle.std.proofs.lemmas.Nat.{div-add-mod', div-mul-add, mod-mul-add, or_mod, one_shl, or_shr, pow-add, pow_pos}
use Rattle.sp_msg.specs.Masks.{HALF, bits, mask_from, of_halves}
use Rattle.sp_msg.specs.declared.mask.Mask.{Mask}
use Rattle.sp_msg.specs.Views.{names_edge}

-- a half is twice the power that lifts a place below 128
lifted : (place : ℕ) → place < 128 → HALF ≡ 2 ^ place * (2 ^ (127 - place) * 2)
lifted place small =
    let parts : 128 ≡ place + ((127 - place) + 1) = omega (arith, small) in
    ap (λ n. 2 ^ n) parts ∙ pow-add 2 place ((127 - place) + 1) ∙ ap (λ n. 2 ^ place * n) (pow-add 2 (127 - place) 1)

pub low_bit : (high low place : ℕ) → place < 128 → names_edge (of_halves high low) place ≡ names_edge low place
low_bit high low place small =
    let up : ℕ = 2 ^ (127 - place) in
    let moved : of_halves high low ≡ low + 2 ^ place * (high * up * 2) =
    ap (λ n. high * n + low) (lifted place small) ∙ grind arith in
    let shifted : of_halves high low / 2 ^ place ≡ low / 2 ^ place + high * up * 2 =
    ap (λ n. n / 2 ^ place) moved ∙ add-mul-div_left low (high * up * 2) (pow_pos place) in
    ap (λ n. n % 2 == 1) shifted ∙ ap (λ n. n == 1) (add-mul-mod_self_right (low / 2 ^ place) (high * up) 2)

pub high_bit : (high low place : ℕ) → low < HALF → 128 ≤ place → names_edge (of_halves high low) place ≡ names_edge high (place - 128)
high_bit high low place small far =
    let parts : place ≡ 128 + (place - 128) = omega (arith, far) in
    let power : 2 ^ place ≡ HALF * 2 ^ (place - 128) = ap (λ n. 2 ^ n) parts ∙ pow-add 2 128 (place - 128) in
    let shifted : of_halves high low / 2 ^ place ≡ high / 2 ^ (place - 128) =
    ap (λ n. of_halves high low / n) power
    ∙ sym (div-div-eq-div-mul (of_halves high low) HALF (2 ^ (place - 128)))
    ∙ ap (λ n. n / 2 ^ (place - 128)) (div-mul-add high HALF low small) in
    ap (λ n. n % 2 == 1) shifted

-- the bits of either number are the bits of either half
pub or_halves : (g h k l : ℕ) → k < HALF → l < HALF → of_halves (bit_or g h) (bit_or k l) ≡ bit_or (of_halves g k) (of_halves h l)
or_halves g h k l one two =
    let both : ℕ = bit_or (of_halves g k) (of_halves h l) in
    let high : both / HALF ≡ bit_or g h =
    or_shr (of_halves g k) (of_halves h l) 128 ∙ ap (λ n. bit_or n (of_halves h l / HALF)) (div-mul-add g HALF k one)
    ∙ ap (bit_or g) (div-mul-add h HALF l two) in
    let low : both % HALF ≡ bit_or k l =
    or_mod (of_halves g k) (of_halves h l) 128 ∙ ap (λ n. bit_or n (of_halves h l % HALF)) (mod-mul-add g HALF k one)
    ∙ ap (bit_or k) (mod-mul-add h HALF l two) in
    sym (ap (λ n. of_halves n (bit_or k l)) high) ∙ sym (ap (of_halves (both / HALF)) low) ∙ div-add-mod' both HALF

-- the bit of a place from 128 on, as a high half
pub high_power : (place : ℕ) → place < 256 → 128 ≤ place → of_halves (1 * 2 ^ (place - 128) % HALF) 0 ≡ 2 ^ place
high_power place small far =
    let parts : (place - 128) + 128 ≡ place = omega (arith, far) in
    let whole : 2 ^ (place - 128) * HALF ≡ 2 ^ place = sym (pow-add 2 (place - 128) 128) ∙ ap (λ n. 2 ^ n) parts in
    let fits : 1 * 2 ^ (place - 128) % HALF ≡ 2 ^ (place - 128) = one_shl (place - 128) 128 (omega (arith, small)) in
    ap (λ n. of_halves n 0) fits ∙ (let none : 2 ^ (place - 128) * HALF + 0 ≡ 2 ^ (place - 128) * HALF = omega arith in none) ∙ whole

-- ---- a number and its mask

-- the bits of a number's mask are the number's
pub bits_from : (n : ℕ) → bits (mask_from n) ≡ n
bits_from n = div-add-mod' n HALF

-- the mask of two halves
abbrev pub of_two : ℕ → ℕ → Mask
of_two high low = record { low = low; high = high }

-- the mask of a mask's bits is the mask, where its low half is one
pub mask_back : (high low : ℕ) → low < HALF → mask_from (of_halves high low) ≡ of_two high low
mask_back high low small =
    ap (of_two (of_halves high low / HALF)) (mod-mul-add high HALF low small) ∙ ap (λ n. of_two n low) (div-mul-add high HALF low small)

-- a number that has room in the low half
pub low_alone : (n : ℕ) → n < HALF → mask_from n ≡ of_two 0 n
low_alone n small = let whole : 0 * HALF + n ≡ n = omega arith in ap mask_from (sym whole) ∙ mask_back 0 n small
