-- Functions on words that agree on all words of 32 bits agree on each lane.
use Rattle.std.proofs.Common.{◌≡◌, ℕ, ◌<◌, ◌^◌, List, [], ◌∷◌, map, Fits, w32, bit_xor, refl, sym, ap, ◌∙◌, arith}
use Rattle.std.specs.Simd.Lanes.{Each1}
use Rattle.std.specs.Int.{rotate_right}
use Rattle.std.proofs.lemmas.List.{map-id}
use Rattle.std.proofs.lemmas.Simd.{map-map, zip2_of_maps}
use lib.Lanes.{zip2}

pub on_each_lane : (f g : ℕ → ℕ) (xs : List ℕ) → ((n : ℕ) → n < 2 ^ 32 → f n ≡ g n) → Each1 (Fits w32) xs → map f xs ≡ map g xs
on_each_lane f g [] same fit = refl
on_each_lane f g (x ∷ xs) same fit = rw (same x (omega (arith, fit.0)), on_each_lane f g xs same fit.1) refl

-- the same of three words of each block
pub on_each_block : (p q : ℕ → ℕ → ℕ → ℕ) (bs : List (List ℕ)) (f g h : List ℕ → ℕ)
    → ((x y z : ℕ) → x < 2 ^ 32 → y < 2 ^ 32 → z < 2 ^ 32 → p x y z ≡ q x y z)
    → Each1 (Fits w32) (map f bs) → Each1 (Fits w32) (map g bs) → Each1 (Fits w32) (map h bs)
    → map (λ b. p (f b) (g b) (h b)) bs ≡ map (λ b. q (f b) (g b) (h b)) bs
on_each_block p q [] f g h same ff fg fh = refl
on_each_block p q (b ∷ bs) f g h same ff fg fh =
    rw (same (f b) (g b) (h b) (omega (arith, ff.0)) (omega (arith, fg.0)) (omega (arith, fh.0)), on_each_block p q bs f g h same ff.1 fg.1 fh.1) refl

-- what was turned is put over the words, and turned with them
pub turned_with : (xs turned again : List ℕ) (f : ℕ → ℕ) (by : ℕ) → turned ≡ map f xs
    → again ≡ map (λ n. rotate_right w32 n by) (zip2 bit_xor xs turned) → again ≡ map (λ n. rotate_right w32 (bit_xor n (f n)) by) xs
turned_with xs turned again f by e more =
    let over : zip2 bit_xor xs turned ≡ map (λ n. bit_xor n (f n)) xs = zip2_of_maps bit_xor (λ n. n) f xs (sym (map-id xs)) e in
    more ∙ ap (map (λ n. rotate_right w32 n by)) over ∙ map-map (λ n. rotate_right w32 n by) (λ n. bit_xor n (f n)) xs
