use Rattle.std.proofs.Common.{List, ℕ, map, bit_and, bit_xor, ap, ◌∙◌}
use Rattle.std.proofs.lemmas.Simd.{zip2_of_maps}
use Rattle.sp_ots.proofs.ChMaj.{maj_short}
use Rattle.sp_ots.proofs.words.maj.Goals as goal

pub returns : goal.returns
returns c = λ bs f g h x y z.
    let first = zip2_of_maps bit_xor f g bs x y in
    let second = zip2_of_maps bit_xor g h bs y z in
    let both = zip2_of_maps bit_and (λ b. bit_xor (f b) (g b)) (λ b. bit_xor (g b) (h b)) bs first second in
    zip2_of_maps bit_xor g (λ b. bit_and (bit_xor (f b) (g b)) (bit_xor (g b) (h b))) bs y both
    ∙ ap (λ (m : List ℕ → ℕ). map m bs) (λ i b. maj_short (f b) (g b) (h b) i)
