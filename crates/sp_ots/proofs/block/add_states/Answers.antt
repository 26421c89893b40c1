use Rattle.std.proofs.Common.{◌≡◌, ℕ, List, [], ◌∷◌, get_or, map, slice_index, ap}
use Rattle.std.proofs.lemmas.Simd.{zip2_of_maps}
use Rattle.sha2.specs.Sha256.{add32}
use Rattle.sp_ots.proofs.block.add_states.Goals as goal

pub returns : goal.returns
returns c = λ bs f g eh ev.
    let sum = λ (n : ℕ) (a : get_or c.args.h n [] ≡ map (λ b. slice_index (f b) n) bs) (b : get_or c.args.v n [] ≡ map (λ b. slice_index (g b) n) bs).
    zip2_of_maps add32 (λ b. slice_index (f b) n) (λ b. slice_index (g b) n) bs a b in
    let h = λ (n : ℕ). ap (λ (vs : List (List ℕ)). get_or vs n []) eh in
    let v = λ (n : ℕ). ap (λ (vs : List (List ℕ)). get_or vs n []) ev in
    λ i. sum 0 (h 0) (v 0) i ∷ sum 1 (h 1) (v 1) i ∷ sum 2 (h 2) (v 2) i ∷ sum 3 (h 3) (v 3) i
    ∷ sum 4 (h 4) (v 4) i ∷ sum 5 (h 5) (v 5) i ∷ sum 6 (h 6) (v 6) i ∷ sum 7 (h 7) (v 7) i ∷ []
