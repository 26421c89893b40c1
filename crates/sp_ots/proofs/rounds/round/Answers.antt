use Rattle.std.proofs.Common.{◌≡◌, ℕ, List, [], ◌∷◌, length, map, get_or, slice_index, sym, ap, ◌∙◌}
use Rattle.std.proofs.lemmas.List.{length-map}
use Rattle.std.proofs.lemmas.Simd.{zip2_of_maps, map-map, splat_is_map}
use Rattle.sha2.specs.Sha256.{add32, big_sigma0, big_sigma1, ch, maj, temp1, temp2}
use Rattle.sp_ots.specs.Lanes.{lanes}
use Rattle.sp_ots.proofs.rounds.round.Goals as goal

pub returns : goal.returns
returns c = λ bs f g ev ew.
    let part : ℕ → List ℕ → ℕ = λ i b. slice_index (f b) i in
    let at = λ (i : ℕ). ap (λ (vs : List (List ℕ)). get_or vs i []) ev in
    let k = c.args.k in
    let count : length bs ≡ lanes = sym (length-map bs g) ∙ sym (ap length ew) ∙ c.fits-word.0 in
    let s1 = c.big_sigma1.ensures ∙ ap (map big_sigma1) (at 4) ∙ map-map big_sigma1 (part 4) bs in
    let s0 = c.big_sigma0.ensures ∙ ap (map big_sigma0) (at 0) ∙ map-map big_sigma0 (part 0) bs in
    let choice = c.ch.ensures bs (part 4) (part 5) (part 6) (at 4) (at 5) (at 6) in
    let most = c.maj.ensures bs (part 0) (part 1) (part 2) (at 0) (at 1) (at 2) in
    let t1 = zip2_of_maps add32 (λ b. add32 (add32 (add32 (part 7 b) (big_sigma1 (part 4 b))) (ch (part 4 b) (part 5 b) (part 6 b))) k) g bs
    (zip2_of_maps add32 (λ b. add32 (add32 (part 7 b) (big_sigma1 (part 4 b))) (ch (part 4 b) (part 5 b) (part 6 b))) (λ _. k) bs
    (zip2_of_maps add32 (λ b. add32 (part 7 b) (big_sigma1 (part 4 b))) (λ b. ch (part 4 b) (part 5 b) (part 6 b)) bs
    (zip2_of_maps add32 (part 7) (λ b. big_sigma1 (part 4 b)) bs (at 7) s1) choice)
    (splat_is_map bs lanes k count))
    ew in
    let t2 = zip2_of_maps add32 (λ b. big_sigma0 (part 0 b)) (λ b. maj (part 0 b) (part 1 b) (part 2 b)) bs s0 most in
    let top = zip2_of_maps add32 (λ b. temp1 (f b) k (g b)) (λ b. temp2 (f b)) bs t1 t2 in
    let mid = zip2_of_maps add32 (part 3) (λ b. temp1 (f b) k (g b)) bs (at 3) t1 in
    λ i. top i ∷ at 0 i ∷ at 1 i ∷ at 2 i ∷ mid i ∷ at 4 i ∷ at 5 i ∷ at 6 i ∷ []
