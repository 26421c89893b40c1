use Rattle.std.proofs.Common.{◌≡◌, ℕ, ◌+◌, ◌-◌, ◌%◌, List, [], map, get_or, slice_index, ap, ◌∙◌, arith}
use Rattle.std.proofs.lemmas.Simd.{zip2_of_maps, map-map}
use Rattle.sha2.specs.Sha256.{add32, schedule, small_sigma0, small_sigma1}
use Rattle.sp_ots.proofs.Windows.{words, words_next, windows_at, windows_next}
use Rattle.sp_ots.proofs.schedule.next_word.Goals as goal

pub returns : goal.returns
returns g c = λ ms block t h l at win.
    let w = c.args.w.now in
    let place = c.args.place in
    let word : ℕ → List ℕ → ℕ = λ k m. slice_index (schedule (block m) 48) k in
    let read = λ (k : ℕ). get_or w k [] in
    let e14 : read ((place + 14) % 16) ≡ words block ms (t - 2) = ap read (omega arith) ∙ windows_at block ms w t 14 (t - 2) win (omega arith) (omega arith) in
    let e9 : read ((place + 9) % 16) ≡ words block ms (t - 7) = ap read (omega arith) ∙ windows_at block ms w t 9 (t - 7) win (omega arith) (omega arith) in
    let e1 : read ((place + 1) % 16) ≡ words block ms (t - 15) = ap read (omega arith) ∙ windows_at block ms w t 1 (t - 15) win (omega arith) (omega arith) in
    let e0 : read place ≡ words block ms (t - 16) = ap read (omega arith) ∙ windows_at block ms w t 0 (t - 16) win (omega arith) (omega arith) in
    let s1 = c.small_sigma1.ensures ∙ ap (map small_sigma1) e14 ∙ map-map small_sigma1 (word (t - 2)) ms in
    let s0 = c.small_sigma0.ensures ∙ ap (map small_sigma0) e1 ∙ map-map small_sigma0 (word (t - 15)) ms in
    let sum = zip2_of_maps add32 (λ m. add32 (add32 (small_sigma1 (word (t - 2) m)) (word (t - 7) m)) (small_sigma0 (word (t - 15) m))) (word (t - 16)) ms
    (zip2_of_maps add32 (λ m. add32 (small_sigma1 (word (t - 2) m)) (word (t - 7) m)) (λ m. small_sigma0 (word (t - 15) m)) ms
    (zip2_of_maps add32 (λ m. small_sigma1 (word (t - 2) m)) (word (t - 7)) ms s1 e9) s0)
    e0 ∙ words_next block ms t h l in
    (sum, rw at at (windows_next block ms w t _ h l sum win))
