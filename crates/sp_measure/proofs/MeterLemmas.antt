-- What a meter's calls make of its fields in memory.
use Rattle.std.proofs.Common.{◌≡◌, ◌≤◌, ◌<◌, ℕ, suc, ◌+◌, ◌-◌, min, List, [], ◌∷◌, ◌++◌, length, drop, take, set, replicate, sym, ap, ◌∙◌, arith, length-append}
use Rattle.std.proofs.Common.{length-drop, inl, inr, ◌⊎◌}
use Rattle.std.proofs.Math.Seq.{set-append_seam}
use Rattle.std.proofs.lemmas.Bool.{cases_lt}
use Rattle.std.proofs.lemmas.List.{drop-append-le}
use Rattle.std.proofs.lemmas.List.FromFn.{map-range_with_len_more}
use Rattle.std.proofs.lemmas.List.Sums.{fold-append}
use Rattle.sp_measure.specs.Costs.{last_of, with_cost}
use Rattle.sp_measure.specs.Places.{costs_in}
use Rattle.sp_measure.specs.Proofs.{Hashes, Sender, nonce, nonces, proof_of, with_nonce}
use Rattle.sp_measure.specs.declared.weight.TheConstants.{WEIGHED_COSTS}

-- the proof up to the next probe is the proof so far with one more nonce
pub proof_grows : (h : Hashes) (s : Sender) (n : ℕ) → proof_of h (nonces h s (n + 1)) ≡ with_nonce h (proof_of h (nonces h s n)) (nonce h s (n + 1))
proof_grows h s n = ap (proof_of h) (map-range_with_len_more (nonce h s) 1 n (n + 1) (omega arith))
    ∙ fold-append (with_nonce h) (replicate 32 0) (nonces h s n) (nonce h s (n + 1) ∷ [])

-- ---- one more cost, in m + 1 places of which the last ones are costs

with_room : (m closed cost x : ℕ) (xs : List ℕ) → length xs ≡ m → closed ≤ m
    → drop (m + 1 - min (closed + 1) (m + 1)) (xs ++ cost ∷ []) ≡ last_of (m + 1) (drop (m + 1 - closed) (x ∷ xs) ++ cost ∷ [])
with_room m closed cost x xs long within =
    let k = m - closed in
    let now : m + 1 - min (closed + 1) (m + 1) ≡ k = omega arith in
    let before : m + 1 - closed ≡ suc k = omega arith in
    let few : length (drop k xs ++ cost ∷ []) - (m + 1) ≡ 0 = omega (arith, length-append (drop k xs) (cost ∷ []), length-drop k xs, long) in
    ap (λ j. drop j (xs ++ cost ∷ [])) now
    ∙ drop-append-le k xs (cost ∷ []) (omega (arith, long))
    ∙ sym (ap (λ j. last_of (m + 1) (drop j (x ∷ xs) ++ cost ∷ [])) before ∙ ap (λ j. drop j (drop k xs ++ cost ∷ [])) few)

when_full : (m cost x : ℕ) (xs : List ℕ) → length xs ≡ m
    → drop (m + 1 - min (m + 1 + 1) (m + 1)) (xs ++ cost ∷ []) ≡ last_of (m + 1) (drop (m + 1 - (m + 1)) (x ∷ xs) ++ cost ∷ [])
when_full m cost x xs long =
    let now : m + 1 - min (m + 1 + 1) (m + 1) ≡ 0 = omega arith in
    let before : m + 1 - (m + 1) ≡ 0 = omega arith in
    let one : length (x ∷ xs ++ cost ∷ []) - (m + 1) ≡ 1 = omega (arith, length-append (x ∷ xs) (cost ∷ []), long) in
    ap (λ j. drop j (xs ++ cost ∷ [])) now
    ∙ sym (ap (λ j. last_of (m + 1) (drop j (x ∷ xs) ++ cost ∷ [])) before ∙ ap (λ j. drop j (x ∷ xs ++ cost ∷ [])) one)

shifted : (m closed cost x : ℕ) (xs : List ℕ) → length xs ≡ m → closed ≤ m + 1
    → drop (m + 1 - min (closed + 1) (m + 1)) (set (xs ++ x ∷ []) m cost) ≡ last_of (m + 1) (drop (m + 1 - closed) (x ∷ xs) ++ cost ∷ [])
shifted m closed cost x xs long within =
    let seam : set (xs ++ x ∷ []) m cost ≡ xs ++ cost ∷ [] = ap (λ i. set (xs ++ x ∷ []) i cost) (sym long) ∙ set-append_seam xs x [] cost in
    ap (λ ys. drop (m + 1 - min (closed + 1) (m + 1)) ys) seam ∙ go (cases_lt m closed)
  where
    go : (m < closed) ⊎ (closed ≤ m) → drop (m + 1 - min (closed + 1) (m + 1)) (xs ++ cost ∷ []) ≡ last_of (m + 1) (drop (m + 1 - closed) (x ∷ xs) ++ cost ∷ [])
    go (inl over) = let full : closed ≡ m + 1 = omega (arith, over, within) in rw full (when_full m cost x xs long)
    go (inr room) = with_room m closed cost x xs long room

pub cost_put : (places : List ℕ) (closed cost : ℕ) → length places ≡ WEIGHED_COSTS → closed ≤ WEIGHED_COSTS
    → costs_in (set (drop 1 places ++ take 1 places) 31 cost) (min (closed + 1) WEIGHED_COSTS) ≡ with_cost (costs_in places closed) cost
cost_put [] closed cost long within = absurd (omega (arith, long))
cost_put (x ∷ xs) closed cost long within = shifted 31 closed cost x xs (omega (arith, long)) within
