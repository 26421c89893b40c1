-- Messages that come one after another, held against those that were sent.
use Rattle.std.proofs.Common.{◌≡◌, ◌<◌, ℕ, ◌+◌, List, [], ◌∷◌, ◌++◌, length, get_or, sym, ap, subst, ◌∙◌, arith, append-nil, append_assoc}
use Rattle.std.proofs.Common.{length-append}
use Rattle.std.proofs.Math.Seq.{get_or-append_seam}
use Rattle.sp_base.specs.Lists.{IsPrefix}
use Rattle.sp_runs.specs.Told.{Message}
use Rattle.sp_audit.specs.Agreed.{Agrees, Differs}

-- some, and more after them
pub agrees_more : (sent : List Message) (count n k : ℕ) (xs ys : List Message) → Agrees sent count xs n → Agrees sent n ys k → Agrees sent count (xs ++ ys) k
agrees_more sent count n k xs ys first more = record {
  within = more.within;
  counted = let a = first.counted in let b = more.counted in omega (arith, length-append xs ys);
  goes_on = λ before long front.
      let a = first.counted in
      subst (λ (zs : List Message). IsPrefix zs sent) (append_assoc before xs ys)
      (more.goes_on (before ++ xs) (omega (arith, length-append before xs)) (first.goes_on before long front));
}

-- a front of a front
shorter : (xs ys sent : List Message) → IsPrefix (xs ++ ys) sent → IsPrefix xs sent
shorter xs ys sent is = (ys ++ is.0, is.1 ∙ append_assoc xs ys is.0)

-- some, and one after them that isn't the next, whatever follows
pub differs_more : (sent : List Message) (count n : ℕ) (xs ys rest : List Message) → Agrees sent count xs n → Differs sent n ys
    → Differs sent count (xs ++ (ys ++ rest))
differs_more sent count n xs ys rest first differs before long front whole =
    let a = first.counted in
    let parts : before ++ (xs ++ (ys ++ rest)) ≡ ((before ++ xs) ++ ys) ++ rest =
    sym (append_assoc before xs (ys ++ rest)) ∙ sym (append_assoc (before ++ xs) ys rest) in
    differs (before ++ xs) (omega (arith, length-append before xs)) (first.goes_on before long front)
    (shorter ((before ++ xs) ++ ys) rest sent (subst (λ (zs : List Message). IsPrefix zs sent) parts whole))

-- the next of those that were sent comes
pub next_comes : (sent : List Message) (count : ℕ) (m : Message) → count < length sent → get_or sent count m ≡ m → Agrees sent count (m ∷ []) (count + 1)
next_comes sent count m there is = record { within = omega arith; counted = omega arith; goes_on = goes }
  where
    ends : (before rest : List Message) → length before ≡ count → sent ≡ before ++ rest → IsPrefix (before ++ m ∷ []) sent
    ends before [] long parts = absurd (let all = ap length (parts ∙ append-nil before) in omega (arith, all, there, long))
    ends before (r ∷ rest) long parts =
        let at : get_or sent count m ≡ r =
        ap (λ (xs : List Message). get_or xs count m) parts ∙ ap (λ (n : ℕ). get_or (before ++ r ∷ rest) n m) (sym long)
        ∙ get_or-append_seam before r rest m in
        let same : r ≡ m = sym at ∙ is in
        (rest, parts ∙ ap (λ (x : Message). before ++ x ∷ rest) same ∙ sym (append_assoc before (m ∷ []) rest))

    goes : (before : List Message) → length before ≡ count → IsPrefix before sent → IsPrefix (before ++ m ∷ []) sent
    goes before long front = ends before front.0 long front.1
