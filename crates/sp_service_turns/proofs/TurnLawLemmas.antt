-- Lines that agree, read from their end; and why a key file ends a turn.
use Rattle.std.proofs.Common.{◌≡◌, ℕ, zero, suc, ◌+◌, ◌-◌, ◌<◌, ◌⊎◌, inl, inr, Bool, true, false, List, [], ◌∷◌, ◌++◌, take, None, Some, refl, sym, ap, subst}
use Rattle.std.proofs.Common.{◌∙◌, arith}
use Rattle.std.specs.Prelude.{◌&&◌, ◌^◌, nat_lt, slice_get}
use Rattle.std.proofs.lemmas.Bool.Decides.{nat_tests}
use Rattle.std.proofs.lemmas.Option.{none-some}
use Rattle.sp_keystate.specs.declared.refused.KeyRefused.{KeyRefused}
use Rattle.sp_keystate.specs.declared.refused.KeyRefused.TheVariants.{KeeperFault, Unformatted, Formatted, Exhausted}
use Rattle.sp_recording.specs.declared.line.Line.{Line}
use Rattle.sp_recording.specs.declared.line.Line.TheVariants as lines
use Rattle.sp_service_turns.specs.Indexes.{are_few}
use Rattle.sp_service_turns.specs.Inputs.{Reserve, Steps}
use Rattle.sp_service_turns.specs.Keys.{IsEnd}
use Rattle.sp_service_turns.specs.TurnLaws.{IsDetermined, KeyFilesEndLate, NothingAgreesAndDiffers}
use Rattle.sp_service_turns.specs.Turns.{told}
use Rattle.sp_service_turns.specs.Verified.{Agrees, Is_silent, Is_so, Passes, Question, Starts, asked}
use Rattle.sp_service_turns.specs.declared.indexes.Indexes.{Indexes}

-- ---- lists that end in a line

-- such a list isn't empty
no_end : (xs : List Line) (x : Line) → [] ≡ xs ++ x ∷ [] → ⊥
no_end [] x is = absurd (cc)
no_end (y ∷ xs) x is = absurd (cc)

-- and has one front and one last line
one_end : (xs ys : List Line) (x y : Line) → xs ++ x ∷ [] ≡ ys ++ y ∷ [] → (xs ≡ ys) × (x ≡ y)
one_end [] [] x y is = (refl, (let same : x ≡ y = cc in same))
one_end [] (b ∷ ys) x y is = absurd (no_end ys y (let rest : [] ≡ ys ++ y ∷ [] = cc in rest))
one_end (a ∷ xs) [] x y is = absurd (no_end xs x (let rest : xs ++ x ∷ [] ≡ [] = cc in sym rest))
one_end (a ∷ xs) (b ∷ ys) x y is =
    let head : a ≡ b = cc in
    let rest : xs ++ x ∷ [] ≡ ys ++ y ∷ [] = cc in
    let more = one_end xs ys x y rest in
    (rw (head, more.0) refl, more.1)

-- an item of it is one of the front, or the last
in_front_or_last : (xs : List Line) (x : Line) (place : ℕ) (y : Line) → slice_get (xs ++ x ∷ []) place ≡ Some y
    → ((slice_get xs place ≡ Some y) × (take place (xs ++ x ∷ []) ≡ take place xs)) ⊎ ((x ≡ y) × (take place (xs ++ x ∷ []) ≡ xs))
in_front_or_last [] x zero y is = inr ((let same : x ≡ y = cc in same), refl)
in_front_or_last [] x (suc place) y is = absurd (none-some y is)
in_front_or_last (a ∷ xs) x zero y is = inl (is, refl)
in_front_or_last (a ∷ xs) x (suc place) y is = elim (in_front_or_last xs x place y is) [
  | inl front ↦ inl (front.0, ap (λ (l : List Line). a ∷ l) front.1)
  | inr last ↦ inr (last.0, ap (λ (l : List Line). a ∷ l) last.1)
]

no_question : (q : Question) → None ≡ Some q → ⊥
no_question q is = none-some q is

module _ {N : Type 0} (steps : Steps N) (first : N) (determined : IsDetermined steps) where
  one_pass : (line : Line) (a b m n : N) → a ≡ b → Passes steps line a m → Passes steps line b n → m ≡ n
  one_pass (lines.Reserve upto) a b m n same one other =
      (determined b (Reserve upto) [] [] m n (subst (λ (x : N). steps x (Reserve upto) [] m) same one) other).1
  one_pass (lines.Tick now digest) a b m n same one other = one ∙ same ∙ sym other
  one_pass (lines.Overlay node bytes digest) a b m n same one other = one ∙ same ∙ sym other
  one_pass (lines.Stray port) a b m n same one other = one ∙ same ∙ sym other
  one_pass (lines.Client port bytes digest) a b m n same one other = one ∙ same ∙ sym other
  one_pass (lines.Poll node digest) a b m n same one other = one ∙ same ∙ sym other

  one_answer : (q r : Question) (a b m n : N) (x y : List ℕ) → q ≡ r → a ≡ b → steps a q.input x m → steps b r.input y n → (x ≡ y) × (m ≡ n)
  one_answer q r a b m n x y question same one other =
      determined b r.input x y m n (subst (λ (z : Question). steps b z.input x m) question (subst (λ (z : N). steps z q.input x m) same one)) other

  asked_once : (k l : Line) (q r : Question) → k ≡ l → asked k ≡ Some q → asked l ≡ Some r → q ≡ r
  asked_once k l q r same one other = let e : Some q ≡ Some r = sym one ∙ ap asked same ∙ other in (let is : q ≡ r = cc in is)

  -- lines that agree lead to one state
  one_state : (ls ks : List Line) (m n : N) (c d : ℕ) → ls ≡ ks → Agrees steps first ls m c → Agrees steps first ks n d → m ≡ n
  one_state ls ks m n c d same Starts Starts = refl
  one_state ls ks m n c d same Starts (Is_silent {before = ys} line b is passes) = absurd (no_end ys line same)
  one_state ls ks m n c d same Starts (Is_so {before = ys} line q answer b is step digest) = absurd (no_end ys line same)
  one_state ls ks m n c d same (Is_silent {before = xs} line a is passes) Starts = absurd (no_end xs line (sym same))
  one_state ls ks m n c d same (Is_so {before = xs} line q answer a is step digest) Starts = absurd (no_end xs line (sym same))
  one_state ls ks m n c d same (Is_silent {before = xs} {node = u} {count = i} k a k_is pass) (Is_silent {before = ys} {node = v} {count = j} l b l_is other) =
      let ends = one_end xs ys k l same in
      one_pass l u v m n (one_state xs ys u v i j ends.0 a b) (subst (λ (z : Line). Passes steps z u m) ends.1 pass) other
  one_state ls ks m n c d same (Is_silent {before = xs} k a k_is pass) (Is_so {before = ys} l q answer b l_is step digest) =
      let ends = one_end xs ys k l same in absurd (none-some q (sym k_is ∙ ap asked ends.1 ∙ l_is))
  one_state ls ks m n c d same (Is_so {before = xs} k q answer a k_is step digest) (Is_silent {before = ys} l b l_is pass) =
      let ends = one_end xs ys k l same in absurd (none-some q (sym l_is ∙ ap asked (sym ends.1) ∙ k_is))
  one_state ls ks m n c d same (Is_so {before = xs} {node = u} {count = i} k q x a k_is step digest)
      (Is_so {before = ys} {node = v} {count = j} l r y b l_is other digest_2) =
      let ends = one_end xs ys k l same in
      (one_answer q r u v m n x y (asked_once k l q r ends.1 k_is l_is) (one_state xs ys u v i j ends.0 a b) step other).1

  -- so where all agree, the answer here has the digest of this line
  pub has_digest : (ls : List Line) (m : N) (c : ℕ) → Agrees steps first ls m c → (place : ℕ) (line : Line) (q : Question) → slice_get ls place ≡ Some line
      → asked line ≡ Some q
      → (node after : N) (answer : List ℕ) (d : ℕ) → Agrees steps first (take place ls) node d → steps node q.input answer after → told answer ≡ q.digest
  has_digest ls m c Starts place line q here asks node after answer d before step = absurd (none-some line here)
  has_digest ls m c (Is_silent {before = xs} {node = u} {count = i} k a k_is pass) place line q here asks node after answer d before step =
      elim (in_front_or_last xs k place line here) [
        | inl front ↦
            has_digest xs u i a place line q front.0 asks node after answer d (subst (λ (l : List Line). Agrees steps first l node d) front.1 before) step
        | inr last ↦ absurd (none-some q (sym k_is ∙ ap asked last.0 ∙ asks))
      ]
  has_digest ls m c (Is_so {before = xs} {node = u} {count = i} k r x a k_is taken digest) place line q here asks node after answer d before step =
      elim (in_front_or_last xs k place line here) [
        | inl front ↦
            has_digest xs u i a place line q front.0 asks node after answer d (subst (λ (l : List Line). Agrees steps first l node d) front.1 before) step
        | inr last ↦
            let question : r ≡ q = asked_once k line r q last.0 k_is asks in
            let state : u ≡ node = one_state xs (take place ls) u node i d (sym last.1) a before in
            let both = one_answer r q u node m after x answer question state taken step in
            sym (ap told both.0) ∙ digest ∙ ap (λ (z : Question). z.digest) question
      ]

pub nothing_does_both : {N : Type 0} (steps : Steps N) → NothingAgreesAndDiffers steps
nothing_does_both steps determined first last ls count place recorded computed agrees differs =
    let same = has_digest steps first determined ls last count agrees place differs.line differs.q differs.here differs.asks differs.node differs.after
    differs.answer differs.count
    differs.before differs.answers in
    differs.other (differs.computed_is ∙ same ∙ sym differs.recorded_is)

-- ---- a key file

few_are : (i : Indexes) → are_few i ≡ true → (i.bound - i.index < 4) × (i.bound < i.total)
few_are i is = go (nat_lt (i.bound - i.index) 4) refl is
  where
    go : (t : Bool) → nat_lt (i.bound - i.index) 4 ≡ t → (t && nat_lt i.bound i.total) ≡ true → (i.bound - i.index < 4) × (i.bound < i.total)
    go true few e = (grind (arith, nat_tests), grind (arith, nat_tests))
    go false few e = absurd (cc)

end_of : (serial : ℕ) (refused : KeyRefused) → IsEnd serial refused → (refused ≡ KeeperFault) ⊎ (serial ≡ 2 ^ 64 - 1)
end_of serial KeeperFault end = inl refl
end_of serial (Exhausted number) end = inr end
end_of serial Unformatted end = absurd end
end_of serial Formatted end = absurd end

pub they_end_late : KeyFilesEndLate
they_end_late i keys refused before after no_more =
    let few = few_are i no_more.due in
    (few.0, few.1, end_of keys.serial refused no_more.end)
