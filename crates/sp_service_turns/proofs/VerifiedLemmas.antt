-- One line more that agrees.
use Rattle.std.proofs.Common.{◌≡◌, ℕ, ◌+◌, List, [], ◌∷◌, ◌++◌, take, Option, None, Some, refl, sym, ap, subst, ◌∙◌, arith}
use Rattle.std.specs.Prelude.{zero, suc, slice_get}
use Rattle.std.proofs.lemmas.Option.{none-some}
use Rattle.sp_recording.specs.declared.line.Digest.{Digest}
use Rattle.sp_recording.specs.declared.line.Line.{Line}
use Rattle.sp_service_turns.specs.Compared.{IsJudged, IsOfDigests, counted}
use Rattle.sp_service_turns.specs.Inputs.{Steps}
use Rattle.sp_service_turns.specs.Turns.{told}
use Rattle.sp_service_turns.specs.Verified.{Agrees, Differs, Is_silent, Is_so, Question, asked}
use Rattle.sp_service_turns.specs.declared.compared.Compared.{Compared}
use Rattle.sp_service_turns.specs.declared.compared.Compared.TheVariants as compared

-- one item more of a list
take_next : {X : Type 0} (xs : List X) (i : ℕ) (x : X) → slice_get xs i ≡ Some x → take (suc i) xs ≡ take i xs ++ x ∷ []
take_next [] i x is = absurd (none-some x is)
take_next (y ∷ xs) zero x is = ap (λ z. z ∷ []) (ap (λ (o : Option _). elim o [ None ↦ y | Some z ↦ z ]) is)
take_next (y ∷ xs) (suc i) x is = ap (λ l. y ∷ l) (take_next xs i x is)

pub take_more : {X : Type 0} (xs : List X) (i : ℕ) (x : X) → slice_get xs i ≡ Some x → take (i + 1) xs ≡ take i xs ++ x ∷ []
take_more xs i x is = subst (λ (n : ℕ). take n xs ≡ take i xs ++ x ∷ []) (let e : suc i ≡ i + 1 = omega arith in e) (take_next xs i x is)

module _ {N : Type 0} (steps : Steps N) (first : N) where
  no_more : (ls : List Line) (n : N) (count : ℕ) → Agrees steps first ls n count → Agrees steps first ls n (count + 0)
  no_more ls n count a = subst (λ (m : ℕ). Agrees steps first ls n m) (let e : count ≡ count + 0 = omega arith in e) a

  same_or_other : (q : Question) (answer : List ℕ) (judged : Compared) → IsOfDigests q.digest (told answer) judged
      → ((r c : Digest) → judged ≡ compared.Other r c → ⊥)
      → (judged ≡ compared.Same) × (told answer ≡ q.digest)
  same_or_other q answer compared.Silent is not = absurd is
  same_or_other q answer compared.Same is not = (refl, is)
  same_or_other q answer (compared.Other r c) is not = absurd (not r c refl)

  pub agrees_on : (node after : N) (before : List Line) (line : Line) (count : ℕ) (o : Option Question) (judged : Compared)
      → Agrees steps first before node count → asked line ≡ o
      → IsJudged steps line o node judged after → ((r c : Digest) → judged ≡ compared.Other r c → ⊥)
      → Agrees steps first (before ++ line ∷ []) after (count + counted judged)
  agrees_on node after before line count None judged a is j not =
      subst (λ (z : Compared). Agrees steps first (before ++ line ∷ []) after (count + counted z)) (sym j.0)
      (no_more (before ++ line ∷ []) after count (Is_silent line a is j.1))
  agrees_on node after before line count (Some q) judged a is j not =
      let both = same_or_other q j.0 judged j.2 not in
      subst (λ (z : Compared). Agrees steps first (before ++ line ∷ []) after (count + counted z)) (sym both.0) (Is_so line q j.0 a is j.1 both.1)

  pub differs_at : (node after : N) (ls : List Line) (place : ℕ) (line : Line) (count : ℕ) (o : Option Question) (recorded computed : Digest)
      → Agrees steps first (take place ls) node count
      → slice_get ls place ≡ Some line → asked line ≡ o → IsJudged steps line o node (compared.Other recorded computed) after
      → Differs steps first ls place recorded computed
  differs_at node after ls place line count None recorded computed a here is j = absurd (let same = j.0 in cc)
  differs_at node after ls place line count (Some q) recorded computed a here is j = record {
    line = line;
    q = q;
    node = node;
    after = after;
    count = count;
    answer = j.0;
    before = a;
    here = here;
    asks = is;
    answers = j.1;
    recorded_is = j.2.0;
    computed_is = j.2.1;
    other = λ same. j.2.2 (sym j.2.1 ∙ same ∙ j.2.0);
  }
