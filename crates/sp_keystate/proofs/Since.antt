-- The moments of calls, one after another.
use Rattle.std.proofs.Common.{ℕ, List, [], ◌∷◌, ◌++◌, Option, None, Some, sym, ap, ◌∙◌, append_assoc}
use Rattle.std.specs.List.{AllByRecursion}
use Rattle.std.proofs.lemmas.List.{append-nil}
use Rattle.sp_outside.specs.Disk.{Disk, IsImage}
use Rattle.sp_outside.specs.Moments.{AllSince}

all_weaker : {X : Type 0} (P Q : X → Type 0) → ((x : X) → P x → Q x) → (xs : List X) → AllByRecursion P xs → AllByRecursion Q xs
all_weaker P Q f [] h = h
all_weaker P Q f (x ∷ xs) h = (f x h.0, all_weaker P Q f xs h.1)

all_both : {X : Type 0} (P : X → Type 0) (xs ys : List X) → AllByRecursion P xs → AllByRecursion P ys → AllByRecursion P (xs ++ ys)
all_both P [] ys h k = k
all_both P (x ∷ xs) ys h k = (h.0, all_both P xs ys h.1 k)

-- what holds of weaker things
pub since_weaker : (old new : Option (List Disk)) (P Q : List ℕ → Type 0) → ((c : List ℕ) → P c → Q c) → AllSince old new P → AllSince old new Q
since_weaker None new P Q f h = tt
since_weaker (Some old) None P Q f h = h
since_weaker (Some old) (Some new) P Q f h =
    (h.0, h.1, all_weaker (λ (d : Disk). (c : List ℕ) → IsImage d c → P c) (λ (d : Disk). (c : List ℕ) → IsImage d c → Q c) (λ d g c is. f c (g c is)) h.0 h.2)

-- one call after another
pub since_on : (a b c : Option (List Disk)) (P : List ℕ → Type 0) → AllSince a b P → AllSince b c P → AllSince a c P
since_on None b c P h k = tt
since_on (Some a) None c P h k = absurd h
since_on (Some a) (Some b) None P h k = absurd k
since_on (Some a) (Some b) (Some c) P h k =
    (h.0 ++ k.0, k.1 ∙ ap (λ l. l ++ k.0) h.1 ∙ append_assoc a h.0 k.0, all_both (λ (d : Disk). (i : List ℕ) → IsImage d i → P i) h.0 k.0 h.2 k.2)

-- nothing was done
pub since_none : (a : Option (List Disk)) (P : List ℕ → Type 0) → AllSince a a P
since_none None P = tt
since_none (Some a) P = ([], sym (append-nil a), tt)
