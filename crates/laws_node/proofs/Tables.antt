-- Tables by rows: what holds of all rows holds of the one that is found, and of the table with another row in its place.
use Rattle.std.proofs.Common.{◌≡◌, ℕ, zero, suc, drop, Bool, true, false, ◌||◌, List, [], ◌∷◌, ◌++◌, map, Some, refl, sym, ap, subst, cond}
use Rattle.std.specs.List.{All, slice_get}
use Rattle.std.proofs.lemmas.List.Elements.{All-cons, All-head, All-nil, All-tail}
use Rattle.sp_base.specs.Rows.{first_where, replace_where}

-- what holds of both holds of whichever is chosen
pub cond_either : {X : Type 0} (P : X → Type 0) (t : Bool) (x y : X) → P x → P y → P (cond t x y)
cond_either P true x y px py = px
cond_either P false x y px py = py

-- each case may use what the test says
pub cond_where : {X : Type 0} (P : X → Type 0) (t : Bool) (x y : X) → (t ≡ true → P x) → (t ≡ false → P y) → P (cond t x y)
cond_where P true x y px py = px refl
cond_where P false x y px py = py refl

-- one of two is true, and each says so
pub or_where : {Q : Type 0} (a b : Bool) → (a ≡ true → Q) → (b ≡ true → Q) → (a || b) ≡ true → Q
or_where true b one other is = one refl
or_where false b one other is = other is

pub or_right : (a b : Bool) → b ≡ true → (a || b) ≡ true
or_right true b is = refl
or_right false b is = is

-- what holds of all and of the default holds of the first that passes
pub all_first : {X : Type 0} (P : X → Type 0) (test : X → Bool) (none : X) (xs : List X) → All P xs → P none → P (first_where test none xs)
all_first P test none [] all p = p
all_first P test none (x ∷ xs) all p =
    cond_either P (test x) x (first_where test none xs) (All-head P x xs all) (all_first P test none xs (All-tail P x xs all) p)

-- what holds of all and of the new one holds after a replacement
pub all_replace : {X : Type 0} (P : X → Type 0) (test : X → Bool) (y : X) (xs : List X) → All P xs → P y → All P (replace_where test y xs)
all_replace P test y [] all p = All-nil P
all_replace P test y (x ∷ xs) all p =
    cond_either (All P) (test x) (y ∷ xs) (x ∷ replace_where test y xs) (All-cons P y xs p (All-tail P x xs all))
    (All-cons P x (replace_where test y xs) (All-head P x xs all) (all_replace P test y xs (All-tail P x xs all) p))

-- the row that was found changes
pub first_changes : {X : Type 0} (P : X → Type 0) (test : X → Bool) (d : X) (f : X → X) → ((x : X) → P x → P (f x)) → (xs : List X) → All P xs
    → All P (replace_where test (f (first_where test d xs)) xs)
first_changes P test d f keeps [] all = all
first_changes P test d f keeps (x ∷ xs) all = by (test x) (first_changes P test d f keeps xs (All-tail P x xs all))
  where
    by : (t : Bool) → All P (replace_where test (f (first_where test d xs)) xs)
        → All P (cond t (f (cond t x (first_where test d xs)) ∷ xs) (x ∷ replace_where test (f (cond t x (first_where test d xs))) xs))
    by true rest = All-cons P (f x) xs (keeps x (All-head P x xs all)) (All-tail P x xs all)
    by false rest = All-cons P x (replace_where test (f (first_where test d xs)) xs) (All-head P x xs all) rest

-- the rows keep their keys where the new one has the key of those that the test finds
pub replace_keys : {X K : Type 0} (key : X → K) (test : X → Bool) (y : X) → ((x : X) → test x ≡ true → key x ≡ key y) → (xs : List X)
    → map key (replace_where test y xs) ≡ map key xs
replace_keys key test y same [] = refl
replace_keys {X} {K} key test y same (x ∷ xs) =
    cond_where (λ (ys : List X). map key ys ≡ map key (x ∷ xs)) (test x) (y ∷ xs) (x ∷ replace_where test y xs)
    (λ is. ap (λ (k : K). k ∷ map key xs) (sym (same x is))) (λ is. ap (λ (ks : List K). key x ∷ ks) (replace_keys key test y same xs))

-- what holds of all of a list may be weakened
pub all_weaker : {X : Type 0} (P Q : X → Type 0) (xs : List X) → ((x : X) → P x → Q x) → All P xs → All Q xs
all_weaker P Q [] weaker all = All-nil Q
all_weaker P Q (x ∷ xs) weaker all = All-cons Q x xs (weaker x (All-head P x xs all)) (all_weaker P Q xs weaker (All-tail P x xs all))

-- what holds of all and of one more holds of all with it
pub all_push : {X : Type 0} (P : X → Type 0) (xs : List X) (y : X) → All P xs → P y → All P (xs ++ y ∷ [])
all_push P [] y all p = All-cons P y [] p (All-nil P)
all_push P (x ∷ xs) y all p = All-cons P x (xs ++ y ∷ []) (All-head P x xs all) (all_push P xs y (All-tail P x xs all) p)

-- what holds of all holds of those behind the first ones
pub all_drop_first : {X : Type 0} (P : X → Type 0) (n : ℕ) (xs : List X) → All P xs → All P (drop n xs)
all_drop_first P zero xs all = all
all_drop_first P (suc n) [] all = All-nil P
all_drop_first P (suc n) (x ∷ xs) all = all_drop_first P n xs (All-tail P x xs all)

-- what holds of all holds of the one at a place
pub all_get : {X : Type 0} (P : X → Type 0) (xs : List X) (i : ℕ) (x : X) → All P xs → slice_get xs i ≡ Some x → P x
all_get P [] i x all at = absurd (cc)
all_get P (a ∷ xs) zero x all at = subst P (let e : a ≡ x = cc in e) (All-head P a xs all)
all_get P (a ∷ xs) (suc i) x all at = all_get P xs i x (All-tail P a xs all) at

-- what holds of the rows holds of the table with another row in the place of one of them
pub all_replaced : {X : Type 0} (P Q : X → Type 0) (test : X → Bool) (y : X) (xs : List X) → ((x : X) → P x → Q x)
    → ((x : X) → test x ≡ true → P x → Q y) → All P xs → All Q (replace_where test y xs)
all_replaced P Q test y [] weaker new all = All-nil Q
all_replaced P Q test y (x ∷ xs) weaker new all =
    let here = All-head P x xs all in
    let others = All-tail P x xs all in
    cond_where (All Q) (test x) (y ∷ xs) (x ∷ replace_where test y xs)
    (λ is. All-cons Q y xs (new x is here) (all_weaker P Q xs weaker others))
    (λ is. All-cons Q x (replace_where test y xs) (weaker x here) (all_replaced P Q test y xs weaker new others))
