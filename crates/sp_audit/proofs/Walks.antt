-- Steps of a walk over effects, and over events with their entries.
use Rattle.std.proofs.Common.{◌≡◌, ◌<◌, ◌≤◌, ℕ, zero, suc, ◌+◌, ◌-◌, Bool, true, false, List, [], ◌∷◌, ◌++◌, length, get_or, take, drop, refl, sym}
use Rattle.std.proofs.Common.{ap, ap₂, subst, ◌∙◌, append-nil, arith, length-drop, length-take-le}
use Rattle.std.specs.Prelude.{◌==◌, ◌||◌, if◌then◌else◌}
use Rattle.std.specs.List.{All, flat_map, zip}
use Rattle.std.proofs.lemmas.List.{take_more}
use Rattle.std.proofs.lemmas.List.Concat.{flat_map-append}
use Rattle.std.proofs.lemmas.List.Elements.{All-append, All-cons, All-nil, All-weaker}
use Rattle.laws_runs.proofs.Lists.{as_they_are, told_more}
use Rattle.sp_base.specs.declared.id.NodeId.{NodeId}
use Rattle.sp_journal.specs.declared.entry.Entry.{Entry}
use Rattle.sp_msg.specs.declared.effect.Effect.{Effect}
use Rattle.sp_runs.specs.Inputs.{acting}
use Rattle.sp_runs.specs.Told.{effects_at, told, told_at}
use Rattle.sp_schedule_events.specs.declared.event.Event.{Event}

pub or_second : (a b : Bool) → b ≡ true → (a || b) ≡ true
or_second true b is = refl
or_second false b is = is

-- one event more tells what it tells with its entry
pub told_step : {X : Type 0} (tells : Event × Entry → List X) (es : List Event) (js : List Entry) (i : ℕ) (e : Event) (j : Entry) → length es ≡ length js
    → i < length es
    → e ≡ get_or es i e → j ≡ get_or js i j → told tells (take (i + 1) es) (take (i + 1) js) ≡ told tells (take i es) (take i js) ++ tells (e, j)
told_step tells es js i e j even below is_e is_j =
    let here : take (i + 1) es ≡ take i es ++ e ∷ [] = take_more es i e below ∙ ap (λ (y : Event). take i es ++ y ∷ []) (sym is_e) in
    let there : take (i + 1) js ≡ take i js ++ j ∷ [] = take_more js i j (omega (arith, below, even)) ∙ ap (λ (y : Entry). take i js ++ y ∷ []) (sym is_j) in
    let same : length (take i es) ≡ length (take i js) =
    omega (arith, length-take-le i es (omega (arith, below)), length-take-le i js (omega (arith, below, even))) in
    ap₂ (λ (xs : List Event) (ys : List Entry). told tells xs ys) here there ∙ told_more tells (take i es) (take i js) e j same

-- or its effects
pub effects_more : (es : List Event) (js : List Entry) (u : NodeId) (i : ℕ) (e : Event) (j : Entry) → length es ≡ length js → i < length es
    → e ≡ get_or es i e → j ≡ get_or js i j
    → effects_at (take (i + 1) es) (take (i + 1) js) u ≡ effects_at (take i es) (take i js) u ++ (if (acting e).0 == u.0 then j.effects else [])
effects_more es js u i e j even below is_e is_j =
    told_step (told_at u (λ y. y ∷ [])) es js i e j even below is_e is_j
    ∙ ap (λ (ys : List Effect). effects_at (take i es) (take i js) u ++ (if (acting e).0 == u.0 then ys else [])) (as_they_are j.effects)

-- what the effects of a node tell, all together
pub told_of_effects : {X : Type 0} (tells : Effect → List X) (u : NodeId) (es : List Event) (js : List Entry)
    → told (told_at u tells) es js ≡ flat_map tells (effects_at es js u)
told_of_effects tells u es js = go (zip es js)
  where
    one : (t : Bool) (j : Entry) → (if t then flat_map tells j.effects else []) ≡ flat_map tells (if t then flat_map (λ y. y ∷ []) j.effects else [])
    one true j = ap (flat_map tells) (sym (as_they_are j.effects))
    one false j = refl

    go : (ps : List (Event × Entry)) → flat_map (told_at u tells) ps ≡ flat_map tells (flat_map (told_at u (λ y. y ∷ [])) ps)
    go [] = refl
    go (p ∷ ps) =
        ap₂ (λ (xs ys : List _). xs ++ ys) (one ((acting p.0).0 == u.0) p.1) (go ps)
        ∙ sym (flat_map-append tells (told_at u (λ y. y ∷ []) p) (flat_map (told_at u (λ y. y ∷ [])) ps))

pub take_all : {X : Type 0} (xs : List X) (n : ℕ) → length xs ≤ n → take n xs ≡ xs
take_all [] zero no_more = refl
take_all [] (suc n) no_more = refl
take_all (x ∷ xs) zero no_more = absurd (omega (arith, no_more))
take_all (x ∷ xs) (suc n) no_more = ap (λ (ys : List _). x ∷ ys) (take_all xs n (omega (arith, no_more)))

pub take_drop : {X : Type 0} (xs : List X) (n : ℕ) → xs ≡ take n xs ++ drop n xs
take_drop [] zero = refl
take_drop [] (suc n) = refl
take_drop (x ∷ xs) zero = refl
take_drop (x ∷ xs) (suc n) = ap (λ (ys : List _). x ∷ ys) (take_drop xs n)

-- a slice from a place to the end
pub slice_from : {X : Type 0} (xs : List X) (from : ℕ) → take (length xs - from) (drop from xs) ≡ drop from xs
slice_from xs from = let long = length-drop from xs in take_all (drop from xs) (length xs - from) (omega (arith, long))

-- ---- what a list tells, up to a place and from it on

-- one item at the end
pub flat_push : {X Z : Type 0} (tells : X → List Z) (xs : List X) (x : X) → flat_map tells (xs ++ x ∷ []) ≡ flat_map tells xs ++ tells x
flat_push tells xs x = flat_map-append tells xs (x ∷ []) ∙ ap (λ (ys : List _). flat_map tells xs ++ ys) (append-nil (tells x))

-- one item more
pub flat_more : {X Z : Type 0} (tells : X → List Z) (xs : List X) (i : ℕ) (x : X) → i < length xs → x ≡ get_or xs i x
    → flat_map tells (take (i + 1) xs) ≡ flat_map tells (take i xs) ++ tells x
flat_more tells xs i x below is =
    ap (flat_map tells) (take_more xs i x below ∙ ap (λ (y : _). take i xs ++ y ∷ []) (sym is)) ∙ flat_push tells (take i xs) x

-- a list around a place
pub parts : {X : Type 0} (xs : List X) (i : ℕ) (x : X) → i < length xs → x ≡ get_or xs i x → xs ≡ take i xs ++ x ∷ drop (suc i) xs
parts [] i x below is = absurd (omega (arith, below))
parts (y ∷ xs) zero x below is = ap (λ (z : _). z ∷ xs) (sym is)
parts {X} (y ∷ xs) (suc i) x below is = ap (λ (zs : List X). y ∷ zs) (parts xs i x (omega (arith, below)) is)

-- all of it
pub flat_parts : {X Z : Type 0} (tells : X → List Z) (xs : List X) (i : ℕ) (x : X) → i < length xs → x ≡ get_or xs i x
    → flat_map tells xs ≡ flat_map tells (take i xs) ++ (tells x ++ flat_map tells (drop (suc i) xs))
flat_parts tells xs i x below is =
    ap (flat_map tells) (parts xs i x below is) ∙ flat_map-append tells (take i xs) (x ∷ drop (suc i) xs)

-- what holds of all items up to a place, and so of one more
pub all_more : {X : Type 0} (P Q : X → Type 0) (xs : List X) (i : ℕ) (x : X) → i < length xs → x ≡ get_or xs i x → ((y : X) → P y → Q y) → All P (take i xs)
    → Q x
    → All Q (take (i + 1) xs)
all_more P Q xs i x below is weaker all here =
    let here_is : take (i + 1) xs ≡ take i xs ++ x ∷ [] = take_more xs i x below ∙ ap (λ (y : _). take i xs ++ y ∷ []) (sym is) in
    subst (All Q) (sym here_is) (All-append Q (take i xs) (x ∷ []) (All-weaker P Q weaker (take i xs) all) (All-cons Q x [] here (All-nil Q)))

-- and so of all of them
pub all_whole : {X : Type 0} (P : X → Type 0) (xs : List X) (n : ℕ) → length xs ≤ n → All P (take n xs) → All P xs
all_whole P xs n past all = subst (All P) (take_all xs n past) all

-- the items up to a place, and one more
pub next_item : {X : Type 0} (xs : List X) (i : ℕ) (x : X) → i < length xs → x ≡ get_or xs i x → take (i + 1) xs ≡ take i xs ++ x ∷ []
next_item xs i x below is = take_more xs i x below ∙ ap (λ (y : _). take i xs ++ y ∷ []) (sym is)
