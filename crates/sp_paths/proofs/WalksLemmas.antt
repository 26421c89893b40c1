-- One walk after another: together they take no lane twice.
use Rattle.std.proofs.Common.{◌≡◌, ◌+◌, ◌<◌, ℕ, suc, true, false, List, [], ◌∷◌, ◌++◌, length, refl, sym, ap, subst, ◌∙◌, inl, inr, append_assoc, arith}
use Rattle.std.specs.Prelude.{◌⊎◌, ◌≢◌, slice_index_or}
use Rattle.std.specs.List.{AllPairs, Contains}
use Rattle.std.proofs.lemmas.List.{append-nil, length_push}
use Rattle.std.proofs.lemmas.List.Elements.{All-append, All-nil, All-push, Contains-get_or, Contains-append_cases, Contains-append_left, Contains-append_right}
use Rattle.std.proofs.lemmas.List.Kept.{AllPairs-cons}
use Rattle.std.proofs.lemmas.List.Quantifiers.{all_pairs_push}
use Rattle.laws_paths.proofs.Lists.{Has, contains, has, held}
use Rattle.sp_paths.specs.declared.lane.Lane.{Lane}
use Rattle.sp_paths.specs.Lanes.{flipped, lane_at}
use Rattle.sp_paths.proofs.Places.{in_or_not, walk_in_joined}
use Rattle.sp_paths.specs.Taken.{IsApart, IsLowest, Leads, Taken, first_of, joined}

contains_next : (x : ℕ) (xs : List ℕ) (y : ℕ) → Contains xs y → Contains (x ∷ xs) y
contains_next x xs y h = (suc h.0, omega (arith, h.1), h.2)

leads_same : (old new : List Lane) (s t : ℕ) (walk : List ℕ) → ((i : ℕ) → Contains walk i → lane_at new i ≡ lane_at old i) → Leads new s walk t
    → Leads old s walk t
leads_same old new s t [] same leads = leads
leads_same old new s t (i ∷ walk) same leads =
    let here = same i (0, omega arith, refl) in (
      ap (λ (l : Lane). l.from) (sym here) ∙ leads.0,
      subst (λ (v : ℕ). Leads old v walk t) (ap (λ (l : Lane). l.to) here)
          (leads_same old new (lane_at new i).to t walk (λ j h. same j (contains_next i walk j h)) leads.1),
    )

pairs_both : {X : Type 0} (R : X → X → Type 0) (xs ys : List X) → AllPairs R xs → AllPairs R ys → ((x y : X) → Contains xs x → Contains ys y → R x y)
    → AllPairs R (xs ++ ys)
pairs_both R [] ys one two across = two
pairs_both R (x ∷ xs) ys one two across =
    AllPairs-cons R x (xs ++ ys)
    (All-append (R x) xs ys (λ k d inside. one 0 (suc k) d (omega arith) (omega (arith, inside)))
    (λ k d inside. across x _ (0, omega arith, refl) (Contains-get_or ys k d inside)))
    (pairs_both R xs ys (λ i j d less inside. one (suc i) (suc j) d (omega (arith, less)) (omega (arith, inside))) two
    (λ u v h k. across u v (suc h.0, omega (arith, h.1), h.2) k))

joined_push : (walks : List (List ℕ)) (walk : List ℕ) → joined (walks ++ walk ∷ []) ≡ joined walks ++ walk
joined_push [] walk = append-nil walk
joined_push (w ∷ walks) walk = ap (λ (rest : List ℕ). w ++ rest) (joined_push walks walk) ∙ sym (append_assoc w (joined walks) walk)

module _ (old mid new : List Lane) (xs ys : List ℕ) (a : Taken old mid xs) (b : Taken mid new ys) where
  -- what the second takes, the first hasn't
  apart : (i : ℕ) → Contains xs i → Contains ys i → ⊥
  apart i h k =
      let not_used : (flipped (lane_at old i)).used ≡ false = rw (a.used i h) refl in
      let x : true ≡ false = sym (b.used i k) ∙ ap (λ (l : Lane). l.used) (a.free i h) ∙ not_used in absurd cc

  pub as_before : (i : ℕ) → Contains ys i → lane_at mid i ≡ lane_at old i
  as_before i k = a.others i (λ h. apart i h k)

  either : (P : ℕ → Type 0) → ((i : ℕ) → Contains xs i → P i) → ((i : ℕ) → Contains ys i → P i) → (i : ℕ) → Contains (xs ++ ys) i → P i
  either P one two i h = go (Contains-append_cases xs ys i h)
    where
      go : Contains xs i ⊎ Contains ys i → P i
      go (inl k) = one i k
      go (inr k) = two i k

  pub taken_both : Taken old new (xs ++ ys)
  taken_both = record {
    long = b.long ∙ a.long;
    inside = either (λ i. i < length old) a.inside (λ i k. omega (arith, b.inside i k, a.long));
    used = either (λ i. (lane_at old i).used ≡ true) a.used (λ i k. ap (λ (l : Lane). l.used) (sym (as_before i k)) ∙ b.used i k);
    free = either (λ i. lane_at new i ≡ flipped (lane_at old i)) (λ i h. b.others i (apart i h) ∙ a.free i h) (λ i k. b.free i k ∙ ap flipped (as_before i k));
    others = λ i out. b.others i (λ k. out (Contains-append_right xs ys i k)) ∙ a.others i (λ h. out (Contains-append_left xs ys i h));
    once = pairs_both (λ i j. i ≢ j) xs ys a.once b.once (λ i j h k e. apart i h (subst (Contains ys) (sym e) k));
  }

nothing_in : (i : ℕ) → Contains [] i → ⊥
nothing_in i h = omega (arith, h.1)

pub none_taken : (old : List Lane) (s t : ℕ) → IsApart old old s t 0 []
none_taken old s t = record {
  count = refl;
  lead = All-nil (λ walk. Leads old s walk t);
  taken = record {
    long = refl;
    inside = λ i h. absurd (nothing_in i h);
    used = λ i h. absurd (nothing_in i h);
    free = λ i h. absurd (nothing_in i h);
    others = λ i h. refl;
    once = λ i j d less inside. absurd (omega (arith, inside));
  };
  lowest = All-nil (λ walk. IsLowest old s (first_of walk));
  ascend = λ apart i j d less inside. absurd (omega (arith, inside));
}

-- a lane that is used after a walk was taken was used before, and is the same
used_before : (old new : List Lane) (places : List ℕ) → Taken old new places → (k : ℕ) → (lane_at new k).used ≡ true → lane_at new k ≡ lane_at old k
used_before old new places taken k used = go (in_or_not places k)
  where
    go : Has places k ⊎ (Has places k → ⊥) → lane_at new k ≡ lane_at old k
    go (inl h) =
        let c = contains places k h in
        let not_used : (flipped (lane_at old k)).used ≡ false = rw (taken.used k c) refl in
        let x : true ≡ false = sym used ∙ ap (λ (l : Lane). l.used) (taken.free k c) ∙ not_used in absurd cc
    go (inr out) = taken.others k (λ c. out (has places k c))

lowest_after : (old new : List Lane) (places : List ℕ) (s i : ℕ) → Taken old new places → IsLowest old s i → IsLowest new s i
lowest_after old new places s i taken low k less used =
    let same = used_before old new places taken k used in
    subst (λ (l : Lane). l.from ≢ s) (sym same) (low k less (ap (λ (l : Lane). l.used) (sym same) ∙ used))

-- a walk to another part has a first lane, which begins where the walk does
begins_with : (lanes : List Lane) (s t : ℕ) (walk : List ℕ) → s ≢ t → Leads lanes s walk t
    → Contains walk (first_of walk) × ((lane_at lanes (first_of walk)).from ≡ s)
begins_with lanes s t [] apart leads = absurd (apart leads)
begins_with lanes s t (i ∷ walk) apart leads = ((0, omega arith, refl), leads.0)

-- the first lane of a walk that is taken later stands after that of an earlier one
after_first : (old mid new : List Lane) (s t n : ℕ) (walks : List (List ℕ)) (walk : List ℕ) → IsApart old mid s t n walks → Taken mid new walk
    → Leads mid s walk t → s ≢ t
    → (earlier : List ℕ) → Has walks earlier → first_of earlier < first_of walk
after_first old mid new s t n walks walk a b leads apart earlier h =
    let this = begins_with mid s t walk apart leads in
    let that = begins_with old s t earlier apart (held (λ w. Leads old s w t) walks earlier a.lead h) in
    let used = b.used (first_of walk) this.0 in
    let low = held (λ w. IsLowest mid s (first_of w)) walks earlier a.lowest h in
    let at = contains (joined walks) (first_of earlier) (walk_in_joined walks earlier (first_of earlier) h (has earlier (first_of earlier) that.0)) in
    let not_used : (flipped (lane_at old (first_of earlier))).used ≡ false = rw (a.taken.used (first_of earlier) at) refl in
    let other : first_of walk ≢ first_of earlier = λ e.
    (let x : true ≡ false = sym used ∙ ap (λ (k : ℕ). (lane_at mid k).used) e ∙ ap (λ (l : Lane). l.used) (a.taken.free (first_of earlier) at) ∙ not_used in
    absurd cc) in
    let not_below : first_of walk < first_of earlier → ⊥ = λ less. low (first_of walk) less used this.1 in
    above (first_of earlier) (first_of walk) other not_below
  where
    above : (a b : ℕ) → b ≢ a → (b < a → ⊥) → a < b
    above a b other not_below = grind arith

-- one walk more
pub one_more : (old mid new : List Lane) (s t n : ℕ) (walks : List (List ℕ)) (walk : List ℕ) → IsApart old mid s t n walks → Taken mid new walk
    → Leads mid s walk t
    → IsLowest mid s (first_of walk) → IsApart old new s t (n + 1) (walks ++ walk ∷ [])
one_more old mid new s t n walks walk a b leads first = record {
  count = length_push walks walk ∙ omega (arith, a.count);
  lead = All-push (λ w. Leads old s w t) walks walk a.lead (leads_same old mid s t walk (as_before old mid new (joined walks) walk a.taken b) leads);
  taken = subst (Taken old new) (sym (joined_push walks walk)) (taken_both old mid new (joined walks) walk a.taken b);
  lowest = All-push (λ w. IsLowest new s (first_of w)) walks walk
      (λ k d inside. lowest_after mid new walk s (first_of (slice_index_or walks k d)) b (a.lowest k d inside))
      (lowest_after mid new walk s (first_of walk) b first);
  ascend = λ apart. all_pairs_push (λ v w. first_of v < first_of w) walks walk (a.ascend apart)
      (λ k d inside. after_first old mid new s t n walks walk a b leads apart (slice_index_or walks k d)
      (has walks (slice_index_or walks k d) (Contains-get_or walks k d inside)));
}
