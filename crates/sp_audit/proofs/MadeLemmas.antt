-- Counting frames hop by hop.
use Rattle.std.proofs.Common.{◌≡◌, ◌<◌, ◌≤◌, ℕ, zero, suc, ◌+◌, ◌-◌, ◌^◌, min, List, [], ◌++◌, length, get_or, set, replicate, refl, sym, ap, ap₂, ◌∙◌, inl}
use Rattle.std.proofs.Common.{inr, arith}
use Rattle.std.proofs.lemmas.List.{get_or-set_other, get_or-set_same, length-set}
use Rattle.sp_base.specs.declared.id.NodeId.{NodeId}
use Rattle.sp_base.specs.declared.limits.TheConstants.{MAX_EVENTS}
use Rattle.sp_runs.specs.Runs.{polls}
use Rattle.sp_schedule_events.specs.declared.event.Event.{Event}
use Rattle.sp_audit.specs.Ends.{AreMade}
use Rattle.sp_audit.proofs.Hops.{cases_below}
use Rattle.sp_audit.proofs.PathLemmas.{get_same}
use Rattle.sp_audit.proofs.SweepLemmas.{polls_append, polls_few}

-- a sum that ends at the greatest number
abbrev pub sum_to : ℕ → ℕ → ℕ
sum_to a b = min (a + b) (2 ^ 64 - 1)

-- the counts of one way after those of some events were added, at the places before this one
pub record AreCounted (old new : List ℕ) (more : ℕ → ℕ) (place : ℕ) : Type 0 where
  pub wide : length new ≡ 256
  pub done : (k : ℕ) → 1 ≤ k → k < place → get_or new k 0 ≡ sum_to (get_or old k 0) (more k)
  pub left : (k : ℕ) → place ≤ k → get_or new k 0 ≡ get_or old k 0

pub counted_on : (old new : List ℕ) (more : ℕ → ℕ) (place x : ℕ) → place < 256 → AreCounted old new more place → x ≡ sum_to (get_or new place 0) (more place)
    → AreCounted old (set new place x) more (place + 1)
counted_on old new more place x below are is = record {
  wide = length-set new place x ∙ are.wide;
  done = λ k some less. elim (cases_below place k) [
    | inl most ↦ (let same : k ≡ place = omega (arith, most, less) in
        ap (λ (n : ℕ). get_or (set new place x) n 0) same ∙ get_or-set_same new place x 0 (omega (arith, below, are.wide)) ∙ is
        ∙ ap (λ (n : ℕ). sum_to n (more place)) (are.left place (omega arith)) ∙ ap (λ (n : ℕ). sum_to (get_or old n 0) (more n)) (sym same))
    | inr more_than ↦ get_or-set_other new place k x 0 (λ same. omega (arith, same, more_than)) ∙ are.done k some more_than
  ];
  left = λ k most. get_or-set_other new place k x 0 (λ same. omega (arith, same, most)) ∙ are.left k (omega (arith, most));
}

-- the frames of a hop, by the place of its second node
abbrev pub forth_of : List NodeId → List Event → NodeId → ℕ → ℕ
forth_of path es d k = polls es (get_or path (k - 1) d) (get_or path k d)

abbrev pub back_of : List NodeId → List Event → NodeId → ℕ → ℕ
back_of path es d k = polls es (get_or path k d) (get_or path (k - 1) d)

within : (n a b : ℕ) → n ≡ sum_to a b → a + b ≤ MAX_EVENTS → n ≡ a + b
within n a b is few = omega (arith, is, few)

pub all_counted : (path : List NodeId) (es more : List Event) (old_forth old_back forth back : List ℕ) → length es + length more ≤ MAX_EVENTS
    → AreMade old_forth old_back path es
    → (n : ℕ) → length path ≤ n → ((d : NodeId) → AreCounted old_forth forth (forth_of path more d) n)
    → ((d : NodeId) → AreCounted old_back back (back_of path more d) n)
    → AreMade forth back path (es ++ more)
all_counted path es more old_forth old_back forth back few made n past one two place d some below =
    let before = made place d some below in
    let u = get_or path (place - 1) d in
    let v = get_or path place d in
    let forth_few = polls_few u v es in
    let more_forth = polls_few u v more in
    let back_few = polls_few v u es in
    let more_back = polls_few v u more in (
      within (get_or forth place 0) (get_or old_forth place 0) (polls more u v) ((one d).done place some (omega (arith, below, past)))
          (omega (arith, before.0, forth_few, more_forth, few))
          ∙ ap (λ (n : ℕ). n + polls more u v) before.0 ∙ sym (polls_append u v es more),
      within (get_or back place 0) (get_or old_back place 0) (polls more v u) ((two d).done place some (omega (arith, below, past)))
          (omega (arith, before.1, back_few, more_back, few))
          ∙ ap (λ (n : ℕ). n + polls more v u) before.1 ∙ sym (polls_append v u es more),
    )

-- no frame was made before the first event
zeros : (n k : ℕ) → get_or {A = ℕ} (replicate n 0) k 0 ≡ 0
zeros zero zero = refl
zeros zero (suc k) = refl
zeros (suc n) zero = refl
zeros (suc n) (suc k) = zeros n k

pub none_made : (path : List NodeId) → AreMade (replicate 256 0) (replicate 256 0) path []
none_made path place d some below = let none : get_or (replicate 256 0) place 0 ≡ 0 = zeros 256 place in (none, none)

-- the ends of a hop, whatever stands for none
pub forth_is : (path : List NodeId) (es : List Event) (d o : NodeId) (place : ℕ) → place < length path
    → polls es (get_or path (place - 1) o) (get_or path place o) ≡ forth_of path es d place
forth_is path es d o place below = ap₂ (λ (u v : NodeId). polls es u v) (get_same path (place - 1) o d (omega (arith, below))) (get_same path place o d below)

pub back_is : (path : List NodeId) (es : List Event) (d o : NodeId) (place : ℕ) → place < length path
    → polls es (get_or path place o) (get_or path (place - 1) o) ≡ back_of path es d place
back_is path es d o place below = ap₂ (λ (u v : NodeId). polls es u v) (get_same path place o d below) (get_same path (place - 1) o d (omega (arith, below)))
