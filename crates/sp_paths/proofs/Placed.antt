-- Where a part stands among the parts that are there, and what number stands for it.
use Rattle.std.proofs.Common.{◌≡◌, ◌+◌, ◌-◌, ◌*◌, ◌<◌, ◌≤◌, ℕ, zero, suc, Bool, true, false, not, cond, List, [], ◌∷◌, length, map, drop, refl, sym, ap, ◌∙◌}
use Rattle.std.proofs.Common.{inl, inr, arith}
use Rattle.std.specs.Prelude.{◌⊎◌, ◌≢◌, ◌&&◌, ◌==◌, ℤ, pos, nat_lt, slice_index_or}
use Rattle.std.specs.List.{filter, flat_map, range_with_len}
use Rattle.std.proofs.lemmas.Bool.{cases_eq, eqb-true}
use Rattle.std.proofs.lemmas.Bool.Decides.{nat_tests}
use Rattle.sp_base.specs.declared.id.NodeId.{NodeId}
use Rattle.sp_graph.specs.declared.graph.Graph.{Graph}
use Rattle.sp_graph.specs.declared.part.Part.{Part}
use Rattle.sp_graph.specs.declared.part.Part.TheVariants as parts
use Rattle.sp_graph.specs.Certificates.{number_of}
use Rattle.sp_graph.specs.Split.{is_same, nodes_to, parts_of, stays}
use Rattle.laws_paths.proofs.Kept.{is_same_itself, is_same_true, other_number}
use Rattle.laws_paths.proofs.Lists.{Has}
use Rattle.sp_paths.specs.Cheapest.{AreEnds, IsNode}
use Rattle.sp_paths.specs.Parts.{node_of}
use Rattle.sp_paths.specs.Tests.{before, below, place}
use Rattle.sp_paths.proofs.PartLists.{both}
use Rattle.sp_paths.proofs.Ranges.{node_range, part_node}
use Rattle.sp_paths.proofs.Shapes.{from_filter}

-- ---- looking a number up

nothing_found : (ps : List Part) (q : Part) → number_of ps [] q ≡ pos 0
nothing_found [] q = refl
nothing_found (p ∷ ps) q = refl

none_found : (numbers : List ℤ) (q : Part) → number_of [] numbers q ≡ pos 0
none_found numbers q = refl

found_here : (q : Part) (ps : List Part) (k : ℕ) (numbers : List ℤ) → number_of (q ∷ ps) (drop k numbers) q ≡ slice_index_or numbers k (pos 0)
found_here q ps zero [] = refl
found_here q ps zero (n ∷ numbers) = let same = is_same_itself q in rw same refl
found_here q ps (suc k) [] = refl
found_here q ps (suc k) (n ∷ numbers) = found_here q ps k numbers

found_later : (p q : Part) (ps : List Part) (k : ℕ) (numbers : List ℤ) → is_same p q ≡ false
    → number_of (p ∷ ps) (drop k numbers) q ≡ number_of ps (drop (suc k) numbers) q
found_later p q ps zero [] other = sym (nothing_found ps q)
found_later p q ps zero (n ∷ numbers) other = rw other refl
found_later p q ps (suc k) [] other = sym (nothing_found ps q)
found_later p q ps (suc k) (n ∷ numbers) other = found_later p q ps k numbers other

-- past a part that may be there
past : (there : Bool) (p q : Part) (ps : List Part) (k : ℕ) (numbers : List ℤ) → is_same p q ≡ false
    → number_of (cond there (p ∷ ps) ps) (drop k numbers) q ≡ number_of ps (drop (cond there (suc k) k) numbers) q
past true p q ps k numbers other = found_later p q ps k numbers other
past false p q ps k numbers other = refl

hit : (there : Bool) (q : Part) (ps : List Part) (k : ℕ) (numbers : List ℤ) → there ≡ true
    → number_of (cond there (q ∷ ps) ps) (drop k numbers) q ≡ slice_index_or numbers k (pos 0)
hit true q ps k numbers e = found_here q ps k numbers
hit false q ps k numbers e = absurd cc

absent : (ps : List Part) (numbers : List ℤ) (q : Part) → (Has ps q → ⊥) → number_of ps numbers q ≡ pos 0
absent [] numbers q out = refl
absent (p ∷ ps) [] q out = refl
absent (p ∷ ps) (n ∷ numbers) q out = go (is_same p q) refl (absent ps numbers q (λ h. out (inr h)))
  where
    go : (b : Bool) → is_same p q ≡ b → number_of ps numbers q ≡ pos 0 → cond (is_same p q) n (number_of ps numbers q) ≡ pos 0
    go true e rest = absurd (out (inl (is_same_true p q e)))
    go false e rest = rw e rest

-- ---- counting the parts before a node

node : ℕ → NodeId
node n = record { 0 = n }

in_there : (s t : NodeId) (a : ℕ) → stays s t (parts.In (record { 0 = a })) ≡ not (a == s.0)
in_there s t a = go (not (a == s.0))
  where
    go : (b : Bool) → (b && true) ≡ b
    go true = refl
    go false = refl

below_small : (x a : ℕ) → 1 ≤ x → 1 ≤ a → below x a + 1 ≤ a
below_small x a from_one also = go (nat_lt x a) refl
  where
    go : (b : Bool) → nat_lt x a ≡ b → cond b 1 0 + 1 ≤ a
    go true e = let less : x < a = grind (arith, nat_tests) in omega (arith, less, from_one)
    go false e = omega (arith, also)

below_next : (x a : ℕ) → ◌≡◌ {A = ℕ} (below x (a + 1)) (below x a + cond (a == x) 1 0)
below_next x a = go (nat_lt x (a + 1)) refl (nat_lt x a) refl (a == x) refl
  where
    go : (b : Bool) → nat_lt x (a + 1) ≡ b → (c : Bool) → nat_lt x a ≡ c → (d : Bool) → (a == x) ≡ d → ◌≡◌ {A = ℕ} (cond b 1 0) (cond c 1 0 + cond d 1 0)
    go true e true f true g = absurd (let less : x < a = grind (arith, nat_tests) in let same : a ≡ x = eqb-true _ _ g in omega (arith, less, same))
    go true e true f false g = omega arith
    go true e false f true g = omega arith
    go true e false f false g =
        absurd (let less : x < a + 1 = grind (arith, nat_tests) in let not_less : a ≤ x = grind (arith, nat_tests) in let other : a ≢ x =
        grind (arith, nat_tests) in omega (arith, less, not_less, other))
    go false e true f d g =
        absurd (let less : x < a = grind (arith, nat_tests) in let not_less : a + 1 ≤ x = grind (arith, nat_tests) in omega (arith, less, not_less))
    go false e false f true g =
        absurd (let same : a ≡ x = eqb-true _ _ g in let not_less : a + 1 ≤ x = grind (arith, nat_tests) in omega (arith, not_less, same))
    go false e false f false g = omega arith

below_first : (x : ℕ) → 1 ≤ x → ◌≡◌ {A = ℕ} (below x 1) 0
below_first x from_one = omega (arith, below_small x 1 from_one (omega arith))

module _ (s t : NodeId) (from_s : 1 ≤ s.0) (from_t : 1 ≤ t.0) where
  parts_from : ℕ → ℕ → List Part
  parts_from a m = filter (stays s t) (flat_map both (map {A = ℕ} {B = NodeId} (λ v. record { 0 = v }) (range_with_len a m)))

  after_in : ℕ → ℕ
  after_in a = cond (stays s t (parts.In (record { 0 = a }))) (suc (before s t a)) (before s t a)

  after_both : ℕ → ℕ
  after_both a = cond (stays s t (parts.Out (record { 0 = a }))) (suc (after_in a)) (after_in a)

  after_in_is : (a : ℕ) → ◌≡◌ {A = ℕ} (after_in a) (before s t a + cond (a == s.0) 0 1)
  unfolding after_in
  after_in_is a = ap (λ (b : Bool). cond b (suc (before s t a)) (before s t a)) (in_there s t a) ∙ go (a == s.0)
    where
      go : (b : Bool) → ◌≡◌ {A = ℕ} (cond (not b) (suc (before s t a)) (before s t a)) (before s t a + cond b 0 1)
      go true = omega arith
      go false = omega arith

  before_next : (a : ℕ) → 1 ≤ a → ◌≡◌ {A = ℕ} (after_both a) (before s t (a + 1))
  unfolding after_both
  before_next a from_one = go (a == s.0) (a == t.0) (after_in_is a) (below_next s.0 a) (below_next t.0 a)
    where
      go : (b d : Bool) → ◌≡◌ {A = ℕ} (after_in a) (before s t a + cond b 0 1) → ◌≡◌ {A = ℕ} (below s.0 (a + 1)) (below s.0 a + cond b 1 0)
          → ◌≡◌ {A = ℕ} (below t.0 (a + 1)) (below t.0 a + cond d 1 0)
          → ◌≡◌ {A = ℕ} (cond (not d) (suc (after_in a)) (after_in a)) (before s t (a + 1))
      go true true e f g = omega (arith, e, f, g, below_small s.0 a from_s from_one, below_small t.0 a from_t from_one)
      go true false e f g = omega (arith, e, f, g, below_small s.0 a from_s from_one, below_small t.0 a from_t from_one)
      go false true e f g = omega (arith, e, f, g, below_small s.0 a from_s from_one, below_small t.0 a from_t from_one)
      go false false e f g = omega (arith, e, f, g, below_small s.0 a from_s from_one, below_small t.0 a from_t from_one)

  -- ---- the place of a part

  number_at_place : (m a : ℕ) (numbers : List ℤ) (q : Part) → 1 ≤ a → stays s t q ≡ true → a ≤ (node_of q).0 → (node_of q).0 < a + m
      → number_of (parts_from a m) (drop (before s t a) numbers) q ≡ slice_index_or numbers (place s t q) (pos 0)
  unfolding parts_from after_in after_both
  number_at_place zero a numbers q from_one there low high = absurd (omega (arith, low, high))
  number_at_place (suc m) a numbers (parts.In v) from_one there low high =
      go (cases_eq a v.0) (λ more. number_at_place m (a + 1) numbers (parts.In v) (omega arith) there more (omega (arith, high)))
    where
      go : (a ≡ v.0) ⊎ (a ≢ v.0)
          → (a + 1 ≤ v.0
          → number_of (parts_from (a + 1) m) (drop (before s t (a + 1)) numbers) (parts.In v) ≡ slice_index_or numbers (place s t (parts.In v)) (pos 0))
          → number_of (parts_from a (suc m)) (drop (before s t a) numbers) (parts.In v) ≡ slice_index_or numbers (before s t v.0) (pos 0)
      go (inl same) later =
          let is : parts.In (record { 0 = a }) ≡ parts.In v = ap (λ (n : ℕ). parts.In (record { 0 = n })) same in
          let open_part = stays s t (parts.In (record { 0 = a })) in
          let more = cond (stays s t (parts.Out (record { 0 = a }))) (parts.Out (record { 0 = a }) ∷ (parts_from (a + 1) m)) (parts_from (a + 1) m) in
          ap (λ (p : Part). number_of (cond open_part (p ∷ more) more) (drop (before s t a) numbers) (parts.In v)) is
          ∙ hit open_part (parts.In v) more (before s t a) numbers (ap (stays s t) is ∙ there)
          ∙ ap (λ (n : ℕ). slice_index_or numbers (before s t n) (pos 0)) same
      go (inr apart) later =
          past (stays s t (parts.In (record { 0 = a }))) (parts.In (record { 0 = a })) (parts.In v)
          (cond (stays s t (parts.Out (record { 0 = a }))) (parts.Out (record { 0 = a }) ∷ (parts_from (a + 1) m)) (parts_from (a + 1) m)) (before s t a)
          numbers (other_number a v.0 apart)
          ∙ past (stays s t (parts.Out (record { 0 = a }))) (parts.Out (record { 0 = a })) (parts.In v) (parts_from (a + 1) m) (after_in a) numbers refl
          ∙ ap (λ (k : ℕ). number_of (parts_from (a + 1) m) (drop k numbers) (parts.In v)) (before_next a from_one) ∙ later (omega (arith, low, apart))
  number_at_place (suc m) a numbers (parts.Out v) from_one there low high =
      go (cases_eq a v.0) (λ more. number_at_place m (a + 1) numbers (parts.Out v) (omega arith) there more (omega (arith, high)))
    where
      go : (a ≡ v.0) ⊎ (a ≢ v.0)
          → (a + 1 ≤ v.0
          → number_of (parts_from (a + 1) m) (drop (before s t (a + 1)) numbers) (parts.Out v) ≡ slice_index_or numbers (place s t (parts.Out v)) (pos 0))
          → number_of (parts_from a (suc m)) (drop (before s t a) numbers) (parts.Out v)
          ≡ slice_index_or numbers (before s t v.0 + cond (v.0 == s.0) 0 1) (pos 0)
      go (inl same) later =
          let is : parts.Out (record { 0 = a }) ≡ parts.Out v = ap (λ (n : ℕ). parts.Out (record { 0 = n })) same in
          let open_part = stays s t (parts.Out (record { 0 = a })) in
          past (stays s t (parts.In (record { 0 = a }))) (parts.In (record { 0 = a })) (parts.Out v)
          (cond open_part (parts.Out (record { 0 = a }) ∷ (parts_from (a + 1) m)) (parts_from (a + 1) m)) (before s t a) numbers refl
          ∙ ap (λ (p : Part). number_of (cond open_part (p ∷ (parts_from (a + 1) m)) (parts_from (a + 1) m)) (drop (after_in a) numbers) (parts.Out v)) is
          ∙ hit open_part (parts.Out v) (parts_from (a + 1) m) (after_in a) numbers (ap (stays s t) is ∙ there)
          ∙ ap (λ (k : ℕ). slice_index_or numbers k (pos 0)) (after_in_is a)
          ∙ ap (λ (n : ℕ). slice_index_or numbers (before s t n + cond (n == s.0) 0 1) (pos 0)) same
      go (inr apart) later =
          past (stays s t (parts.In (record { 0 = a }))) (parts.In (record { 0 = a })) (parts.Out v)
          (cond (stays s t (parts.Out (record { 0 = a }))) (parts.Out (record { 0 = a }) ∷ (parts_from (a + 1) m)) (parts_from (a + 1) m)) (before s t a)
          numbers refl
          ∙ past (stays s t (parts.Out (record { 0 = a }))) (parts.Out (record { 0 = a })) (parts.Out v) (parts_from (a + 1) m) (after_in a) numbers
          (other_number a v.0 apart)
          ∙ ap (λ (k : ℕ). number_of (parts_from (a + 1) m) (drop k numbers) (parts.Out v)) (before_next a from_one) ∙ later (omega (arith, low, apart))

  count_from : (m a : ℕ) → 1 ≤ a → before s t a + length (parts_from a m) ≡ before s t (a + m)
  unfolding parts_from after_in after_both
  count_from zero a from_one = let same : a + 0 ≡ a = omega arith in let more : before s t (a + 0) ≡ before s t a = ap (before s t) same in omega (arith, more)
  count_from (suc m) a from_one =
      go (stays s t (parts.In (record { 0 = a }))) (stays s t (parts.Out (record { 0 = a }))) (before_next a from_one) (count_from m (a + 1) (omega arith))
      (let same : a + 1 + m ≡ a + suc m = omega arith in ap (before s t) same)
    where
      go : (b d : Bool)
          → ◌≡◌ {A = ℕ} (cond d (suc (cond b (suc (before s t a)) (before s t a))) (cond b (suc (before s t a)) (before s t a))) (before s t (a + 1))
          → before s t (a + 1) + length (parts_from (a + 1) m) ≡ before s t (a + 1 + m) → before s t (a + 1 + m) ≡ before s t (a + suc m)
          → before s t a
          + length (cond b (parts.In (record { 0 = a }) ∷ cond d (parts.Out (record { 0 = a }) ∷ (parts_from (a + 1) m)) (parts_from (a + 1) m))
          (cond d (parts.Out (record { 0 = a }) ∷ (parts_from (a + 1) m)) (parts_from (a + 1) m))) ≡ before s t (a + suc m)
      go true true e f g = omega (arith, e, f, g)
      go true false e f g = omega (arith, e, f, g)
      go false true e f g = omega (arith, e, f, g)
      go false false e f g = omega (arith, e, f, g)

before_first : (s t : NodeId) → 1 ≤ s.0 → 1 ≤ t.0 → ◌≡◌ {A = ℕ} (before s t 1) 0
before_first s t from_s from_t = omega (arith, below_first s.0 from_s, below_first t.0 from_t)

pub number_by_place : (g : Graph) (s t : NodeId) (numbers : List ℤ) (q : Part) → AreEnds g s t → stays s t q ≡ true → IsNode g (node_of q)
    → number_of (parts_of g s t) numbers q ≡ slice_index_or numbers (place s t q) (pos 0)
unfolding parts_from
number_by_place g s t numbers q ends there inside =
    ap (λ (k : ℕ). number_of (parts_of g s t) (drop k numbers) q) (sym (before_first s t ends.0.0 ends.1.0))
    ∙ number_at_place s t ends.0.0 ends.1.0 g.nodes 1 numbers q (omega arith) there inside.0 (omega (arith, inside.1))

-- the parts are all but two
pub parts_count : (g : Graph) (s t : NodeId) → AreEnds g s t → length (parts_of g s t) ≡ 2 * g.nodes - 2
unfolding parts_from
parts_count g s t ends =
    let counted = count_from s t ends.0.0 ends.1.0 g.nodes 1 (omega arith) in
    let last_s : ◌≡◌ {A = ℕ} (below s.0 (1 + g.nodes)) 1 = inside s.0 g.nodes ends.0.1 in
    let last_t : ◌≡◌ {A = ℕ} (below t.0 (1 + g.nodes)) 1 = inside t.0 g.nodes ends.1.1 in
    omega (arith, counted, before_first s t ends.0.0 ends.1.0, last_s, last_t)
  where
    inside : (x n : ℕ) → x ≤ n → ◌≡◌ {A = ℕ} (below x (1 + n)) 1
    inside x n low = go (nat_lt x (1 + n)) refl
      where
        go : (b : Bool) → nat_lt x (1 + n) ≡ b → ◌≡◌ {A = ℕ} (cond b 1 0) 1
        go true e = refl
        go false e = absurd (let not_less : 1 + n ≤ x = grind (arith, nat_tests) in omega (arith, low, not_less))

-- a part of no node has no number
pub no_number : (g : Graph) (s t : NodeId) (numbers : List ℤ) (q : Part) → (IsNode g (node_of q) → ⊥) → pos 0 ≡ number_of (parts_of g s t) numbers q
no_number g s t numbers q outside =
    sym (absent (parts_of g s t) numbers q
    (λ h. outside (node_range g.nodes (node_of q) (part_node (nodes_to g.nodes) q (from_filter (stays s t) (flat_map both (nodes_to g.nodes)) q h).0))))
