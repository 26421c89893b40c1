-- The header of a number is in its ranges.
use Rattle.std.proofs.Common.{◌≡◌, ◌<◌, ℕ, ◌==◌, ◌&&◌, Bool, true, nat_le, nat_lt, List, [], ◌∷◌, ◌++◌, refl, inl, inr, arith, replicate, length}
use Rattle.std.specs.List.{All, AllPairs}
use Rattle.std.proofs.lemmas.Bool.{cases_Bool, and_parts, eqb-true, leb-true, ltb-true}
use Rattle.std.proofs.lemmas.Bool.Decides.{nat_tests}
use Rattle.std.proofs.lemmas.List.Elements.{All-append, All-cons, All-nil}
use Rattle.std.proofs.lemmas.List.Kept.{AllPairs-cons}
use Rattle.byteorder.specs.Endian.{big_bytes}
use Rattle.sp_base.proofs.NumberLemmas.{AreBytes-big_bytes}
use Rattle.sp_base.specs.Spelling.{AreBytes}
use Rattle.sp_base.specs.declared.format.TheConstants.{FORMAT_1}
use Rattle.sp_graph.specs.Edges.{IsEdge, IsGraphIn, IsLower}
use Rattle.sp_schedule.specs.Lines.{is_lower}
use Rattle.sp_schedule.specs.Scenarios.{IsScenario, IsSeed}
use Rattle.sp_topology.specs.declared.topology.Edge.{Edge}
use Rattle.sp_generate.specs.Generated.{edges, generated_scenario, seed}

-- ---- bytes

pub bytes_joined : (xs ys : List ℕ) → AreBytes xs → AreBytes ys → AreBytes (xs ++ ys)
bytes_joined xs ys one two = All-append (λ (b : ℕ). b < 256) xs ys one two

abbrev pub are_small : List ℕ → Bool
are_small [] = true
are_small (b ∷ bs) = nat_lt b 256 && are_small bs

pub small : (bs : List ℕ) → are_small bs ≡ true → AreBytes bs
small [] is = All-nil (λ (b : ℕ). b < 256)
small (b ∷ bs) is =
    let both = and_parts (nat_lt b 256) (are_small bs) is in
    All-cons (λ (b : ℕ). b < 256) b bs (ltb-true b 256 both.0) (small bs both.1)

seed_is : (number : ℕ) → IsSeed (seed number)
seed_is number = (refl, bytes_joined (replicate 28 0) (big_bytes 4 number) (small (replicate 28 0) refl) (AreBytes-big_bytes 4 number))

-- ---- edges

abbrev is_edge : Edge → Bool
is_edge e = nat_le 1 e.low.0 && (nat_lt e.low.0 e.high.0 && (nat_le e.high.0 8 && (nat_le 1 e.weight && nat_le e.weight 1000000)))

edge_means : (e : Edge) → is_edge e ≡ true → IsEdge 8 e
edge_means e is =
    let one = and_parts (nat_le 1 e.low.0) (nat_lt e.low.0 e.high.0 && (nat_le e.high.0 8 && (nat_le 1 e.weight && nat_le e.weight 1000000))) is in
    let two = and_parts (nat_lt e.low.0 e.high.0) (nat_le e.high.0 8 && (nat_le 1 e.weight && nat_le e.weight 1000000)) one.1 in
    let three = and_parts (nat_le e.high.0 8) (nat_le 1 e.weight && nat_le e.weight 1000000) two.1 in
    let four = and_parts (nat_le 1 e.weight) (nat_le e.weight 1000000) three.1 in
    (leb-true 1 e.low.0 one.0, ltb-true e.low.0 e.high.0 two.0, leb-true e.high.0 8 three.0, (leb-true 1 e.weight four.0, leb-true e.weight 1000000 four.1))

lower_means : (f e : Edge) → is_lower f e ≡ true → IsLower f e
lower_means f e is =
    elim (cases_Bool (nat_lt f.low.0 e.low.0)) [
      | inl less ↦ inl (grind (arith, nat_tests, less))
      | inr other ↦ (
          let rest : ((f.low.0 == e.low.0) && nat_lt f.high.0 e.high.0) ≡ true = rw other at is in
          let both = and_parts (f.low.0 == e.low.0) (nat_lt f.high.0 e.high.0) rest in
          inr (eqb-true f.low.0 e.low.0 both.0, grind (arith, nat_tests, both.1)))
    ]

-- a test that all pass
abbrev pub all_pass : {X : Type 0} → (X → Bool) → List X → Bool
all_pass p [] = true
all_pass p (x ∷ xs) = p x && all_pass p xs

pub all_mean : {X : Type 0} (p : X → Bool) (P : X → Type 0) → ((x : X) → p x ≡ true → P x) → (xs : List X) → all_pass p xs ≡ true → All P xs
all_mean p P means [] is = All-nil P
all_mean p P means (x ∷ xs) is =
    let both = and_parts (p x) (all_pass p xs) is in
    All-cons P x xs (means x both.0) (all_mean p P means xs both.1)

abbrev ascend : List Edge → Bool
ascend [] = true
ascend (e ∷ es) = all_pass (is_lower e) es && ascend es

ascend_means : (es : List Edge) → ascend es ≡ true → AllPairs IsLower es
ascend_means [] is = λ i j d less short. absurd (omega (arith, less, short))
ascend_means (e ∷ es) is =
    let both = and_parts (all_pass (is_lower e) es) (ascend es) is in
    AllPairs-cons IsLower e es (all_mean (is_lower e) (IsLower e) (lower_means e) es both.0) (ascend_means es both.1)

graph_is : IsGraphIn FORMAT_1 (record { nodes = 8; edges = edges })
graph_is = record {
  nodes = (leb-true 2 8 refl, leb-true 8 16 refl);
  few = leb-true (length edges) 120 refl;
  edges = all_mean is_edge (IsEdge 8) edge_means edges refl;
  ascend = ascend_means edges refl;
}

pub scenario_is : (number : ℕ) → IsScenario (generated_scenario number)
unfolding generated_scenario
scenario_is number = record {
  format = inl refl;
  seed = seed_is number;
  limits = record { buffer = (leb-true 1 16 refl, leb-true 16 64 refl); store = (leb-true 1 16 refl, leb-true 16 256 refl) };
  graph = graph_is;
  bad = (leb-true 1 4 refl, leb-true 4 8 refl, (leb-true 5 8 refl, leb-true 8 8 refl, tt));
  epochs = λ has. absurd cc;
}
