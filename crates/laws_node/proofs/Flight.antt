-- What is in flight to a neighbour: as many entries of its store at most as there are pairs, each under a number that was given.
use Rattle.std.proofs.Common.{◌≤◌, ℕ, Bool, List, [], ◌∷◌, length, Option, Some, None, arith, length-append}
use Rattle.std.specs.Prelude.{IfSome}
use Rattle.std.specs.List.{All, find, flat_map}
use Rattle.std.specs.Option.{option_map}
use Rattle.std.proofs.lemmas.List.Elements.{All-append, All-cons, All-head, All-nil, All-tail}
use Rattle.sp_frame.specs.Views.{as_list}
use Rattle.sp_rules.specs.PrioPeer.{PrioPeer, flown, in_flight, numbered}
use Rattle.sp_rules.specs.Store.{Store, entry_in, has_id}
use Rattle.sp_rules.specs.declared.store.Entry.{Entry}
use Rattle.laws_node.specs.Sizes.{Sizes}
use Rattle.laws_node.specs.Stores.{EntryHolds, PrioPeerHolds, StoreHolds}
use Rattle.laws_node.proofs.Tables.{cond_either}

-- an entry that a store may have, under a link number up to the greatest
pub record Flies (k : Sizes) (last most : ℕ) (m : ℕ × Entry) : Type 0 where
  pub number : m.0 ≤ most
  pub entry : EntryHolds k last m.1

found_holds : {X : Type 0} (P : X → Type 0) (test : X → Bool) (xs : List X) → All P xs → IfSome (find test xs) P
found_holds P test [] all = tt
found_holds P test (x ∷ xs) all =
    cond_either (λ o. IfSome o P) (test x) (Some x) (find test xs) (All-head P x xs all) (found_holds P test xs (All-tail P x xs all))

pair_holds : (k : Sizes) (last most number : ℕ) (o : Option Entry) → number ≤ most → IfSome o (EntryHolds k last)
    → All (Flies k last most) (as_list (option_map (numbered number) o))
pair_holds k last most number None low h = All-nil (Flies k last most)
pair_holds k last most number (Some e) low h =
    All-cons (Flies k last most) (number, e) [] (record { number = low; entry = h }) (All-nil (Flies k last most))

pairs_hold : (k : Sizes) (ids most : ℕ) (s : Store) (pairs : List (ℕ × ℕ)) → StoreHolds k ids s → All (λ pair. pair.0 ≤ most) pairs
    → All (Flies k s.last most) (flat_map (flown s) pairs)
pairs_hold k ids most s [] h low = All-nil (Flies k s.last most)
pairs_hold k ids most s (pair ∷ pairs) h low =
    All-append (Flies k s.last most) (flown s pair) (flat_map (flown s) pairs)
    (pair_holds k s.last most pair.0 (entry_in s pair.1) (All-head (λ p. p.0 ≤ most) pair pairs low)
    (found_holds (EntryHolds k s.last) (has_id pair.1) s.entries h.entries))
    (pairs_hold k ids most s pairs h (All-tail (λ p. p.0 ≤ most) pair pairs low))

pub flight_holds : (k : Sizes) (numbers ids : ℕ) (q : PrioPeer) → PrioPeerHolds k numbers ids q → All (Flies k q.store.last q.number) (in_flight q)
flight_holds k numbers ids q h = pairs_hold k ids q.number q.store q.flight h.store h.given

one_or_none : {X : Type 0} (o : Option X) → length (as_list o) ≤ 1
one_or_none None = omega arith
one_or_none (Some x) = omega arith

pairs_few : (s : Store) (pairs : List (ℕ × ℕ)) → length (flat_map (flown s) pairs) ≤ length pairs
pairs_few s [] = omega arith
pairs_few s (pair ∷ pairs) =
    let one = one_or_none (option_map (numbered pair.0) (entry_in s pair.1)) in
    let others = pairs_few s pairs in
    let both = length-append (flown s pair) (flat_map (flown s) pairs) in
    omega (arith, one, others, both)

pub flight_few : (q : PrioPeer) → length (in_flight q) ≤ length q.flight
flight_few q = pairs_few q.store q.flight
