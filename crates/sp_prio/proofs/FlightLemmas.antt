-- What is in flight, pair by pair, and entry by entry as a poll fills it.
use Rattle.std.proofs.Common.{◌≡◌, ◌<◌, ◌≤◌, ℕ, zero, suc, ◌+◌, ◌-◌, Bool, true, false, List, [], ◌∷◌, ◌++◌, length, drop, Option, None, Some, refl, ap, ◌∙◌}
use Rattle.std.proofs.Common.{arith, nat_le}
use Rattle.std.specs.Prelude.{filter, find, not, slice_get}
use Rattle.std.specs.List.{flat_map, list_any}
use Rattle.std.proofs.lemmas.Bool.Decides.{nat_tests}
use Rattle.std.proofs.lemmas.List.Concat.{flat_map-cons}
use Rattle.std.proofs.lemmas.List.{length_push}
use Rattle.sp_base.specs.declared.limits.TheConstants.{MAX_MESSAGES}
use Rattle.sp_base.proofs.FewLemmas.{drop_first}
use Rattle.sp_frame.specs.Views.{as_list}
use Rattle.sp_prio.specs.Flight.{launched_with, with_flight}
use Rattle.sp_prio.specs.declared.flight.Flight.{Flight}
use Rattle.sp_rules.specs.PrioPeer.{PrioPeer, filled, flown, lands, launched, numbered, waits}
use Rattle.sp_rules.specs.Store.{Store, entry_in, has_id, next_besides}
use Rattle.sp_rules.specs.declared.store.Entry.{Entry}
use Rattle.std.specs.Option.{option_map}

-- ---- what passes from a place on

pub passes_at : {X : Type 0} (p : X → Bool) (xs : List X) (i : ℕ) (x : X) → slice_get xs i ≡ Some x → p x ≡ true → filter p (drop i xs)
    ≡ x ∷ filter p (drop (i + 1) xs)
passes_at p xs i x at passes = ap (filter p) (drop_first xs i x at) ∙ rw passes refl

pub fails_at : {X : Type 0} (p : X → Bool) (xs : List X) (i : ℕ) (x : X) → slice_get xs i ≡ Some x → p x ≡ false → filter p (drop i xs)
    ≡ filter p (drop (i + 1) xs)
fails_at p xs i x at fails = ap (filter p) (drop_first xs i x at) ∙ rw fails refl

-- ---- which still wait

found_any : {X : Type 0} (p : X → Bool) (xs : List X) (x : X) → find p xs ≡ Some x → list_any p xs ≡ true
found_any p [] x found = absurd (cc)
found_any {X} p (y ∷ ys) x found = go (p y) refl (found_any p ys x)
  where
    go : (t : Bool) → p y ≡ t → (find p ys ≡ Some x → list_any p ys ≡ true) → list_any p (y ∷ ys) ≡ true
    go true passes rest = rw passes refl
    go false fails rest = rw fails (rest (rw fails at found))

none_any : {X : Type 0} (p : X → Bool) (xs : List X) → find p xs ≡ None → list_any p xs ≡ false
none_any p [] none = refl
none_any {X} p (y ∷ ys) none = go (p y) refl (none_any p ys)
  where
    go : (t : Bool) → p y ≡ t → (find p ys ≡ None → list_any p ys ≡ false) → list_any p (y ∷ ys) ≡ false
    go true passes rest = absurd (let e : Some y ≡ None = rw passes at none in cc)
    go false fails rest = rw fails (rest (rw fails at none))

pub waits_at : (s : Store) (pairs : List (ℕ × ℕ)) (i : ℕ) (pair : ℕ × ℕ) (e : Entry) → slice_get pairs i ≡ Some pair → entry_in s pair.1 ≡ Some e →
    filter (waits s) (drop i pairs) ≡ pair ∷ filter (waits s) (drop (i + 1) pairs)
waits_at s pairs i pair e at there = passes_at (waits s) pairs i pair at (found_any (has_id pair.1) s.entries e there)

pub gone_at : (s : Store) (pairs : List (ℕ × ℕ)) (i : ℕ) (pair : ℕ × ℕ) → slice_get pairs i ≡ Some pair → entry_in s pair.1 ≡ None →
    filter (waits s) (drop i pairs) ≡ filter (waits s) (drop (i + 1) pairs)
gone_at s pairs i pair at none = fails_at (waits s) pairs i pair at (none_any (has_id pair.1) s.entries none)

-- ---- their messages

pub flown_at : (s : Store) (pairs : List (ℕ × ℕ)) (i : ℕ) (pair : ℕ × ℕ) (e : Entry) → slice_get pairs i ≡ Some pair → entry_in s pair.1 ≡ Some e →
    flat_map (flown s) (drop i pairs) ≡ (pair.0, e) ∷ flat_map (flown s) (drop (i + 1) pairs)
flown_at s pairs i pair e at there =
    ap (flat_map (flown s)) (drop_first pairs i pair at) ∙ flat_map-cons (flown s) pair (drop (i + 1) pairs)
    ∙ ap (λ (found : Option Entry). as_list (option_map (numbered pair.0) found) ++ flat_map (flown s) (drop (i + 1) pairs)) there

pub none_flown_at : (s : Store) (pairs : List (ℕ × ℕ)) (i : ℕ) (pair : ℕ × ℕ) → slice_get pairs i ≡ Some pair → entry_in s pair.1 ≡ None →
    flat_map (flown s) (drop i pairs) ≡ flat_map (flown s) (drop (i + 1) pairs)
none_flown_at s pairs i pair at none =
    ap (flat_map (flown s)) (drop_first pairs i pair at) ∙ flat_map-cons (flown s) pair (drop (i + 1) pairs)
    ∙ ap (λ (found : Option Entry). as_list (option_map (numbered pair.0) found) ++ flat_map (flown s) (drop (i + 1) pairs)) none

-- ---- which a number acknowledges

abbrev pub stays : ℕ → ℕ × ℕ → Bool
stays number pair = not (lands number pair)

pub above_stays : (number : ℕ) (pair : ℕ × ℕ) → number < pair.0 → stays number pair ≡ true
above_stays number pair above = let no : nat_le pair.0 number ≡ false = grind (arith, nat_tests) in ap not no

pub above_lands : (number : ℕ) (pair : ℕ × ℕ) → number < pair.0 → lands number pair ≡ false
above_lands number pair above = grind (arith, nat_tests)

pub within_stays : (number : ℕ) (pair : ℕ × ℕ) → pair.0 ≤ number → stays number pair ≡ false
within_stays number pair within = let yes : nat_le pair.0 number ≡ true = grind (arith, nat_tests) in ap not yes

pub within_lands : (number : ℕ) (pair : ℕ × ℕ) → pair.0 ≤ number → lands number pair ≡ true
within_lands number pair within = grind (arith, nat_tests)

-- ---- a poll fills it

-- no entry is left
pub filled_none : (room : ℕ) (q : PrioPeer) → next_besides q.store q.flight q.last ≡ None → filled room q ≡ q
filled_none zero q none = refl
filled_none (suc room) q none = ap (λ (next : Option Entry). filled room (launched q next)) none ∙ filled_none room q none

-- one goes in flight
pub filled_some : (q : PrioPeer) (f : Flight) (e : Entry) → length f.pairs < MAX_MESSAGES → next_besides q.store f.pairs f.cursor ≡ Some e →
    filled (MAX_MESSAGES - length f.pairs) (with_flight q f) ≡ filled (MAX_MESSAGES - length (launched_with f e).pairs) (with_flight q (launched_with f e))
filled_some q f e room next =
    let one : MAX_MESSAGES - length f.pairs ≡ suc (MAX_MESSAGES - length (launched_with f e).pairs) = omega (
      arith,
      room,
      length_push f.pairs (f.number + 1, e.id),
    ) in
    ap (λ (n : ℕ). filled n (with_flight q f)) one
    ∙ ap (λ (found : Option Entry). filled (MAX_MESSAGES - length (launched_with f e).pairs) (launched (with_flight q f) found)) next
