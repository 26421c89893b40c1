-- Entries in places that stay: each under its id, in order of arrival. Where an entry went, its place is empty.
use Rattle.std.specs.Prelude.{ℕ, ◌≡◌, ◌+◌, ◌<◌, ◌≤◌, List, [], ◌∷◌, length, All, IfSome, Option}
use Rattle.std.specs.List.{filter_map}
use Rattle.std.specs.Map.{values_of}
use Rattle.sp_rules.specs.declared.store.Entry.{Entry}

-- the entries of these places, but for the empty ones
abbrev pub live : List (Option Entry) → List Entry
live slots = filter_map (λ slot. slot) slots

-- the same of places with their ids
abbrev pub live_of : List (ℕ × Option Entry) → List Entry
live_of places = live (values_of places)

-- ids rise from above this number on, and each entry stands under its own
abbrev pub Stands : ℕ → List (ℕ × Option Entry) → Type 0
Stands low [] = Unit {0}
Stands low (p ∷ ps) = (low < p.0) × IfSome p.1 (λ e. e.id ≡ p.0) × Stands p.0 ps

-- ids of entries rise from above this number on
abbrev pub Rises : ℕ → List Entry → Type 0
Rises low [] = Unit {0}
Rises low (e ∷ es) = (low < e.id) × Rises e.id es

-- what always holds of a map and its twin: at most one entry more than may stay is there; the twin has none; and each has as many places as are
-- ever used (`most`), of `room` and `twin_room` that there are
pub record IsPlaced (capacity last count most : ℕ) (places : List (ℕ × Option Entry)) (room : ℕ) (twin : List (ℕ × Option Entry)) (twin_room : ℕ)
    : Type 0 where
  pub enough : capacity + 1 < most
  pub counted : count ≡ length (live_of places)
  pub few : count ≤ capacity + 1
  pub stand : Stands 0 places
  pub below : All (λ p. p.0 ≤ last) places
  pub roomy : most ≤ room
  pub empty : twin ≡ []
  pub twin_roomy : most ≤ twin_room
