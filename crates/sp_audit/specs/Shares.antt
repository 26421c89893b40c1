-- Which entry of a full place may go, as tests.
use Rattle.std.specs.Prelude.{ℕ, ◌-◌, ◌/◌, ◌==◌, ◌&&◌, ◌||◌, nat_le, nat_lt, Bool, not, List, length}
use Rattle.std.specs.List.{list_all}
use Rattle.sp_runs.specs.Held.{Held, count_held, sources_held}

-- no source has more entries than so many
abbrev pub is_most : List Held → ℕ → Bool
is_most hs most = list_all (λ h. nat_le (count_held hs h.src) most) hs

-- none of the sources that have so many is below this one
abbrev pub is_lowest_source : List Held → ℕ → ℕ → Bool
is_lowest_source hs most src = list_all (λ h. not (count_held hs h.src == most) || nat_le src h.src) hs

-- no entry of the source has a lower priority
abbrev pub is_lowest : List Held → ℕ → ℕ → Bool
is_lowest hs src prio = list_all (λ h. not (h.src == src) || nat_le prio h.prio) hs

-- each of these of the source has a higher one
abbrev pub is_first : List Held → ℕ → ℕ → Bool
is_first before src prio = list_all (λ h. not (h.src == src) || nat_lt prio h.prio) before

-- the entry, which stands after those before it, may go under this id
abbrev pub may_go : (capacity : ℕ) → (hs before : List Held) → Held → ℕ → Bool
may_go capacity hs before e id =
    (e.id == id)
    && (is_most hs (count_held hs e.src)
    && (is_lowest_source hs (count_held hs e.src) e.src
    && (is_lowest hs e.src e.prio && (is_first before e.src e.prio && nat_le (capacity / length (sources_held hs)) (count_held hs e.src - 1)))))
