-- Which of one source's entries is wanted.
use Rattle.std.specs.Prelude.{ℕ, nat_lt, Bool, true, false, List, filter, Option, Some, None}
use Rattle.sp_rules.specs.Choices.{first_by}
use Rattle.std.specs.Option.{option_and_then}
use Rattle.sp_rules.specs.Store.{free, is_of, next_source, priority}
use Rattle.sp_rules.specs.declared.store.Entry.{Entry}
use Rattle.sp_store.specs.declared.choice.Wanted.{Wanted}
use Rattle.sp_store.specs.declared.choice.Wanted.TheVariants.{HighestPriority, LowestPriority}

abbrev pub goes_before : Wanted → Entry → Entry → Bool
goes_before LowestPriority a b = nat_lt (priority a) (priority b)
goes_before HighestPriority a b = nat_lt (priority b) (priority a)

-- the wanted one among a source's entries
abbrev pub choice : Wanted → List Entry → ℕ → Option Entry
choice wanted es id = first_by (goes_before wanted) (filter (is_of id) es)

-- the first entry goes before the second, or there is no second
abbrev pub comes_before : Wanted → Option Entry → Option Entry → Bool
comes_before wanted entry None = true
comes_before wanted None (Some other) = false
comes_before wanted (Some entry) (Some other) = goes_before wanted entry other

-- the entry that is served after one of this source, of those that aren't in flight
abbrev pub next_choice : List (ℕ × ℕ) → List Entry → Option ℕ → Option Entry
next_choice flight es last = option_and_then (choice HighestPriority (free flight es)) (next_source (free flight es) last)
