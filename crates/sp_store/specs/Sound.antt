-- What always holds of a store: it holds no more than it may, and the entries of each source are counted.
use Rattle.std.specs.Prelude.{ℕ, ◌≡◌, ◌<◌, ◌≤◌, List, length, sum}
use Rattle.std.specs.List.{slice_index}
use Rattle.sp_rules.specs.Store.{Store, count_of}
use Rattle.sp_rules.specs.declared.store.Entry.{Entry}

-- these are the numbers of the entries of each source
pub record IsCounted (entries : List Entry) (counts : List ℕ) : Type 0 where
  pub places : length counts ≡ 256
  pub each : (id : ℕ) → id < 256 → slice_index counts id ≡ count_of entries id
  pub all : sum counts ≡ length entries

-- a store within its capacity, with the right number of entries of each source
pub record IsSound (store : Store) (counts : List ℕ) : Type 0 where
  pub bounded : length store.entries ≤ store.capacity
  pub counted : IsCounted store.entries counts
