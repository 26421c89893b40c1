-- What a window sees, and what a full store leaves.
use Rattle.std.specs.Prelude.{ℕ, ◌≡◌, ◌≢◌, ◌≤◌, ◌<◌, ◌+◌, ◌-◌, ◌/◌, nat_le, true, ◌||◌, ◌↔◌, List, [], All, AllPairs, length, Option, Some, None}
use Rattle.sp_msg.specs.declared.kept.Kept.{Kept}
use Rattle.sp_rules.specs.Store.{Store, count_of, evicted, next_entry, said, source, sources, victim, without}
use Rattle.sp_rules.specs.Window.{greatest, is_in, is_seen, window_of, with_mark}
use Rattle.sp_rules.specs.declared.store.Entry.{Entry}
use Rattle.sp_rules.specs.declared.store.TheConstants.{IDS}
use Rattle.sp_rules.specs.declared.window.TheConstants.{WINDOW}

-- over any list of marks, in any order
abbrev pub WindowSeesItsMarks : Type 0
WindowSeesItsMarks = (marks : List ℕ) (q : ℕ) → is_seen (window_of marks) q ≡ (is_in q marks || nat_le (q + WINDOW) (greatest marks))

-- the law that a number that was marked is seen
abbrev pub MarkedIsSeen : Type 0
MarkedIsSeen = (ms : List ℕ) (q : ℕ) → is_seen (with_mark ms q) q ≡ true

-- the law that what is seen stays seen
abbrev pub SeenStaysSeen : Type 0
SeenStaysSeen = (ms : List ℕ) (new q : ℕ) → is_seen ms q ≡ true → is_seen (with_mark ms new) q ≡ true

-- entries as a store has them: each with an id of its own, and of a source that is an id
pub record AreEntries (es : List Entry) : Type 0 where
  pub own_ids : AllPairs (λ a b. a.id ≢ b.id) es
  pub from_ids : All (λ e. source e < IDS) es

-- these are the entries with the new one, so one more than the capacity
abbrev pub FairShares : Type 0
FairShares = (es : List Entry) (v : Entry) → AreEntries es → victim es ≡ Some v →
    (length es - 1) / length (sources es) ≤ count_of (without (Some v) es) (source v)

-- whatever arrives, an entry goes exactly where the store was full
abbrev pub AFullStoreHasAVictim : Type 0
AFullStoreHasAVictim = (s : Store) (kept : Kept) → said (λ p. p.src.0) kept.body < IDS → (evicted s kept ≡ None) ↔ (length s.entries < s.capacity)

-- no entry is next in turn exactly where the store is empty
abbrev pub AnEntryIsNext : Type 0
AnEntryIsNext = (s : Store) (last : Option ℕ) → All (λ e. source e < IDS) s.entries → (next_entry s last ≡ None) ↔ (s.entries ≡ [])
