-- A store of priority messages: its entries in order of arrival, at most as many as its capacity.
-- Where one more arrives, an entry of the source that uses most goes. With a capacity of 5:
--
--     id           1   2   3   4   5   6
--     source       2   1   2   4   2   1    <- arrives
--     priority     3   1   1   5   1   9
--                          ^
--     source 2 has most entries; of these, 3 and 5 have the lowest priority; of these, 3 is the oldest: it goes
use Rattle.std.specs.Prelude.{ℕ, ◌==◌, ◌+◌, nat_lt, Bool, not, List, [], ◌∷◌, ◌++◌, length, map, filter, find, count_by, drop, slice_get}
use Rattle.std.specs.Prelude.{Option, Some, None, if◌then◌else◌}
use Rattle.std.specs.List.{list_any, range_with_len}
use Rattle.std.specs.Option.{option_and_then}
use Rattle.sp_base.specs.Cursor.{next_after}
use Rattle.sp_msg.specs.declared.body.Body.{Body}
use Rattle.sp_msg.specs.declared.body.Body.TheVariants as bodies
use Rattle.sp_msg.specs.declared.body.Prio.{Prio}
use Rattle.sp_msg.specs.declared.kept.Kept.{Kept}
use Rattle.sp_rules.specs.Choices.{first_by, less_first}
use Rattle.sp_rules.specs.declared.store.Entry.{Entry}
use Rattle.sp_rules.specs.declared.store.Put.{Put}
use Rattle.sp_rules.specs.declared.store.Put.TheVariants as puts
use Rattle.sp_rules.specs.declared.store.TheConstants.{IDS}

-- the last id that was given, and the entries in order of arrival
pub record Store : Type 0 where
  pub capacity : ℕ
  pub last : ℕ
  pub entries : List Entry

-- a store with nothing in it
abbrev pub empty_store : ℕ → Store
empty_store capacity = record { capacity = capacity; last = 0; entries = [] }

-- ---- what an entry says

-- a number that a priority message says. Stores hold no other messages
abbrev pub said : (Prio → ℕ) → Body → ℕ
said field (bodies.Prio p) = field p
said field _ = 0

-- the source of an entry
abbrev pub source : Entry → ℕ
source e = said (λ p. p.src.0) e.kept.body

-- the destination of an entry
abbrev pub target : Entry → ℕ
target e = said (λ p. p.dst.0) e.kept.body

-- the priority of an entry
abbrev pub priority : Entry → ℕ
priority e = said (λ p. p.prio) e.kept.body

-- the time at which an entry is over
abbrev pub expiry : Entry → ℕ
expiry e = said (λ p. p.expiry) e.kept.body

-- whether an entry has this id
abbrev pub has_id : ℕ → Entry → Bool
has_id id e = e.id == id

-- whether an entry is of this source
abbrev pub is_of : ℕ → Entry → Bool
is_of id e = source e == id

-- whether an entry is over its time
abbrev pub is_expired : ℕ → Entry → Bool
is_expired now e = nat_lt (expiry e) now

-- ---- sources

-- all that the id of a node can be, ascending. It stays closed, since it is long
unfoldable pub ids : List ℕ
ids = range_with_len 0 IDS

-- how many entries a source has
abbrev pub count_of : List Entry → ℕ → ℕ
count_of es id = count_by (is_of id) es

-- whether a source has entries
abbrev pub has_entries : List Entry → ℕ → Bool
has_entries es id = list_any (is_of id) es

-- the sources of these entries, ascending
abbrev pub sources : List Entry → List ℕ
sources es = filter (has_entries es) ids

-- ---- the entry that goes

-- the source with most entries, the lowest id of those that have most
abbrev pub fullest : List Entry → Option ℕ
fullest es = first_by (λ a b. nat_lt (count_of es b) (count_of es a)) ids

-- of one source's entries those of lowest priority, and of these the oldest
abbrev pub lowest : List Entry → ℕ → Option Entry
lowest es id = first_by (λ a b. nat_lt (priority a) (priority b)) (filter (is_of id) es)

-- the entry that leaves a full store: the lowest one of the source with most entries
abbrev pub victim : List Entry → Option Entry
victim es = option_and_then (lowest es) (fullest es)

-- ---- one more

-- the entries with the new one, which counts
abbrev pub arriving : Store → Kept → List Entry
arriving s kept = s.entries ++ (record { id = s.last + 1; kept = kept }) ∷ []

-- the entry that goes. None where the new one has room
abbrev pub evicted : Store → Kept → Option Entry
evicted s kept = if nat_lt s.capacity (length (arriving s kept)) then victim (arriving s kept) else None

-- the entries without that one
abbrev pub without : Option Entry → List Entry → List Entry
without None es = es
without (Some e) es = less_first (has_id e.id) es

-- the store after a message was put into it
abbrev pub put : Store → Kept → Store
put s kept = record { capacity = s.capacity; last = s.last + 1; entries = without (evicted s kept) (arriving s kept) }

-- what putting a message is answered with
abbrev pub answered : ℕ → Option Entry → Put
answered id None = puts.Stored id
answered id (Some e) = puts.StoredAfter id e

-- what putting this message is answered with
abbrev pub put_answer : Store → Kept → Put
put_answer s kept = answered (s.last + 1) (evicted s kept)

-- ---- service in turn

-- the source that is served after the last one, in the cycle of ids
abbrev pub next_source : List Entry → Option ℕ → Option ℕ
next_source es last = next_after last (map (has_entries es) ids)

-- of one source's entries those of highest priority, and of these the oldest
abbrev pub highest : List Entry → ℕ → Option Entry
highest es id = first_by (λ a b. nat_lt (priority b) (priority a)) (filter (is_of id) es)

-- the entry that is served after one of this source. None where there is no entry
abbrev pub next_entry : Store → Option ℕ → Option Entry
next_entry s last = option_and_then (highest s.entries) (next_source s.entries last)

-- ---- service in turn, besides what is in flight: pairs of a link number and the id of an entry

-- whether an entry is on its way to the neighbour
abbrev pub is_flying : List (ℕ × ℕ) → Entry → Bool
is_flying flight e = list_any (λ p. has_id p.1 e) flight

-- the entries that aren't in flight
abbrev pub free : List (ℕ × ℕ) → List Entry → List Entry
free flight es = filter (λ e. not (is_flying flight e)) es

-- the store without what is on its way
abbrev pub besides : Store → List (ℕ × ℕ) → Store
besides s flight = record { capacity = s.capacity; last = s.last; entries = free flight s.entries }

-- the entry that is served next, of those that aren't in flight. None where all are
abbrev pub next_besides : Store → List (ℕ × ℕ) → Option ℕ → Option Entry
next_besides s flight last = next_entry (besides s flight) last

-- ---- one less

-- the entry with an id
abbrev pub entry_in : Store → ℕ → Option Entry
entry_in s id = find (has_id id) s.entries

-- the store without the entry of an id
abbrev pub removed : Store → ℕ → Store
removed s id = record { capacity = s.capacity; last = s.last; entries = less_first (has_id id) s.entries }

-- the entry that came first
abbrev pub oldest : Store → Option Entry
oldest s = slice_get s.entries 0

-- the store without the entry that came first
abbrev pub less_oldest : Store → Store
less_oldest s = record { capacity = s.capacity; last = s.last; entries = drop 1 s.entries }

-- ---- entries that leave at once: those of which p says so

-- the oldest of them
abbrev pub leaver : (Entry → Bool) → Store → Option Entry
leaver p s = find p s.entries

-- the store without the first entry that leaves
abbrev pub less_leaver : (Entry → Bool) → Store → Store
less_leaver p s = record { capacity = s.capacity; last = s.last; entries = less_first p s.entries }

-- all of them, and the store without them
abbrev pub leavers : (Entry → Bool) → Store → List Entry
leavers p s = filter p s.entries

-- the store without all entries that leave
abbrev pub less_leavers : (Entry → Bool) → Store → Store
less_leavers p s = record { capacity = s.capacity; last = s.last; entries = filter (λ e. not (p e)) s.entries }

-- those whose expiry has passed
abbrev pub expired_entries : Store → ℕ → List Entry
expired_entries s now = leavers (is_expired now) s

-- the store without entries that are over their time
abbrev pub less_expired : Store → ℕ → Store
less_expired s now = less_leavers (is_expired now) s
