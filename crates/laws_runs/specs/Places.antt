-- What a place holds, as its effects say it one after the other, and as the node has it.
use Rattle.std.specs.Prelude.{ℕ, zero, suc, ◌≡◌, ◌<◌, ◌≤◌, ◌==◌, not, List, [], ◌∷◌, ◌++◌, cond, filter, length, map, Some}
use Rattle.std.specs.List.{All}
use Rattle.sp_base.specs.Rows.{first_where}
use Rattle.sp_base.specs.declared.id.NodeId.{NodeId}
use Rattle.sp_rules.specs.declared.store.TheConstants.{IDS}
use Rattle.sp_msg.specs.declared.effect.Effect.{Effect}
use Rattle.sp_msg.specs.declared.effect.Effect.TheVariants as effects
use Rattle.sp_rules.specs.Node.{NodeState}
use Rattle.sp_rules.specs.Prio.{PrioState, is_peer, no_peer}
use Rattle.sp_rules.specs.PrioPeer.{PrioPeer}
use Rattle.sp_rules.specs.Store.{Store, priority, said, source}
use Rattle.sp_rules.specs.declared.store.Entry.{Entry}
use Rattle.sp_runs.specs.Held.{Held, ShareIf}
use Rattle.sp_runs.specs.Settings.{Setting}
use Rattle.sp_runs.specs.Told.{effects_at}
use Rattle.sp_runs.specs.Worlds.{World, node_in}
use Rattle.sp_journal.specs.declared.entry.Entry.{Entry as JournalEntry}
use Rattle.sp_schedule_events.specs.declared.event.Event.{Event}

-- ---- by effects

-- the greatest id that it gave, and what it holds
pub record Shelf : Type 0 where
  pub top : ℕ
  pub held : List Held

-- without the entry of this id
abbrev pub less_held : ℕ → List Held → List Held
less_held id hs = filter (λ h. not (h.id == id)) hs

-- after one effect, as far as it is of place p
abbrev pub shelf_after : ℕ → Shelf → Effect → Shelf
shelf_after p st (effects.Stored place id src seq prio) =
    cond (place == p) (record { top = id; held = st.held ++ (record { id = id; src = src.0; seq = seq; prio = prio }) ∷ [] }) st
shelf_after p st (effects.Gone place id why) = cond (place == p) (record { top = st.top; held = less_held id st.held }) st
shelf_after p st _ = st

-- after these, one after the other
abbrev pub shelf_by : ℕ → Shelf → List Effect → Shelf
shelf_by p st [] = st
shelf_by p st (e ∷ es) = shelf_by p (shelf_after p st e) es

-- a stored id is above all that were given, and one that goes was given
abbrev pub FreshIf : ℕ → ℕ → Effect → Type 0
FreshIf p top (effects.Stored place id src seq prio) = place ≡ p → top < id
FreshIf p top (effects.Gone place id why) = place ≡ p → id ≤ top
FreshIf p top _ = Unit {0}

-- each effect is fresh, and each eviction leaves a share
abbrev pub Steps : (capacity p : ℕ) → Shelf → List Effect → Type 0
Steps capacity p st [] = Unit {0}
Steps capacity p st (e ∷ es) = (FreshIf p st.top e × ShareIf capacity p st.held e) × Steps capacity p (shelf_after p st e) es

-- ---- by the node

-- an entry as an effect tells it
abbrev pub as_held : Entry → Held
as_held e = record { id = e.id; src = source e; seq = said (λ p. p.seq) e.kept.body; prio = priority e }

-- entries as what is held of them
abbrev pub all_held : List Entry → List Held
all_held es = map as_held es

-- a store as its effects tell it
abbrev pub shelf : Store → Shelf
shelf s = record { top = s.last; held = all_held s.entries }

-- each id is above the one before
abbrev pub Rising : ℕ → List Entry → Type 0
Rising b [] = Unit {0}
Rising b (e ∷ es) = (b < e.id) × Rising e.id es

-- a store of this capacity: its ids rise, up to the last that it gave
pub record StoreIs (capacity : ℕ) (s : Store) : Type 0 where
  pub capacity_is : s.capacity ≡ capacity
  pub rising : Rising 0 s.entries
  pub last : All (λ e. e.id ≤ s.last) s.entries
  pub few : length s.entries ≤ s.capacity
  pub small : All (λ e. source e < IDS) s.entries

-- each row is of a node above the one before
abbrev pub RisingRows : ℕ → List PrioPeer → Type 0
RisingRows b [] = Unit {0}
RisingRows b (q ∷ qs) = (b < q.peer) × RisingRows q.peer qs

-- of the inbox and of each neighbour
pub record PlacesAre (capacity : ℕ) (p : PrioState) : Type 0 where
  pub inbox : StoreIs capacity p.inbox
  pub peers : All (λ q. StoreIs capacity q.store) p.peers
  pub rows : RisingRows 0 p.peers

-- the store of a neighbour
abbrev pub row_store : List PrioPeer → ℕ → Store
row_store peers place = (first_where (is_peer place) no_peer peers).store

-- what a place holds
abbrev pub store_at : PrioState → ℕ → Store
store_at p zero = p.inbox
store_at p (suc v) = row_store p.peers (suc v)

-- ---- both are one

-- nothing was stored
abbrev pub no_shelf : Shelf
no_shelf = record { top = 0; held = [] }

-- where all effects of a node lead a place
abbrev pub played : List Event → List JournalEntry → NodeId → ℕ → Shelf
played es js u place = shelf_by place no_shelf (effects_at es js u)

-- of all places, where no node starts by an event: what each holds is what its effects say, and each eviction among these left a share
pub record SharePart (x : Setting) (es : List Event) (js : List JournalEntry) (w : World) : Type 0 where
  pub nodes : (u : NodeId) (n : NodeState) → node_in w.nodes u ≡ Some n → PlacesAre x.store n.parts.prio
  pub held_is : (u : NodeId) (n : NodeState) (place : ℕ) → node_in w.nodes u ≡ Some n → played es js u place ≡ shelf (store_at n.parts.prio place)
  pub shares : (u : NodeId) (place : ℕ) → Steps x.store place no_shelf (effects_at es js u)
