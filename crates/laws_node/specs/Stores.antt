-- What holds of the priority part of a node after any steps: bounds, kinds, ranges and counts.
use Rattle.std.specs.Prelude.{ℕ, ◌≡◌, ◌<◌, ◌≤◌, ◌+◌, ◌^◌, length}
use Rattle.std.specs.List.{All}
use Rattle.sp_base.specs.declared.limits.TheConstants.{MAX_MESSAGES}
use Rattle.sp_msg.specs.declared.body.Body.{Body}
use Rattle.sp_msg.specs.declared.body.Body.TheVariants as bodies
use Rattle.sp_rules.specs.Prio.{PrioState}
use Rattle.sp_rules.specs.PrioPeer.{PrioPeer}
use Rattle.sp_rules.specs.Store.{Store}
use Rattle.sp_rules.specs.declared.store.Entry.{Entry}
use Rattle.laws_node.specs.Sizes.{Fits, IsNode, Sizes}

abbrev pub IsPrio : Body → Type 0
IsPrio (bodies.Prio p) = Unit {0}
IsPrio _ = ⊥

-- an entry that is a priority message, and whose id was given
pub record EntryHolds (k : Sizes) (last : ℕ) (e : Entry) : Type 0 where
  pub id : e.id ≤ last
  pub kind : IsPrio e.kept.body
  pub fits : Fits k e.kept

-- at most as many entries as its capacity, which is at most that of all stores; so many ids were given at most
pub record StoreHolds (k : Sizes) (ids : ℕ) (s : Store) : Type 0 where
  pub last : s.last ≤ ids
  pub bounded : length s.entries ≤ s.capacity
  pub capacity : s.capacity ≤ k.store
  pub entries : All (EntryHolds k s.last) s.entries

-- so many link numbers were given at most, and those in flight are among them
pub record PrioPeerHolds (k : Sizes) (numbers ids : ℕ) (q : PrioPeer) : Type 0 where
  pub store : StoreHolds k ids q.store
  pub number : q.number ≤ numbers
  pub few : length q.flight ≤ MAX_MESSAGES
  pub given : All (λ pair. pair.0 ≤ q.number) q.flight
  pub heard : q.heard < 2 ^ 64

-- the priority part within its bounds, with a row for each neighbour
pub record PrioHolds (k : Sizes) (numbers ids index : ℕ) (p : PrioState) : Type 0 where
  pub me : p.me ≡ k.me.0
  pub nodes : All (IsNode k.format) p.nodes
  pub known : p.nodes ≡ k.nodes
  pub capacity : p.inbox.capacity ≡ k.store
  pub inbox : StoreHolds k ids p.inbox
  pub peers : All (PrioPeerHolds k numbers ids) p.peers
  pub least : 1 ≤ p.next
  pub next : p.next ≤ index + 1
