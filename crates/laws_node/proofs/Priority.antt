-- What each change of the priority part keeps.
use Rattle.std.proofs.Common.{◌≡◌, ◌<◌, ◌≤◌, ℕ, zero, suc, ◌+◌, ◌-◌, ◌^◌, not, List, [], ◌∷◌, length, map, Option, Some, None, sym, subst, arith, nat_lt}
use Rattle.std.proofs.Common.{length-append, length-drop}
use Rattle.std.specs.List.{All}
use Rattle.std.proofs.lemmas.Bool.Decides.{nat_tests}
use Rattle.std.proofs.lemmas.List.Elements.{All-cons, All-head, All-nil, All-tail}
use Rattle.sp_base.specs.declared.id.NodeId.{NodeId}
use Rattle.sp_base.specs.declared.limits.TheConstants.{MAX_MESSAGES}
use Rattle.sp_base.proofs.FormatLemmas.{few_nodes}
use Rattle.sp_msg.proofs.GoodFields.{good_prio}
use Rattle.sp_msg.specs.Bodies.{HasGoodFieldsIn}
use Rattle.sp_msg.specs.declared.body.Body.{Body}
use Rattle.sp_msg.specs.declared.body.Body.TheVariants as bodies
use Rattle.sp_msg.specs.declared.kept.Kept.{Kept}
use Rattle.sp_rules.specs.Prio.{PrioState, acked, admit_prio, carried, expired, heard, is_here, is_peer, marked, next_after_own, no_peer, peer_in, spread}
use Rattle.sp_rules.specs.Prio.{taken, with_peer}
use Rattle.sp_rules.specs.PrioPeer as rows
use Rattle.sp_rules.specs.PrioPeer.{PrioPeer, filled, given, goes_to, landed, lands, launch, launched, less_all, settled, waits}
use Rattle.sp_rules.specs.Store.{Store, arriving, evicted, has_id, is_expired, less_expired, less_oldest, next_besides, put, removed, said, victim, without}
use Rattle.sp_rules.specs.declared.store.Entry.{Entry}
use Rattle.sp_rules.specs.declared.store.TheConstants.{IDS}
use Rattle.laws_node.specs.Sizes.{Fits, Sizes}
use Rattle.laws_node.specs.Stores.{EntryHolds, IsPrio, PrioHolds, PrioPeerHolds, StoreHolds}
use Rattle.laws_node.proofs.Lost.{all_filter, all_less_first, filter_shorter, less_first_shorter, less_one, one_goes}
use Rattle.laws_node.proofs.Tables.{all_drop_first, all_first, all_push, all_replaced, all_weaker, cond_either, cond_where}

-- what holds of all of a list holds of it mapped
pub all_map : {X Y : Type 0} (P : X → Type 0) (Q : Y → Type 0) (f : X → Y) → ((x : X) → P x → Q (f x)) → (xs : List X) → All P xs → All Q (map f xs)
all_map P Q f step [] all = All-nil Q
all_map P Q f step (x ∷ xs) all = All-cons Q (f x) (map f xs) (step x (All-head P x xs all)) (all_map P Q f step xs (All-tail P x xs all))

-- ---- a store

entry_more : (k : Sizes) (last more : ℕ) (e : Entry) → last ≤ more → EntryHolds k last e → EntryHolds k more e
entry_more k last more e up h = record { id = omega (arith, up, h.id); kind = h.kind; fits = h.fits }

pub store_more : (k : Sizes) (ids more : ℕ) (s : Store) → ids ≤ more → StoreHolds k ids s → StoreHolds k more s
store_more k ids more s up h = record { last = omega (arith, up, h.last); bounded = h.bounded; capacity = h.capacity; entries = h.entries }

small_source : (k : Sizes) (last : ℕ) (body : Body) → IsPrio body → HasGoodFieldsIn k.format body → said (λ p. p.src.0) body < IDS
small_source k last (bodies.Prio p) is good = let small = (good_prio k.format p good).src.1 in omega (arith, small, few_nodes k.format)
small_source k last (bodies.Rel r) is good = absurd is
small_source k last (bodies.Ack a) is good = absurd is
small_source k last (bodies.Weight w) is good = absurd is
small_source k last (bodies.Krel w) is good = absurd is
small_source k last (bodies.Kack w) is good = absurd is
small_source k last (bodies.Epoch w) is good = absurd is

-- what a store has after one more came and, where it was full, one went
record Left (k : Sizes) (s : Store) (es : List Entry) : Type 0 where
  bounded : length es ≤ s.capacity
  entries : All (EntryHolds k (s.last + 1)) es

left : (k : Sizes) (ids : ℕ) (s : Store) (o : Kept) → IsPrio o.body → Fits k o → StoreHolds k ids s → Left k s (without (evicted s o) (arriving s o))
left k ids s o is fits h =
    let new : Entry = record { id = s.last + 1; kept = o } in
    let grown : length (arriving s o) ≡ length s.entries + 1 = length-append s.entries (new ∷ []) in
    let all = all_push (EntryHolds k (s.last + 1)) s.entries new
    (all_weaker (EntryHolds k s.last) (EntryHolds k (s.last + 1)) s.entries (λ e. entry_more k s.last (s.last + 1) e (omega arith)) h.entries)
    (record { id = omega arith; kind = is; fits = fits }) in
    let goes = one_goes s.entries new (small_source k s.last o.body is fits.fields) in
    cond_where (λ (gone : Option Entry). Left k s (without gone (arriving s o))) (nat_lt s.capacity (length (arriving s o))) (victim (arriving s o)) None
    (λ full.
    subst (λ (gone : Option Entry). Left k s (without gone (arriving s o))) (sym goes.is) (record {
      bounded = let less = less_one (has_id goes.entry.id) (arriving s o) goes.there in omega (arith, less, grown, h.bounded);
      entries = all_less_first (EntryHolds k (s.last + 1)) (has_id goes.entry.id) (arriving s o) all;
    }))
    (λ free. record { bounded = grind (arith, nat_tests, free); entries = all })

pub put_holds : (k : Sizes) (ids : ℕ) (s : Store) (o : Kept) → IsPrio o.body → Fits k o → StoreHolds k ids s → StoreHolds k (ids + 1) (put s o)
put_holds k ids s o is fits h =
    let after = left k ids s o is fits h in
    record { last = omega (arith, h.last); bounded = after.bounded; capacity = h.capacity; entries = after.entries }

removed_holds : (k : Sizes) (ids : ℕ) (s : Store) (id : ℕ) → StoreHolds k ids s → StoreHolds k ids (removed s id)
removed_holds k ids s id h = record {
  last = h.last;
  bounded = let less = less_first_shorter (has_id id) s.entries in omega (arith, less, h.bounded);
  capacity = h.capacity;
  entries = all_less_first (EntryHolds k s.last) (has_id id) s.entries h.entries;
}

less_expired_holds : (k : Sizes) (ids : ℕ) (s : Store) (now : ℕ) → StoreHolds k ids s → StoreHolds k ids (less_expired s now)
less_expired_holds k ids s now h = record {
  last = h.last;
  bounded = let less = filter_shorter (λ e. not (is_expired now e)) s.entries in omega (arith, less, h.bounded);
  capacity = h.capacity;
  entries = all_filter (EntryHolds k s.last) (λ e. not (is_expired now e)) s.entries h.entries;
}

less_oldest_holds : (k : Sizes) (ids : ℕ) (s : Store) → StoreHolds k ids s → StoreHolds k ids (less_oldest s)
less_oldest_holds k ids s h = record {
  last = h.last;
  bounded = omega (arith, length-drop 1 s.entries, h.bounded);
  capacity = h.capacity;
  entries = all_drop_first (EntryHolds k s.last) 1 s.entries h.entries;
}

-- ---- the row of a neighbour

-- the row of no neighbour holds nothing
pub no_peer_holds : (k : Sizes) (numbers ids : ℕ) → PrioPeerHolds k numbers ids no_peer
no_peer_holds k numbers ids = record {
  store = record { last = omega arith; bounded = omega arith; capacity = omega arith; entries = All-nil (EntryHolds k 0) };
  number = omega arith;
  few = omega arith;
  given = All-nil (λ pair. pair.0 ≤ 0);
  heard = omega arith;
}

pub peer_more : (k : Sizes) (numbers more ids further : ℕ) (q : PrioPeer) → numbers ≤ more → ids ≤ further → PrioPeerHolds k numbers ids q
    → PrioPeerHolds k more further q
peer_more k numbers more ids further q up upper h =
    record { store = store_more k ids further q.store upper h.store; number = omega (arith, up, h.number); few = h.few; given = h.given; heard = h.heard }

given_holds : (k : Sizes) (numbers ids : ℕ) (o : Kept) (came : Option NodeId) (q : PrioPeer) → IsPrio o.body → Fits k o → PrioPeerHolds k numbers ids q
    → PrioPeerHolds k numbers (ids + 1) (given o came q)
given_holds k numbers ids o came q is fits h =
    cond_either (PrioPeerHolds k numbers (ids + 1)) (goes_to o.body came q) (record q { store = put q.store o }) q
    (record { store = put_holds k ids q.store o is fits h.store; number = h.number; few = h.few; given = h.given; heard = h.heard })
    (peer_more k numbers numbers ids (ids + 1) q (omega arith) (omega arith) h)

-- one more goes in flight, where there is room
launched_holds : (k : Sizes) (numbers ids : ℕ) (q : PrioPeer) (e : Option Entry) → length q.flight + 1 ≤ MAX_MESSAGES → PrioPeerHolds k numbers ids q
    → PrioPeerHolds k (numbers + 1) ids (launched q e)
launched_holds k numbers ids q None room h = peer_more k numbers (numbers + 1) ids ids q (omega arith) (omega arith) h
launched_holds k numbers ids q (Some e) room h = record {
  store = h.store;
  number = omega (arith, h.number);
  few = let one = length-append q.flight ((q.number + 1, e.id) ∷ []) in omega (arith, one, room);
  given = all_push (λ pair. pair.0 ≤ q.number + 1) q.flight (q.number + 1, e.id)
      (all_weaker (λ pair. pair.0 ≤ q.number) (λ pair. pair.0 ≤ q.number + 1) q.flight (λ pair low. omega (arith, low)) h.given) (omega arith);
  heard = h.heard;
}

launched_few : (q : PrioPeer) (e : Option Entry) → length (launched q e).flight ≤ length q.flight + 1
launched_few q None = omega arith
launched_few q (Some e) = let one = length-append q.flight ((q.number + 1, e.id) ∷ []) in omega (arith, one)

filled_holds : (k : Sizes) (ids room numbers : ℕ) (q : PrioPeer) → length q.flight + room ≤ MAX_MESSAGES → PrioPeerHolds k numbers ids q
    → PrioPeerHolds k (numbers + room) ids (filled room q)
filled_holds k ids zero numbers q most h = peer_more k numbers (numbers + 0) ids ids q (omega arith) (omega arith) h
filled_holds k ids (suc room) numbers q most h =
    let next = next_besides q.store q.flight q.last in
    let one = launched_few q next in
    peer_more k (numbers + 1 + room) (numbers + suc room) ids ids (filled room (launch q)) (omega arith) (omega arith)
    (filled_holds k ids room (numbers + 1) (launch q) (omega (arith, one, most)) (launched_holds k numbers ids q next (omega (arith, most)) h))

settled_holds : (k : Sizes) (numbers ids : ℕ) (q : PrioPeer) → PrioPeerHolds k numbers ids q → PrioPeerHolds k numbers ids (settled q)
settled_holds k numbers ids q h = record {
  store = h.store;
  number = h.number;
  few = let less = filter_shorter (waits q.store) q.flight in omega (arith, less, h.few);
  given = all_filter (λ pair. pair.0 ≤ q.number) (waits q.store) q.flight h.given;
  heard = h.heard;
}

pub row_carried_holds : (k : Sizes) (numbers ids : ℕ) (q : PrioPeer) → PrioPeerHolds k numbers ids q
    → PrioPeerHolds k (numbers + MAX_MESSAGES) ids (rows.carried q)
row_carried_holds k numbers ids q h =
    let left = settled_holds k numbers ids q h in
    let room = MAX_MESSAGES - length (settled q).flight in
    peer_more k (numbers + room) (numbers + MAX_MESSAGES) ids ids (rows.carried q) (omega arith) (omega arith)
    (filled_holds k ids room numbers (settled q) (omega (arith, left.few)) left)

less_all_holds : (k : Sizes) (ids : ℕ) (s : Store) (pairs : List (ℕ × ℕ)) → StoreHolds k ids s → StoreHolds k ids (less_all s pairs)
less_all_holds k ids s [] h = h
less_all_holds k ids s (pair ∷ pairs) h = less_all_holds k ids (removed s pair.1) pairs (removed_holds k ids s pair.1 h)

row_acked_holds : (k : Sizes) (numbers ids : ℕ) (q : PrioPeer) (number : ℕ) → PrioPeerHolds k numbers ids q → PrioPeerHolds k numbers ids (rows.acked q number)
row_acked_holds k numbers ids q number h = record {
  store = less_all_holds k ids q.store (landed q number) h.store;
  number = h.number;
  few = let less = filter_shorter (λ pair. not (lands number pair)) q.flight in omega (arith, less, h.few);
  given = all_filter (λ pair. pair.0 ≤ q.number) (λ pair. not (lands number pair)) q.flight h.given;
  heard = h.heard;
}

row_heard_holds : (k : Sizes) (numbers ids : ℕ) (q : PrioPeer) (number : ℕ) → number < 2 ^ 64 → PrioPeerHolds k numbers ids q
    → PrioPeerHolds k numbers ids (rows.heard q number)
row_heard_holds k numbers ids q number small h =
    record { store = h.store; number = h.number; few = h.few; given = h.given; heard = omega (arith, small, h.heard) }

row_expired_holds : (k : Sizes) (numbers ids now : ℕ) (q : PrioPeer) → PrioPeerHolds k numbers ids q → PrioPeerHolds k numbers ids (rows.expired q now)
row_expired_holds k numbers ids now q h =
    record { store = less_expired_holds k ids q.store now h.store; number = h.number; few = h.few; given = h.given; heard = h.heard }

-- ---- the whole part

pub prio_more : (k : Sizes) (numbers more ids further index later : ℕ) (p : PrioState) → numbers ≤ more → ids ≤ further → index ≤ later
    → PrioHolds k numbers ids index p → PrioHolds k more further later p
prio_more k numbers more ids further index later p one two three h = record {
  me = h.me;
  known = h.known;
  nodes = h.nodes;
  capacity = h.capacity;
  inbox = store_more k ids further p.inbox two h.inbox;
  peers = all_weaker (PrioPeerHolds k numbers ids) (PrioPeerHolds k more further) p.peers (λ q. peer_more k numbers more ids further q one two) h.peers;
  least = h.least;
  next = omega (arith, three, h.next);
}

with_peer_holds : (k : Sizes) (numbers more ids index : ℕ) (p : PrioState) (v : ℕ) (q : PrioPeer) → numbers ≤ more
    → (PrioPeerHolds k numbers ids (peer_in p v) → PrioPeerHolds k more ids q) → PrioHolds k numbers ids index p → PrioHolds k more ids index (with_peer p v q)
with_peer_holds k numbers more ids index p v q up new h = record {
  me = h.me;
  known = h.known;
  nodes = h.nodes;
  capacity = h.capacity;
  inbox = h.inbox;
  peers = all_replaced (PrioPeerHolds k numbers ids) (PrioPeerHolds k more ids) (is_peer v) q p.peers
      (λ x. peer_more k numbers more ids ids x up (omega arith))
      (λ x is there. new (all_first (PrioPeerHolds k numbers ids) (is_peer v) no_peer p.peers h.peers (no_peer_holds k numbers ids))) h.peers;
  least = h.least;
  next = h.next;
}

pub carried_holds : (k : Sizes) (numbers ids index : ℕ) (p : PrioState) (v : ℕ) → PrioHolds k numbers ids index p
    → PrioHolds k (numbers + MAX_MESSAGES) ids index (carried p v)
carried_holds k numbers ids index p v h =
    with_peer_holds k numbers (numbers + MAX_MESSAGES) ids index p v (rows.carried (peer_in p v)) (omega arith)
    (row_carried_holds k numbers ids (peer_in p v)) h

pub acked_holds : (k : Sizes) (numbers ids index : ℕ) (p : PrioState) (v number : ℕ) → PrioHolds k numbers ids index p
    → PrioHolds k numbers ids index (acked p v number)
acked_holds k numbers ids index p v number h =
    with_peer_holds k numbers numbers ids index p v (rows.acked (peer_in p v) number) (omega arith) (row_acked_holds k numbers ids (peer_in p v) number) h

pub heard_holds : (k : Sizes) (numbers ids index : ℕ) (p : PrioState) (v number : ℕ) → number < 2 ^ 64 → PrioHolds k numbers ids index p
    → PrioHolds k numbers ids index (heard p v number)
heard_holds k numbers ids index p v number small h =
    with_peer_holds k numbers numbers ids index p v (rows.heard (peer_in p v) number) (omega arith)
    (row_heard_holds k numbers ids (peer_in p v) number small) h

pub expired_holds : (k : Sizes) (numbers ids index : ℕ) (p : PrioState) (now : ℕ) → PrioHolds k numbers ids index p
    → PrioHolds k numbers ids index (expired p now)
expired_holds k numbers ids index p now h = record {
  me = h.me;
  known = h.known;
  nodes = h.nodes;
  capacity = h.capacity;
  inbox = less_expired_holds k ids p.inbox now h.inbox;
  peers = all_map (PrioPeerHolds k numbers ids) (PrioPeerHolds k numbers ids) (λ q. rows.expired q now) (row_expired_holds k numbers ids now) p.peers h.peers;
  least = h.least;
  next = h.next;
}

pub taken_holds : (k : Sizes) (numbers ids index : ℕ) (p : PrioState) → PrioHolds k numbers ids index p → PrioHolds k numbers ids index (taken p)
taken_holds k numbers ids index p h = record {
  me = h.me;
  known = h.known;
  nodes = h.nodes;
  capacity = h.capacity;
  inbox = less_oldest_holds k ids p.inbox h.inbox;
  peers = h.peers;
  least = h.least;
  next = h.next;
}

-- ---- a message comes

spread_holds : (k : Sizes) (numbers ids index : ℕ) (p : PrioState) (o : Kept) (came : Option NodeId) → IsPrio o.body → Fits k o
    → PrioHolds k numbers ids index p → PrioHolds k numbers (ids + 1) index (spread p o came)
spread_holds k numbers ids index p o came is fits h =
    cond_either (PrioHolds k numbers (ids + 1) index) (is_here p o.body) (record p { inbox = put p.inbox o }) (record p { peers = map (given o came) p.peers })
    (record {
      me = h.me;
      known = h.known;
      nodes = h.nodes;
      capacity = h.capacity;
      inbox = put_holds k ids p.inbox o is fits h.inbox;
      peers = all_weaker (PrioPeerHolds k numbers ids) (PrioPeerHolds k numbers (ids + 1)) p.peers
          (λ q. peer_more k numbers numbers ids (ids + 1) q (omega arith) (omega arith)) h.peers;
      least = h.least;
      next = h.next;
    })
    (record {
      me = h.me;
      known = h.known;
      nodes = h.nodes;
      capacity = h.capacity;
      inbox = store_more k ids (ids + 1) p.inbox (omega arith) h.inbox;
      peers = all_map (PrioPeerHolds k numbers ids) (PrioPeerHolds k numbers (ids + 1)) (given o came)
          (λ q. given_holds k numbers ids o came q is fits) p.peers h.peers;
      least = h.least;
      next = h.next;
    })

-- the next own number after it
marked_holds : (k : Sizes) (numbers ids index later : ℕ) (p : PrioState) (body : Body) (came : Option NodeId)
    → 1 ≤ next_after_own p.next body came → next_after_own p.next body came ≤ later + 1
    → PrioHolds k numbers ids index p → PrioHolds k numbers ids later (marked p body came)
marked_holds k numbers ids index later p body came least most h = record {
  me = h.me;
  known = h.known;
  nodes = h.nodes;
  capacity = h.capacity;
  inbox = h.inbox;
  peers = h.peers;
  least = least;
  next = most;
}

-- from a neighbour
pub admit_holds : (k : Sizes) (numbers ids index : ℕ) (p : PrioState) (o : Kept) (u : NodeId) → IsPrio o.body → Fits k o
    → PrioHolds k numbers ids index p → PrioHolds k numbers (ids + 1) index (admit_prio p o (Some u))
admit_holds k numbers ids index p o u is fits h =
    spread_holds k numbers ids index (marked p o.body (Some u)) o (Some u) is fits
    (marked_holds k numbers ids index index p o.body (Some u) h.least h.next h)

-- an own one, under the next number
pub sent_holds : (k : Sizes) (numbers ids index : ℕ) (p : PrioState) (o : Kept) → IsPrio o.body → Fits k o → said (λ b. b.seq) o.body ≡ p.next
    → PrioHolds k numbers ids index p → PrioHolds k numbers (ids + 1) (index + 1) (admit_prio p o None)
sent_holds k numbers ids index p o is fits number h =
    spread_holds k numbers ids (index + 1) (marked p o.body None) o None is fits
    (marked_holds k numbers ids index (index + 1) p o.body None (omega arith) (omega (arith, number, h.next)) h)
