-- What the priority part of a node keeps of one neighbour, and what each event does to it.
--
-- A poll carries all that is in flight, at most four messages, each under the link number that it was given. It is in flight until the neighbour
-- acknowledges that number, or a greater one, or until its entry leaves the store:
--
--     in flight     7: entry 31 | 8: entry 35 | 9: entry 33         the neighbour acknowledges 8: entries 31 and 35 leave the store
--     then                                      9: entry 33 | 10: entry 36 | 11: entry 34 | 12: entry 40        the next poll fills up
use Rattle.std.specs.Prelude.{ℕ, zero, suc, ◌==◌, ◌+◌, ◌-◌, nat_le, max, Bool, false, not, ◌&&◌, ◌||◌, List, [], ◌∷◌, ◌++◌, length, map, filter}
use Rattle.std.specs.Prelude.{Option, Some, None, option_map, if◌then◌else◌}
use Rattle.std.specs.List.{flat_map, list_any}
use Rattle.sp_base.specs.declared.id.NodeId.{NodeId}
use Rattle.sp_base.specs.declared.limits.TheConstants.{MAX_MESSAGES}
use Rattle.sp_frame.specs.Views.{as_list}
use Rattle.sp_msg.specs.Masks.{bits}
use Rattle.sp_msg.specs.Views.{names_edge}
use Rattle.sp_msg.specs.declared.body.Body.{Body}
use Rattle.sp_msg.specs.declared.body.Body.TheVariants as bodies
use Rattle.sp_msg.specs.declared.effect.Effect.{Effect}
use Rattle.sp_msg.specs.declared.effect.Effect.TheVariants as effects
use Rattle.sp_msg.specs.declared.effect.Why.{Why}
use Rattle.sp_msg.specs.declared.effect.Why.TheVariants as whys
use Rattle.sp_msg.specs.declared.kept.Kept.{Kept}
use Rattle.sp_rules.specs.Store.{Store, empty_store, entry_in, evicted, expired_entries, has_id, leavers, less_expired, less_leavers, next_besides, put}
use Rattle.sp_rules.specs.Store.{removed, said, source, target}
use Rattle.sp_rules.specs.Topologies.{is_shut}
use Rattle.sp_rules.specs.declared.prio.Neighbour.{Neighbour}
use Rattle.sp_rules.specs.declared.store.Entry.{Entry}

-- the neighbour and the edge to it, what waits for it, the last link number that was given, the greatest that was heard from it,
-- the source that was served last, and what is in flight: pairs of a link number and the id of an entry, in the order of link numbers. It is shut where the
-- edge is withdrawn
pub record PrioPeer : Type 0 where
  pub peer : ℕ
  pub edge : ℕ
  pub shut : Bool
  pub store : Store
  pub number : ℕ
  pub heard : ℕ
  pub last : Option ℕ
  pub flight : List (ℕ × ℕ)

-- nothing waits for it yet, and nothing was heard
abbrev pub new_peer : ℕ → Neighbour → PrioPeer
new_peer capacity n = record { peer = n.id.0; edge = n.edge.0; shut = false; store = empty_store capacity; number = 0; heard = 0; last = None; flight = [] }

-- ---- what a place tells

-- a message went into the store of a place
abbrev pub stored : ℕ → ℕ → Body → List Effect
stored place id (bodies.Prio p) = effects.Stored place id p.src p.seq p.prio ∷ []
stored place id _ = []

-- an entry left the store of a place
abbrev pub gone : ℕ → Why → Option Entry → List Effect
gone place why None = []
gone place why (Some e) = effects.Gone place e.id why ∷ []

-- a message is put into a store, and maybe an entry goes
abbrev pub put_effects : ℕ → Store → Kept → List Effect
put_effects place s kept = stored place (s.last + 1) kept.body ++ gone place whys.Evicted (evicted s kept)

-- these entries left a place, one after the other
abbrev pub gone_effects : ℕ → Why → List Entry → List Effect
gone_effects place why es = map (λ e. effects.Gone place e.id why) es

-- all whose expiry passed leave a store
abbrev pub expired_effects : ℕ → Store → ℕ → List Effect
expired_effects place s now = gone_effects place whys.Expired (expired_entries s now)

-- ---- a message comes

-- the message came from this neighbour
abbrev pub is_from : Option NodeId → ℕ → Bool
is_from None v = false
is_from (Some u) v = u.0 == v

-- a message goes to the neighbour where its mask has the edge, the edge isn't withdrawn, and it didn't come from there
abbrev pub goes_to : Body → Option NodeId → PrioPeer → Bool
goes_to body came q = not (is_from came q.peer) && names_edge (said (λ p. bits p.mask) body) q.edge && not q.shut

-- the row after a message was given to it, if it goes there
abbrev pub given : Kept → Option NodeId → PrioPeer → PrioPeer
given kept came q = if goes_to kept.body came q then record q { store = put q.store kept } else q

-- what is told of a message that was given to a row
abbrev pub given_effects : Kept → Option NodeId → PrioPeer → List Effect
given_effects kept came q = if goes_to kept.body came q then put_effects q.peer q.store kept else []

-- ---- a poll

-- the entry of a pair in flight is still in the store
abbrev pub waits : Store → ℕ × ℕ → Bool
waits s pair = list_any (has_id pair.1) s.entries

-- pairs whose entry has gone are dropped
abbrev pub settled : PrioPeer → PrioPeer
settled q = record q { flight = filter (waits q.store) q.flight }

-- this entry goes in flight under the next link number, and its source was served
abbrev pub launched : PrioPeer → Option Entry → PrioPeer
launched q None = q
launched q (Some e) = record q { number = q.number + 1; last = Some (source e); flight = q.flight ++ (q.number + 1, e.id) ∷ [] }

-- the entry that is next in turn, of those that aren't in flight, goes in flight
abbrev pub launch : PrioPeer → PrioPeer
launch q = launched q (next_besides q.store q.flight q.last)

-- so many more go in flight, or as many as there are
abbrev pub filled : ℕ → PrioPeer → PrioPeer
filled zero q = q
filled (suc room) q = filled room (launch q)

-- the poll was made: as many are in flight as may be, and as there are
abbrev pub carried : PrioPeer → PrioPeer
carried q = filled (MAX_MESSAGES - length (settled q).flight) (settled q)

-- an entry with its link number
abbrev pub numbered : ℕ → Entry → ℕ × Entry
numbered number e = (number, e)

-- the entry of a pair with its link number, where it is in the store
abbrev pub flown : Store → ℕ × ℕ → List (ℕ × Entry)
flown s pair = as_list (option_map (numbered pair.0) (entry_in s pair.1))

-- the entries in flight with their link numbers, in the order of these
abbrev pub in_flight : PrioPeer → List (ℕ × Entry)
in_flight q = flat_map (flown q.store) q.flight

-- what a poll carries
abbrev pub next_prios : PrioPeer → List (ℕ × Entry)
next_prios q = in_flight (carried q)

-- ---- what the neighbour acknowledges and sends

-- this number acknowledges the one of a pair
abbrev pub lands : ℕ → ℕ × ℕ → Bool
lands number pair = nat_le pair.0 number

-- what is in flight and acknowledged
abbrev pub landed : PrioPeer → ℕ → List (ℕ × ℕ)
landed q number = filter (lands number) q.flight

-- the store without the entries of these pairs
abbrev pub less_all : Store → List (ℕ × ℕ) → Store
less_all s [] = s
less_all s (pair ∷ pairs) = less_all (removed s pair.1) pairs

-- the entries of these pairs leave the store of a place, one after another
abbrev pub left_effects : ℕ → Store → List (ℕ × ℕ) → List Effect
left_effects place s [] = []
left_effects place s (pair ∷ pairs) = gone place whys.Acked (entry_in s pair.1) ++ left_effects place (removed s pair.1) pairs

-- the row after its neighbour heard up to a link number: what landed leaves store and flight
abbrev pub acked : PrioPeer → ℕ → PrioPeer
acked q number = record q { store = less_all q.store (landed q number); flight = filter (λ pair. not (lands number pair)) q.flight }

-- what is told of entries that landed
abbrev pub acked_effects : PrioPeer → ℕ → List Effect
acked_effects q number = left_effects q.peer q.store (landed q number)

-- the greatest link number that came
abbrev pub heard : PrioPeer → ℕ → PrioPeer
heard q number = record q { heard = max q.heard number }

-- another life of it began: nothing was heard from it, and nothing is in flight to it
abbrev pub unheard : PrioPeer → PrioPeer
unheard q = record q { heard = 0; flight = [] }

-- ---- time

-- the row without what is over its time
abbrev pub expired : PrioPeer → ℕ → PrioPeer
expired q now = record q { store = less_expired q.store now }

-- ---- another version of the topology

-- an end of the entry is one of these nodes
abbrev pub has_end_in : List NodeId → Entry → Bool
has_end_in nodes e = list_any (λ n. n.0 == source e) nodes || list_any (λ n. n.0 == target e) nodes

-- the entry leaves where the edge is withdrawn, and where an end of it is removed
abbrev pub leaves : Bool → List NodeId → Entry → Bool
leaves shut removed e = shut || has_end_in removed e

-- the row under a version with these weights and removed nodes
abbrev pub closed : List ℕ → List NodeId → PrioPeer → PrioPeer
closed weights removed q =
    let shut = is_shut weights q.edge in
    record q { shut = shut; store = less_leavers (leaves shut removed) q.store }

-- what is told of a row's entries that a version takes away
abbrev pub closed_effects : List ℕ → List NodeId → PrioPeer → List Effect
closed_effects weights removed q = gone_effects q.peer whys.Withdrawn (leavers (leaves (is_shut weights q.edge) removed) q.store)
