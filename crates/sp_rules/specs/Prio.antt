-- The priority part of a node: a store for each neighbour and an inbox, and for each source a window of the numbers that were seen.
--
-- Place 0 is the inbox, and the place of a neighbour is its id.
use Rattle.std.specs.Prelude.{ℕ, ◌==◌, ◌+◌, nat_lt, Bool, false, not, ◌&&◌, ◌||◌, List, [], ◌∷◌, ◌++◌, length, map, replicate, count_by, sum_by}
use Rattle.std.specs.Prelude.{position, slice_index_or, slice_set, Option, Some, None, if◌then◌else◌}
use Rattle.std.specs.List.{flat_map, list_any}
use Rattle.sp_base.specs.Rows.{first_where, replace_where}
use Rattle.sp_base.specs.declared.id.NodeId.{NodeId}
use Rattle.sp_msg.specs.declared.body.Body.{Body}
use Rattle.sp_msg.specs.declared.body.Body.TheVariants as bodies
use Rattle.sp_msg.specs.declared.body.Prio.{Prio}
use Rattle.sp_msg.specs.declared.effect.Effect.{Effect}
use Rattle.sp_msg.specs.declared.effect.Effect.TheVariants as effects
use Rattle.sp_msg.specs.declared.kept.Kept.{Kept}
use Rattle.sp_rules.specs.PrioPeer as rows
use Rattle.sp_rules.specs.PrioPeer.{PrioPeer}
use Rattle.sp_rules.specs.Store.{Store, empty_store, expired_entries, less_expired, less_oldest, put, said}
use Rattle.sp_rules.specs.Window.{is_seen, with_mark}
use Rattle.sp_rules.specs.declared.prio.Neighbour.{Neighbour}
use Rattle.sp_rules.specs.declared.prio.PrioJudged.{PrioJudged}
use Rattle.sp_rules.specs.declared.prio.PrioJudged.TheVariants as judged
use Rattle.sp_rules.specs.declared.store.Entry.{Entry}

-- this node, all nodes and those of them that are removed, the inbox, a row for each neighbour, ascending, a window for each node in the order of nodes, and
-- the number of the next own message
pub record PrioState : Type 0 where
  pub me : ℕ
  pub nodes : List NodeId
  pub removed : List NodeId
  pub inbox : Store
  pub peers : List PrioPeer
  pub windows : List (List ℕ)
  pub next : ℕ

-- nothing was stored, seen or sent
abbrev pub start : ℕ → List NodeId → List Neighbour → ℕ → PrioState
start me nodes neighbours capacity = record {
  me = me;
  nodes = nodes;
  removed = [];
  inbox = empty_store capacity;
  peers = map (rows.new_peer capacity) neighbours;
  windows = replicate (length nodes) [];
  next = 1;
}

-- ---- rows

-- whether a row is that of a neighbour
abbrev pub is_peer : ℕ → PrioPeer → Bool
is_peer v q = q.peer == v

-- what stands for a neighbour that isn't there
abbrev pub no_peer : PrioPeer
no_peer = record { peer = 0; edge = 0; shut = false; store = empty_store 0; number = 0; heard = 0; last = None; flight = [] }

-- the row of a neighbour
abbrev pub peer_in : PrioState → ℕ → PrioPeer
peer_in s v = first_where (is_peer v) no_peer s.peers

-- the row of a neighbour changes, and nothing else
abbrev pub with_peer : PrioState → ℕ → PrioPeer → PrioState
with_peer s v q = record s { peers = replace_where (is_peer v) q s.peers }

-- ---- windows

-- whether an id is one of these nodes'
abbrev pub is_node : List NodeId → ℕ → Bool
is_node nodes id = list_any (λ n. n.0 == id) nodes

-- it is a node, and isn't removed
abbrev pub is_there : PrioState → ℕ → Bool
is_there s id = is_node s.nodes id && not (is_node s.removed id)

-- the place of an id among these nodes
abbrev pub place_of : List NodeId → ℕ → Option ℕ
place_of nodes id = position (λ n. n.0 == id) nodes

-- the window at a place; without one nothing was seen
abbrev pub window_at : List (List ℕ) → Option ℕ → List ℕ
window_at windows None = []
window_at windows (Some place) = slice_index_or windows place []

-- the window of a source
abbrev pub window_in : PrioState → ℕ → List ℕ
window_in s id = window_at s.windows (place_of s.nodes id)

-- the windows with one number more at a place
abbrev pub windows_with : List (List ℕ) → Option ℕ → ℕ → List (List ℕ)
windows_with windows None number = windows
windows_with windows (Some place) number = slice_set windows place (with_mark (slice_index_or windows place []) number)

-- ---- a message comes

-- the answer to these fields, without the signature: the first that applies
abbrev pub judge_fields : PrioState → ℕ → ℕ → ℕ → ℕ → ℕ → PrioJudged
judge_fields s src dst seq expiry now =
    if not (is_there s src) || not (is_there s dst) || (src == dst) then judged.BadEnd
    else if nat_lt expiry now then judged.Expired
    else if (src == s.me) || is_seen (window_in s src) seq then judged.Seen
    else judged.New

-- what a priority message is to the node
abbrev pub judge : PrioState → Prio → ℕ → PrioJudged
judge s p now = judge_fields s p.src.0 p.dst.0 p.seq p.expiry now

-- the same of a message of any kind. Only a priority message is judged
abbrev pub judge_prio : PrioState → Body → ℕ → PrioJudged
judge_prio s (bodies.Prio p) now = judge s p now
judge_prio s _ now = judged.BadEnd

-- the message is for this node
abbrev pub is_here : PrioState → Body → Bool
is_here s body = said (λ p. p.dst.0) body == s.me

-- into how many places a message goes: the inbox, or the store of each neighbour to which it goes
abbrev pub places : PrioState → Body → Option NodeId → ℕ
places s body came = if is_here s body then 1 else count_by (rows.goes_to body came) s.peers

-- the number after a message's, where the message is this node's own: it came from nowhere
abbrev pub next_after_own : ℕ → Body → Option NodeId → ℕ
next_after_own next body None = said (λ p. p.seq) body + 1
next_after_own next body (Some u) = next

-- the message's number is marked in the window of its source
abbrev pub marked : PrioState → Body → Option NodeId → PrioState
marked s body came = record s {
  windows = windows_with s.windows (place_of s.nodes (said (λ p. p.src.0) body)) (said (λ p. p.seq) body);
  next = next_after_own s.next body came;
}

-- the message is put into its places
abbrev pub spread : PrioState → Kept → Option NodeId → PrioState
spread s kept came = if is_here s kept.body then record s { inbox = put s.inbox kept } else record s { peers = map (rows.given kept came) s.peers }

-- the priority part after a new message: its number is marked, and copies go into stores and inbox
abbrev pub admit_prio : PrioState → Kept → Option NodeId → PrioState
admit_prio s kept came = spread (marked s kept.body came) kept came

-- what is told of a message that is delivered
abbrev pub delivered : Body → List Effect
delivered (bodies.Prio p) = effects.DeliveredPrio p.src p.seq p.payload ∷ []
delivered _ = []

-- at its destination a message is delivered, and is put into the inbox; elsewhere each place tells what it got and what went
abbrev pub prio_effects : PrioState → Kept → Option NodeId → List Effect
prio_effects s kept came =
    if is_here s kept.body then delivered kept.body ++ rows.put_effects 0 s.inbox kept else flat_map (rows.given_effects kept came) s.peers

-- ---- polls, and what neighbours acknowledge and send

-- the entries whose turn it is towards a neighbour, with their link numbers
abbrev pub next_prios : PrioState → ℕ → List (ℕ × Entry)
next_prios s v = rows.next_prios (peer_in s v)

-- the priority part after a frame to a neighbour took its entries
abbrev pub carried : PrioState → ℕ → PrioState
carried s v = with_peer s v (rows.carried (peer_in s v))

-- the priority part after a neighbour heard up to a link number
abbrev pub acked : PrioState → ℕ → ℕ → PrioState
acked s v number = with_peer s v (rows.acked (peer_in s v) number)

-- what is told where a neighbour heard up to a link number
abbrev pub acked_effects : PrioState → ℕ → ℕ → List Effect
acked_effects s v number = rows.acked_effects (peer_in s v) number

-- the priority part after a link number came from a neighbour
abbrev pub heard : PrioState → ℕ → ℕ → PrioState
heard s v number = with_peer s v (rows.heard (peer_in s v) number)

-- ---- lives of other nodes

-- the windows with the one at a place empty
abbrev pub windows_less : List (List ℕ) → Option ℕ → List (List ℕ)
windows_less windows None = windows
windows_less windows (Some place) = slice_set windows place []

-- another life of the source began: none of its numbers was seen
abbrev pub renewed : PrioState → ℕ → PrioState
renewed s source = record s { windows = windows_less s.windows (place_of s.nodes source) }

-- another life of the neighbour began. The last link number that was given stays
abbrev pub unheard : PrioState → ℕ → PrioState
unheard s v = with_peer s v (rows.unheard (peer_in s v))

-- ---- time, and clients

-- how many entries of all places leave when the time is this
abbrev pub expiring : PrioState → ℕ → ℕ
expiring s now = length (expired_entries s.inbox now) + sum_by (λ q. length (expired_entries q.store now)) s.peers

-- the priority part without what is over its time
abbrev pub expired : PrioState → ℕ → PrioState
expired s now = record s { inbox = less_expired s.inbox now; peers = map (λ q. rows.expired q now) s.peers }

-- what is told of entries that are over their time: those of the inbox first
abbrev pub expired_effects : PrioState → ℕ → List Effect
expired_effects s now = rows.expired_effects 0 s.inbox now ++ flat_map (λ q. rows.expired_effects q.peer q.store now) s.peers

-- a client takes the oldest message of the inbox
abbrev pub taken : PrioState → PrioState
taken s = record s { inbox = less_oldest s.inbox }

-- ---- another version of the topology

-- what waited for edges that are withdrawn now, and what has a removed end, leaves the stores of neighbours. The inbox stays
abbrev pub closed : PrioState → List ℕ → List NodeId → PrioState
closed s weights removed = record s { removed = removed; peers = map (rows.closed weights removed) s.peers }

-- what is told of entries that a version takes away
abbrev pub closed_effects : PrioState → List ℕ → List NodeId → List Effect
closed_effects s weights removed = flat_map (rows.closed_effects weights removed) s.peers

-- how many entries all places have
abbrev pub entry_count : PrioState → ℕ
entry_count s = length s.inbox.entries + sum_by (λ q. length q.store.entries) s.peers
