-- Reliable flows on paths at one node: they are as plain ones, but their messages go only over the edges of a mask.
--
--     flows    the flows, with what neighbours reported of them, and cycles of their own
--     edges    the edge to each neighbour
--     paths    of each node the number of paths that the last message to it asked for
--
-- A mask is chosen where nothing of a flow waits. It stays until all is acknowledged, so all messages that wait have one mask.
use Rattle.std.specs.Prelude.{ℕ, ◌≡◌, ◌==◌, ◌&&◌, Bool, true, not, List, [], ◌∷◌, map, Option, Some, None, Result, Ok, Err, if◌then◌else◌}
use Rattle.std.specs.Option.{option_and_then, option_map}
use Rattle.sp_base.specs.Rows.{first_where, replace_where}
use Rattle.sp_base.specs.declared.id.NodeId.{NodeId}
use Rattle.sp_frame.specs.Reliable.{Report}
use Rattle.sp_msg.specs.Masks.{bits}
use Rattle.sp_msg.specs.Views.{names_edge}
use Rattle.sp_msg.specs.declared.body.Ack.{Ack}
use Rattle.sp_msg.specs.declared.body.Body.{Body}
use Rattle.sp_msg.specs.declared.body.Body.TheVariants as bodies
use Rattle.sp_msg.specs.declared.body.Kack.{Kack}
use Rattle.sp_msg.specs.declared.kept.Kept.{Kept}
use Rattle.sp_msg.specs.declared.mask.Mask.{Mask}
use Rattle.sp_msg.specs.declared.refused.SendRefused.{SendRefused}
use Rattle.sp_msg.specs.declared.refused.SendRefused.TheVariants as refusals
use Rattle.sp_rules.specs.Flow.{flow_said}
use Rattle.sp_rules.specs.Rel as rel
use Rattle.sp_rules.specs.Rel.{RelState, first_waiting, is_waiting, pushed_in}
use Rattle.sp_rules.specs.declared.kflow.FlowKind.{FlowKind}
use Rattle.sp_rules.specs.declared.kflow.FlowKind.TheVariants as kinds
use Rattle.sp_rules.specs.declared.kflow.KRoom.{KRoom}
use Rattle.sp_rules.specs.declared.kflow.PathsTo.{PathsTo}
use Rattle.sp_rules.specs.declared.prio.Neighbour.{Neighbour}
use Rattle.sp_rules.specs.declared.rel.RelRefused.{RelRefused}
use Rattle.sp_rules.specs.declared.rel.RelRefused.TheVariants as rels

pub record KState : Type 0 where
  pub flows : RelState
  pub edges : List Neighbour
  pub paths : List PathsTo

-- no message went to this node
abbrev pub no_paths : NodeId → PathsTo
no_paths dst = record { dst = dst; count = 0 }

-- no flow is active, and no message went
abbrev pub start : NodeId → List NodeId → List Neighbour → ℕ → KState
start me nodes neighbours bound = record {
  flows = rel.start me nodes (map (λ n. n.id) neighbours) bound;
  edges = neighbours;
  paths = map no_paths nodes;
}

-- the same with other states of the flows
abbrev pub with_flows : KState → RelState → KState
with_flows k r = record k { flows = r }

-- ---- masks

-- the mask of a message. Only one on paths has one
abbrev pub mask_said : Body → Option Mask
mask_said (bodies.Krel m) = Some m.mask
mask_said _ = None

-- a message may go over an edge of its mask. One without a mask goes over each
abbrev pub goes_over : ℕ → Body → Bool
goes_over edge (bodies.Krel m) = names_edge (bits m.mask) edge
goes_over edge _ = true

-- whether this is that neighbour
abbrev pub is_neighbour : NodeId → Neighbour → Bool
is_neighbour v n = n.id.0 == v.0

-- no mask has an edge of this number
abbrev pub no_edge : NodeId → Neighbour
no_edge v = record { id = v; edge = record { 0 = 256 } }

-- the edge to a neighbour
abbrev pub edge_to : KState → NodeId → ℕ
edge_to k v = (first_where (is_neighbour v) (no_edge v) k.edges).edge.0

-- what came from this neighbour may have come so
abbrev pub came_over : KState → NodeId → Body → Bool
came_over k v body = goes_over (edge_to k v) body

-- ---- a client's message

-- whether a row is that of a node
abbrev pub is_row_of : NodeId → PathsTo → Bool
is_row_of dst row = row.dst.0 == dst.0

-- how many paths the last message to a node asked for
abbrev pub paths_to : KState → NodeId → ℕ
paths_to k dst = (first_where (is_row_of dst) (no_paths dst) k.paths).count

-- the rows with that of a node changed
abbrev pub put_paths : List PathsTo → NodeId → ℕ → List PathsTo
put_paths paths dst count = replace_where (is_row_of dst) (record { dst = dst; count = count }) paths

-- the mask of the messages of an own flow that wait for their acknowledgement, if some wait
abbrev pub waiting_mask : KState → NodeId → Option Mask
waiting_mask k dst = option_and_then (λ (o : Kept). mask_said o.body) (first_waiting k.flows dst)

-- why a message on so many paths isn't taken: messages wait that went on another number of them
abbrev pub busy : KState → NodeId → ℕ → Result ℕ RelRefused → Result KRoom SendRefused
busy k dst count (Ok seq) =
    if is_waiting k.flows dst && not (paths_to k dst == count) then Err (refusals.Busy (paths_to k dst)) else Ok (record { seq = seq; mask = waiting_mask k dst })
busy k dst count (Err rels.BadEnd) = Err refusals.BadEnd
busy k dst count (Err (rels.Full base have)) = Err (refusals.Full base have)
busy k dst count (Err rels.Memory) = Err refusals.Memory

-- the number of the next message to a node on so many paths, with the mask that stays, or why there is none
abbrev pub room : KState → NodeId → ℕ → Result KRoom SendRefused
room k dst count = busy k dst count (rel.room k.flows dst)

-- a mask is the one that stays, where one does
abbrev pub Stays : Option Mask → Mask → Type 0
Stays None mask = Unit {0}
Stays (Some waiting) mask = mask ≡ waiting

-- a message is the next of its flow from this node, on so many paths, with the mask that stays
pub record IsNext (k : KState) (count : ℕ) (src dst : NodeId) (seq : ℕ) (mask : Mask) : Type 0 where
  pub from : src ≡ k.flows.me
  pub place : KRoom
  pub there : room k dst count ≡ Ok place
  pub number : seq ≡ place.seq
  pub stays : Stays place.mask mask

abbrev pub IsNextOwn : KState → ℕ → Body → Type 0
IsNextOwn k count (bodies.Krel m) = IsNext k count m.src m.dst m.seq m.mask
IsNextOwn k count _ = ⊥

-- it is kept, and so is its number of paths
abbrev pub pushed : KState → Kept → ℕ → KState
pushed k message count = record k { flows = pushed_in k.flows message; paths = put_paths k.paths (flow_said message.body).dst count }

-- ---- a slot is made

-- the first of these messages, where it may go over the edge
abbrev pub first_over : ℕ → List Kept → List Kept
first_over edge [] = []
first_over edge (o ∷ os) = if goes_over edge o.body then o ∷ [] else []

-- a report with its first message alone, where that may go over the edge
abbrev pub over_edge : ℕ → Report → Report
over_edge edge r = record r { rels = first_over edge r.rels }

-- what a poll of a neighbour carries: as of a plain flow, but for its messages. None exactly where no flow is active
abbrev pub slot_for : KState → NodeId → Option Report
slot_for k v = option_map (over_edge (edge_to k v)) (rel.slot_for k.flows v)

-- ---- the destination's acknowledgements

-- an acknowledgement over paths
abbrev pub as_kack : Ack → Kack
as_kack a = record { src = a.src; dst = a.dst; sboot = a.sboot; dboot = a.dboot; seq = a.seq }

-- an acknowledgement of a flow of this kind
abbrev pub ack_body : FlowKind → Ack → Body
ack_body kinds.Plain a = bodies.Ack a
ack_body kinds.Paths a = bodies.Kack (as_kack a)

-- ---- kinds

-- a message on paths, and an acknowledgement of one
abbrev pub IsKrel : Body → Type 0
IsKrel (bodies.Krel m) = Unit {0}
IsKrel _ = ⊥

abbrev pub IsKack : Body → Type 0
IsKack (bodies.Kack a) = Unit {0}
IsKack _ = ⊥
