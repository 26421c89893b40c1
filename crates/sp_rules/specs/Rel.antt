-- Reliable messaging at one node: where each flow stands, what each neighbour reported of it, and whose turn it is.
--
--     flows     a row for each flow, which is an ordered pair of two nodes, ascending
--     peers     a row for each neighbour: the place of the flow that went to it last, and what it reported last of each flow
--     signed    the place of the flow to this node whose acknowledgement was signed last
--
-- Rows are only ever replaced, so each place stays that of its flow.
use Rattle.std.specs.Prelude.{ℕ, ◌≡◌, ◌+◌, ◌-◌, ◌==◌, Bool, not, ◌&&◌, ◌||◌, nat_le, nat_lt, max, List, [], ◌∷◌, length, map, filter, take, drop}
use Rattle.std.specs.Prelude.{Option, Some, None, Result, Ok, Err, slice_get, if◌then◌else◌}
use Rattle.std.specs.List.{All, flat_map, list_any}
use Rattle.std.specs.Option.{option_and_then, option_map}
use Rattle.sp_base.specs.Cursor.{next_after}
use Rattle.sp_base.specs.Position.{Position}
use Rattle.sp_base.specs.Rows.{first_where, replace_where}
use Rattle.sp_base.specs.declared.id.Flow.{Flow}
use Rattle.sp_base.specs.declared.id.NodeId.{NodeId}
use Rattle.sp_base.specs.declared.limits.TheConstants.{MAX_MESSAGES}
use Rattle.sp_frame.specs.Reliable.{Report}
use Rattle.sp_msg.specs.Bodies.{payload_of}
use Rattle.sp_msg.specs.declared.body.Ack.{Ack}
use Rattle.sp_msg.specs.declared.body.Body.{Body}
use Rattle.sp_msg.specs.declared.body.Body.TheVariants as bodies
use Rattle.sp_msg.specs.declared.body.Kack.{Kack}
use Rattle.sp_msg.specs.declared.effect.Effect.{Effect}
use Rattle.sp_msg.specs.declared.effect.Effect.TheVariants.{Delivered, DeliveredKrel, Ended, Kended}
use Rattle.sp_msg.specs.declared.kept.Kept.{Kept}
use Rattle.sp_rules.specs.Flow.{FlowState, IsStanding, no_flow, ends, is_flow, is_full, flow_said, number_said, pushed, received}
use Rattle.sp_rules.specs.Flow.{acknowledged_by, concluded, after_take, ended}
use Rattle.sp_rules.specs.declared.kflow.FlowKind.{FlowKind}
use Rattle.sp_rules.specs.declared.kflow.FlowKind.TheVariants as kinds
use Rattle.sp_rules.specs.declared.rel.AckJudged.{AckJudged}
use Rattle.sp_rules.specs.declared.rel.AckJudged.TheVariants as acks
use Rattle.sp_rules.specs.declared.rel.RelJudged.{RelJudged}
use Rattle.sp_rules.specs.declared.rel.RelJudged.TheVariants as rels
use Rattle.sp_rules.specs.declared.rel.RelRefused.{RelRefused}
use Rattle.sp_rules.specs.declared.rel.RelRefused.TheVariants as refusals

-- the base and have of a flow that a neighbour reported last, as they came
pub record View : Type 0 where
  pub src : NodeId
  pub dst : NodeId
  pub base : ℕ
  pub have : ℕ

-- what a neighbour told: the flow whose turn was last there, and a view of each flow
pub record RelPeer : Type 0 where
  pub peer : NodeId
  pub last : Option ℕ
  pub views : List View

-- all flows at a node, what its neighbours told of them, and the place where the last acknowledgement was signed
pub record RelState : Type 0 where
  pub me : NodeId
  pub nodes : List NodeId
  pub removed : List NodeId
  pub bound : ℕ
  pub flows : List FlowState
  pub peers : List RelPeer
  pub signed : Option ℕ

-- ---- the start

-- the flows from a node to each other one
abbrev pub flows_from : NodeId → List NodeId → List Flow
flows_from src nodes = map (λ dst. record { src = src; dst = dst }) (filter (λ dst. not (dst.0 == src.0)) nodes)

-- the ordered pairs of two nodes, ascending where the nodes are
abbrev pub pairs_of : List NodeId → List Flow
pairs_of nodes = flat_map (λ src. flows_from src nodes) nodes

-- nothing was reported of a flow
abbrev pub no_view : Flow → View
no_view flow = record { src = flow.src; dst = flow.dst; base = 0; have = 0 }

-- nothing went to a neighbour, and nothing came
abbrev pub new_peer : List Flow → NodeId → RelPeer
new_peer flows peer = record { peer = peer; last = None; views = map no_view flows }

-- reliable messaging at a start: no flow is active, and nothing was heard
abbrev pub start : NodeId → List NodeId → List NodeId → ℕ → RelState
start me nodes neighbours bound = record {
  me = me;
  nodes = nodes;
  removed = [];
  bound = bound;
  flows = map no_flow (pairs_of nodes);
  peers = map (new_peer (pairs_of nodes)) neighbours;
  signed = None;
}

-- ---- the rows

-- the state of a flow
abbrev pub flow_in : List FlowState → Flow → FlowState
flow_in flows flow = first_where (is_flow flow) (no_flow flow) flows

-- the flows with that one changed
abbrev pub put_flow : List FlowState → Flow → FlowState → List FlowState
put_flow flows flow f = replace_where (is_flow flow) f flows

-- whether a view is of that flow
abbrev pub is_view : Flow → View → Bool
is_view flow w = (w.src.0 == flow.src.0) && (w.dst.0 == flow.dst.0)

-- the view of a flow
abbrev pub view_in : List View → Flow → View
view_in views flow = first_where (is_view flow) (no_view flow) views

-- the views with that of a flow changed
abbrev pub put_view : List View → Flow → View → List View
put_view views flow w = replace_where (is_view flow) w views

-- whether a row is that of a neighbour
abbrev pub is_peer : NodeId → RelPeer → Bool
is_peer v p = p.peer.0 == v.0

-- the row of a neighbour
abbrev pub peer_in : List RelPeer → NodeId → RelPeer
peer_in peers v = first_where (is_peer v) (new_peer [] v) peers

-- the rows with that of a neighbour changed
abbrev pub put_peer : List RelPeer → NodeId → RelPeer → List RelPeer
put_peer peers v p = replace_where (is_peer v) p peers

-- reliable messaging with one flow changed
abbrev pub with_flow : RelState → Flow → FlowState → RelState
with_flow r flow f = record r { flows = put_flow r.flows flow f }

-- reliable messaging with one neighbour's row changed
abbrev pub with_peer : RelState → NodeId → RelPeer → RelState
with_peer r v p = record r { peers = put_peer r.peers v p }

-- the flow that has its row in this place
abbrev pub flow_at : List FlowState → ℕ → Option Flow
flow_at flows place = option_map ends (slice_get flows place)

-- where an active flow stands
abbrev pub position_in : List FlowState → Flow → Option (ℕ × ℕ)
position_in flows flow = let f = flow_in flows flow in if f.active then Some (f.at.base, f.at.have) else None

-- ---- who is who

-- whether a node is one of these
abbrev pub is_one_of : List NodeId → NodeId → Bool
is_one_of nodes u = list_any (λ x. x.0 == u.0) nodes

-- it is a node, and isn't removed
abbrev pub is_node : RelState → NodeId → Bool
is_node r u = is_one_of r.nodes u && not (is_one_of r.removed u)

-- an end of the flow is removed: it has ended here
abbrev pub is_over : List NodeId → Flow → Bool
is_over removed flow = is_one_of removed flow.src || is_one_of removed flow.dst

-- this node is the source, or the destination
abbrev pub is_from : RelState → Flow → Bool
is_from r flow = r.me.0 == flow.src.0

-- whether a flow ends at this node
abbrev pub is_to : RelState → Flow → Bool
is_to r flow = r.me.0 == flow.dst.0

-- these are the ends of the flow, and two different nodes
abbrev pub are_ends : RelState → Flow → NodeId → NodeId → Bool
are_ends r flow src dst = (src.0 == flow.src.0) && (dst.0 == flow.dst.0) && not (src.0 == dst.0) && is_node r src && is_node r dst

-- ---- a client's message

-- the flow from this node to another
abbrev pub own_flow : RelState → NodeId → Flow
own_flow r dst = record { src = r.me; dst = dst }

-- the number of the next message to a node, or why there is none
abbrev pub room : RelState → NodeId → Result ℕ RelRefused
room r dst =
    let f = flow_in r.flows (own_flow r dst) in
    if not (are_ends r (own_flow r dst) r.me dst) then Err refusals.BadEnd
    else if is_full r.bound f then Err (refusals.Full f.at.base f.at.have)
    else Ok (f.at.have + 1)

-- messages to a node wait for their acknowledgement
abbrev pub is_waiting : RelState → NodeId → Bool
is_waiting r dst = let f = flow_in r.flows (own_flow r dst) in nat_lt f.at.base f.at.have

-- the first of them
abbrev pub first_waiting : RelState → NodeId → Option Kept
first_waiting r dst = slice_get (flow_in r.flows (own_flow r dst)).at.list 0

-- a message is the next of its flow from this node
abbrev pub IsNextOwn : RelState → Body → Type 0
IsNextOwn r (bodies.Rel m) = (m.src ≡ r.me) × (room r m.dst ≡ Ok m.seq)
IsNextOwn r (bodies.Krel m) = (m.src ≡ r.me) × (room r m.dst ≡ Ok m.seq)
IsNextOwn r _ = ⊥

-- it is kept
abbrev pub pushed_in : RelState → Kept → RelState
pushed_in r message = with_flow r (flow_said message.body) (pushed (flow_in r.flows (flow_said message.body)) message)

-- ---- a slot arrives

-- a neighbour's report becomes the view of it, as it came
abbrev pub told : RelPeer → Flow → ℕ → ℕ → RelPeer
told p flow base have = record p { views = put_view p.views flow (record { src = flow.src; dst = flow.dst; base = base; have = have }) }

-- a report on a flow that isn't active is dropped
abbrev pub reported : RelState → NodeId → Flow → ℕ → ℕ → RelState
reported r v flow base have = if (flow_in r.flows flow).active then with_peer r v (told (peer_in r.peers v) flow base have) else r

-- the answer to an acknowledgement in a slot of this flow, but for its signature: the first that fits
abbrev pub judge_ack : RelState → Flow → Ack → AckJudged
judge_ack r flow ack =
    let f = flow_in r.flows flow in
    if not (are_ends r flow ack.src ack.dst) then acks.BadEnd
    else if nat_le ack.seq f.at.base then acks.Old
    else if is_from r flow && nat_lt f.at.have ack.seq then acks.Ahead
    else if is_to r flow then acks.Ahead
    else acks.New

-- an acknowledgement, or a receipt of a K-path flow, as what it says of its flow, whatever boots it names
abbrev pub undated : Ack → Ack
undated a = record { src = a.src; dst = a.dst; sboot = 0; dboot = 0; seq = a.seq }

-- an acknowledgement over paths as one of a reliable flow, without boots
abbrev pub plain_ack : Kack → Ack
plain_ack a = record { src = a.src; dst = a.dst; sboot = 0; dboot = 0; seq = a.seq }

-- an object as one of a reliable flow, acknowledgements without boots
abbrev pub plain : Body → Body
plain (bodies.Ack a) = bodies.Ack (undated a)
plain (bodies.Kack a) = bodies.Ack (plain_ack a)
plain body = body

-- the same of a message. Only an acknowledgement or a receipt is one
abbrev pub judge_ack_of : RelState → Flow → Body → AckJudged
judge_ack_of r flow (bodies.Ack a) = judge_ack r flow a
judge_ack_of r flow (bodies.Kack a) = judge_ack r flow (plain_ack a)
judge_ack_of r flow _ = acks.BadEnd

-- a new acknowledgement is kept
abbrev pub admit_ack : RelState → Kept → RelState
admit_ack r ack = with_flow r (flow_said ack.body) (acknowledged_by (flow_in r.flows (flow_said ack.body)) ack)

-- the answer to the message of these ends and this number in a slot of this flow, but for its signature: the first that fits
abbrev pub judge_rel : RelState → Flow → NodeId → NodeId → ℕ → RelJudged
judge_rel r flow src dst seq =
    let f = flow_in r.flows flow in
    if not (are_ends r flow src dst) then rels.BadEnd
    else if nat_le seq f.at.have then rels.Old
    else if is_from r flow then rels.Ahead
    else if nat_lt (f.at.have + 1) seq then rels.Gap
    else if is_full r.bound f then rels.Full
    else if is_to r flow && (length f.inbox == r.bound) then rels.InboxFull
    else rels.New

-- the same of a message. Only a reliable one or one of a K-path flow has a number in its flow
abbrev pub judge_rel_of : RelState → Flow → Body → RelJudged
judge_rel_of r flow (bodies.Rel m) = judge_rel r flow m.src m.dst m.seq
judge_rel_of r flow (bodies.Krel m) = judge_rel r flow m.src m.dst m.seq
judge_rel_of r flow _ = rels.BadEnd

-- a new message is delivered at the destination, and kept for the next node elsewhere
abbrev pub admit_rel : RelState → Kept → RelState
admit_rel r message =
    let flow = flow_said message.body in
    let f = flow_in r.flows flow in
    with_flow r flow (if is_to r flow then received f (payload_of message.body) else pushed f message)

-- its delivery is told at the destination
abbrev pub delivery : Body → Effect
delivery (bodies.Krel m) = DeliveredKrel m.src m.seq m.payload
delivery body = Delivered (flow_said body).src (number_said body) (payload_of body)

-- what is told of a new message: at its destination, that it is delivered
abbrev pub rel_effects : RelState → Kept → List Effect
rel_effects r message = if is_to r (flow_said message.body) then delivery message.body ∷ [] else []

-- ---- a slot is made

-- the place of the flow whose turn it is: the one after the last, among the active ones
abbrev pub next_place : RelState → NodeId → Option ℕ
next_place r v = next_after (peer_in r.peers v).last (map (λ f. f.active) r.flows)

-- the flow in this place is read again by its ends
abbrev pub next_flow : RelState → NodeId → Option Flow
next_flow r v = option_and_then (flow_at r.flows) (next_place r v)

-- the first messages of a position after this number, at most four
abbrev pub messages_after : {X : Type 0} → Position X → ℕ → List X
messages_after at number = take MAX_MESSAGES (drop (number - at.base) at.list)

-- where the flow stands, the kept acknowledgement unless the neighbour has its base, and, but at the destination, the first messages
-- after those that the neighbour has. The node dates it
abbrev pub slot_of : RelState → NodeId → Flow → Report
slot_of r v flow =
    let f = flow_in r.flows flow in
    let w = view_in (peer_in r.peers v).views flow in
    record {
      flow = flow;
      sboot = 0;
      dboot = 0;
      base = f.at.base;
      have = f.at.have;
      ack = if nat_lt w.base f.at.base then f.ack else None;
      rels = if is_to r flow then [] else messages_after f.at (max w.have f.at.base);
    }

-- what a poll of a neighbour carries. None exactly where no flow is active
abbrev pub slot_for : RelState → NodeId → Option Report
slot_for r v = option_map (slot_of r v) (next_flow r v)

-- the flow in this place went to a neighbour
abbrev pub served_at : RelState → NodeId → Option ℕ → RelState
served_at r v None = r
served_at r v (Some place) = with_peer r v (record (peer_in r.peers v) { last = Some place })

-- the flow whose turn it is went
abbrev pub served : RelState → NodeId → RelState
served r v = served_at r v (next_place r v)

-- ---- the destination's acknowledgements

-- a flow to this node of which more came than is acknowledged
abbrev pub is_due : NodeId → FlowState → Bool
is_due me f = (f.dst.0 == me.0) && nat_lt f.at.base f.at.have

-- the place of the one that is due: the one after the last, among all that are
abbrev pub due_place : RelState → Option ℕ
due_place r = next_after r.signed (map (is_due r.me) r.flows)

-- the acknowledgement of all that came. The node dates it
abbrev pub ack_of : RelState → Flow → Ack
ack_of r flow = record { src = flow.src; dst = flow.dst; sboot = 0; dboot = 0; seq = (flow_in r.flows flow).at.have }

-- the acknowledgement whose turn it is, if one is due
abbrev pub due : RelState → Option Ack
due r = option_map (ack_of r) (option_and_then (flow_at r.flows) (due_place r))

-- the acknowledgement of the flow in this place was signed
abbrev pub settled_at : RelState → Kept → Option ℕ → RelState
settled_at r ack None = r
settled_at r ack (Some place) =
    record (with_flow r (flow_said ack.body) (concluded (flow_in r.flows (flow_said ack.body)) ack)) { signed = Some place }

-- the acknowledgement that is due was signed
abbrev pub settled : RelState → Kept → RelState
settled r ack = settled_at r ack (due_place r)

-- ---- a client takes

-- the flow from a node to this one
abbrev pub flow_to_me : RelState → NodeId → Flow
flow_to_me r src = record { src = src; dst = r.me }

-- the oldest of the inbox, if there is one
abbrev pub oldest : RelState → NodeId → Option (List ℕ)
oldest r src = slice_get (flow_in r.flows (flow_to_me r src)).inbox 0

-- it left. Nothing changes where the inbox is empty
abbrev pub took : RelState → NodeId → RelState
took r src = with_flow r (flow_to_me r src) (after_take (flow_in r.flows (flow_to_me r src)))

-- ---- lives of other nodes

-- the node is an end of the flow
abbrev pub is_end : NodeId → Flow → Bool
is_end v flow = (flow.src.0 == v.0) || (flow.dst.0 == v.0)

-- the flow is as before its first message where this node is an end of it, and nothing was reported of it
abbrev pub flow_less : NodeId → FlowState → FlowState
flow_less v f = if is_end v (ends f) then no_flow (ends f) else f

-- the flow of a view
abbrev pub viewed : View → Flow
viewed w = record { src = w.src; dst = w.dst }

-- a view that is empty where the flow has that end
abbrev pub view_less : NodeId → View → View
view_less v w = if is_end v (viewed w) then no_view (viewed w) else w

-- a row whose views of flows with that end are empty
abbrev pub views_less : NodeId → RelPeer → RelPeer
views_less v p = record p { views = map (view_less v) p.views }

-- another life of a node began: so is each flow with it as an end
abbrev pub restarted : RelState → NodeId → RelState
restarted r v = record r { flows = map (flow_less v) r.flows; peers = map (views_less v) r.peers }

-- what is told of a flow of this kind that was active and isn't any more
abbrev pub ending : FlowKind → Flow → Effect
ending kinds.Plain flow = Ended flow
ending kinds.Paths flow = Kended flow

-- those of them that were active end, in order
abbrev pub ended_by : FlowKind → NodeId → FlowState → List Effect
ended_by kind v f = if is_end v (ends f) && f.active then ending kind (ends f) ∷ [] else []

-- what is told where another life of a node begins: each active flow of it ends
abbrev pub restart_effects : FlowKind → RelState → NodeId → List Effect
restart_effects kind r v = flat_map (ended_by kind v) r.flows

-- another life of the neighbour began: it reported nothing
abbrev pub no_views : RelPeer → RelPeer
no_views p = record p { views = map (λ w. no_view (viewed w)) p.views }

-- reliable messaging as if that neighbour had reported nothing
abbrev pub unheard : RelState → NodeId → RelState
unheard r v = with_peer r v (no_views (peer_in r.peers v))

-- ---- another version of the topology

-- it ends where it was active and an end of it is removed now
abbrev pub ended_where : List NodeId → FlowState → FlowState
ended_where removed f = if f.active && is_over removed (ends f) then ended f else f

-- reliable messaging where these nodes are removed
abbrev pub closed : RelState → List NodeId → RelState
closed r removed = record r { removed = removed; flows = map (ended_where removed) r.flows }

-- what is told of a flow where these nodes are removed
abbrev pub ended_effect : FlowKind → List NodeId → FlowState → List Effect
ended_effect kind removed f = if f.active && is_over removed (ends f) then ending kind (ends f) ∷ [] else []

-- in the order of flows
abbrev pub closed_effects : FlowKind → RelState → List NodeId → List Effect
closed_effects kind r removed = flat_map (ended_effect kind removed) r.flows

-- ---- what always holds

-- each row is a flow's position with its messages, within the bound
abbrev pub AreStanding : RelState → Type 0
AreStanding r = All (IsStanding r.me r.bound) r.flows
