-- No change of a row changes the shape of its table.
use Rattle.std.proofs.Common.{◌≡◌, ℕ, zero, suc, ◌-◌, Bool, true, false, List, [], ◌∷◌, length, length-set, map, slice_set, Option, Some, None, Result, Ok, Err}
use Rattle.std.proofs.Common.{refl, ap, ap₂, ◌∙◌, arith, cond}
use Rattle.std.proofs.lemmas.Bool.Decides.{nat_tests}
use Rattle.sp_base.specs.Rows.{first_where, replace_where}
use Rattle.sp_base.specs.declared.id.Flow.{Flow}
use Rattle.sp_base.specs.declared.id.NodeId.{NodeId}
use Rattle.sp_base.specs.declared.limits.TheConstants.{MAX_MESSAGES}
use Rattle.sp_frame.specs.declared.head.Head.{Head}
use Rattle.sp_frame.specs.declared.refused.FrameRefused.{FrameRefused}
use Rattle.sp_msg.specs.Bodies.{payload_of}
use Rattle.sp_msg.specs.declared.body.Body.{Body}
use Rattle.sp_msg.specs.declared.kept.Kept.{Kept}
use Rattle.sp_rules.proofs.ArrivalLemmas.{link_stays, link_with}
use Rattle.sp_rules.specs.Arrivals.{link_after}
use Rattle.sp_rules.specs.Arts.{Arts, is_right}
use Rattle.sp_rules.specs.Flow.{FlowState, acknowledged_by, concluded, ends, flow_said, is_flow, no_flow, pushed, received}
use Rattle.sp_rules.specs.Link.{Link, advanced, after_answer, link_answer, new_link}
use Rattle.sp_rules.specs.Node.{NodeState, is_link, link_in, with_link}
use Rattle.sp_rules.specs.Prio as prio
use Rattle.sp_rules.specs.Prio.{PrioState}
use Rattle.sp_rules.specs.PrioPeer as rows
use Rattle.sp_rules.specs.PrioPeer.{PrioPeer}
use Rattle.sp_rules.specs.Rel as rel
use Rattle.sp_rules.specs.Rel.{RelPeer, RelState}
use Rattle.sp_rules.specs.Store.{Store, next_besides, put, removed}
use Rattle.sp_rules.specs.Weights as weights
use Rattle.sp_rules.specs.Weights.{WeightState}
use Rattle.sp_rules.specs.declared.link.LinkAnswer.{LinkAnswer}
use Rattle.sp_rules.specs.declared.link.LinkAnswer.TheVariants as answers
use Rattle.sp_rules.specs.declared.store.Entry.{Entry}
use Rattle.sp_topology.specs.declared.topology.Edge.{Edge}
use Rattle.laws_node.specs.Shapes.{PeerShape, PrioShape, RelPeerShape, RelShape, WeightShape, link_shape, peer_shape, prio_shape, rel_peer_shape, rel_shape}
use Rattle.laws_node.specs.Shapes.{view_ends, weight_shape}

-- ---- tables

-- the first row changes, and keeps its key
pub replace_first : {X K : Type 0} (key : X → K) (test : X → Bool) (d : X) (f : X → X) → ((x : X) → key (f x) ≡ key x) → (xs : List X)
    → map key (replace_where test (f (first_where test d xs)) xs) ≡ map key xs
replace_first key test d f same [] = refl
replace_first {X} {K} key test d f same (x ∷ xs) = by (test x) (replace_first key test d f same xs)
  where
    by : (t : Bool) → map key (replace_where test (f (first_where test d xs)) xs) ≡ map key xs
        → map key (cond t (f (cond t x (first_where test d xs)) ∷ xs) (x ∷ replace_where test (f (cond t x (first_where test d xs))) xs)) ≡ map key (x ∷ xs)
    by true rest = ap (λ (k : K). k ∷ map key xs) (same x)
    by false rest = ap (λ (ks : List K). key x ∷ ks) rest

pub replace_keyed : {X K : Type 0} (key : X → K) (test : X → Bool) (y : X) → ((x : X) → test x ≡ true → key y ≡ key x) → (xs : List X)
    → map key (replace_where test y xs) ≡ map key xs
replace_keyed key test y same [] = refl
replace_keyed {X} {K} key test y same (x ∷ xs) = by (test x) refl (replace_keyed key test y same xs)
  where
    by : (t : Bool) → test x ≡ t → map key (replace_where test y xs) ≡ map key xs → map key (cond t (y ∷ xs) (x ∷ replace_where test y xs)) ≡ map key (x ∷ xs)
    by true is rest = ap (λ (k : K). k ∷ map key xs) (same x is)
    by false is rest = ap (λ (ks : List K). key x ∷ ks) rest

pub each_same : {X K : Type 0} (key : X → K) (f : X → X) → ((x : X) → key (f x) ≡ key x) → (xs : List X) → map key (map f xs) ≡ map key xs
each_same key f same [] = refl
each_same {X} {K} key f same (x ∷ xs) = ap₂ (λ (k : K) (ks : List K). k ∷ ks) (same x) (each_same key f same xs)

pub set_length : {X : Type 0} (xs : List X) (i : ℕ) (y : X) → length (slice_set xs i y) ≡ length xs
set_length xs i y = length-set xs i y

-- ---- links

pub answer_shape : (l : Link) (h : Head) (a : LinkAnswer) → link_shape (after_answer l h a) ≡ link_shape l
answer_shape l h answers.NotForMe = refl
answer_shape l h answers.BadTag = refl
answer_shape l h (answers.Learned boot) = refl
answer_shape l h (answers.Stale boot counter) = refl
answer_shape l h answers.Fresh = refl

pub arrived_shape : (arts : Arts) (bytes : List ℕ) (o : Result (List ℕ) FrameRefused) (l : Link) → link_shape (link_with arts l bytes o) ≡ link_shape l
arrived_shape arts bytes (Err refused) l = ap link_shape (link_stays arts l bytes refused)
arrived_shape arts bytes (Ok frame) l = answer_shape l (arts.head bytes) (link_answer l (arts.head bytes) (is_right arts l.key bytes))

pub links_polled : (n : NodeState) (v : NodeId) → map link_shape (with_link n v (advanced (link_in n v))) ≡ map link_shape n.links
links_polled n v = replace_first link_shape (is_link v) (new_link n.fixed.me v 0 []) advanced (λ l. refl) n.links

pub links_arrived : (arts : Arts) (n : NodeState) (v : NodeId) (bytes : List ℕ)
    → map link_shape (with_link n v (link_after arts n v bytes)) ≡ map link_shape n.links
links_arrived arts n v bytes =
    replace_first link_shape (is_link v) (new_link n.fixed.me v 0 []) (λ l. link_with arts l bytes (arts.opened bytes))
    (arrived_shape arts bytes (arts.opened bytes)) n.links

-- ---- weights

pub rows_length : (row : Option ℕ) (rs : List (Option Kept)) (o : Kept) → length (weights.rows_with row rs o) ≡ length rs
rows_length None rs o = refl
rows_length (Some row) rs o = set_length rs row (Some o)

pub cycles_length : (cs : List (Option ℕ)) (v : ℕ) (row : Option ℕ) → length (weights.cycles_with cs v row) ≡ length cs
cycles_length cs v None = refl
cycles_length cs v (Some row) = set_length cs v (Some row)

abbrev pub weight_with : (es : List Edge) (rows cycles : ℕ) → WeightShape
weight_with es rows cycles = record { edges = es; rows = rows; cycles = cycles }

pub held_shape : (w : WeightState) (o : Kept) → weight_shape (weights.held w o) ≡ weight_shape w
held_shape w o = ap (λ (n : ℕ). weight_with w.edges n (length w.cycles)) (rows_length (weights.row_for w.edges o.body) w.rows o)

pub moved_shape : (w : WeightState) (v : ℕ) → weight_shape (weights.moved w v) ≡ weight_shape w
moved_shape w v = ap (λ (n : ℕ). weight_with w.edges (length w.rows) n) (cycles_length w.cycles v (weights.next_row w v))

-- ---- priority messages

abbrev pub with_windows : (s : PrioState) (ps : List PeerShape) (n : ℕ) → PrioShape
with_windows s ps n = record { me = s.me; nodes = s.nodes; inbox = s.inbox.capacity; peers = ps; windows = n }

pub one_peer : (s : PrioState) (v : ℕ) (f : PrioPeer → PrioPeer) → ((q : PrioPeer) → peer_shape (f q) ≡ peer_shape q)
    → prio_shape (prio.with_peer s v (f (prio.peer_in s v))) ≡ prio_shape s
one_peer s v f same = ap (λ (ps : List PeerShape). with_windows s ps (length s.windows)) (replace_first peer_shape (prio.is_peer v) prio.no_peer f same s.peers)

pub launched_shape : (q : PrioPeer) (o : Option Entry) → peer_shape (rows.launched q o) ≡ peer_shape q
launched_shape q None = refl
launched_shape q (Some e) = refl

pub filled_shape : (room : ℕ) (q : PrioPeer) → peer_shape (rows.filled room q) ≡ peer_shape q
filled_shape zero q = refl
filled_shape (suc room) q = filled_shape room (rows.launch q) ∙ launched_shape q (next_besides q.store q.flight q.last)

pub carried_shape : (q : PrioPeer) → peer_shape (rows.carried q) ≡ peer_shape q
carried_shape q = filled_shape (MAX_MESSAGES - length (rows.settled q).flight) (rows.settled q)

pub less_all_capacity : (s : Store) (pairs : List (ℕ × ℕ)) → (rows.less_all s pairs).capacity ≡ s.capacity
less_all_capacity s [] = refl
less_all_capacity s (pair ∷ pairs) = less_all_capacity (removed s pair.1) pairs

pub acked_shape : (number : ℕ) (q : PrioPeer) → peer_shape (rows.acked q number) ≡ peer_shape q
acked_shape number q =
    ap (λ (n : ℕ). record { peer = q.peer; edge = q.edge; capacity = n }) (less_all_capacity q.store (rows.landed q number))

pub given_shape : (o : Kept) (came : Option NodeId) (q : PrioPeer) → peer_shape (rows.given o came q) ≡ peer_shape q
given_shape o came q = by (rows.goes_to o.body came q)
  where
    by : (t : Bool) → peer_shape (cond t (record q { store = put q.store o }) q) ≡ peer_shape q
    by true = refl
    by false = refl

pub marks_length : (ws : List (List ℕ)) (place : Option ℕ) (number : ℕ) → length (prio.windows_with ws place number) ≡ length ws
marks_length ws None number = refl
marks_length ws (Some place) number = set_length ws place _

pub marked_shape : (s : PrioState) (body : Body) (came : Option NodeId) → prio_shape (prio.marked s body came) ≡ prio_shape s
marked_shape s body came = ap (λ (n : ℕ). with_windows s (map peer_shape s.peers) n) (marks_length s.windows _ _)

pub spread_shape : (s : PrioState) (o : Kept) (came : Option NodeId) → prio_shape (prio.spread s o came) ≡ prio_shape s
spread_shape s o came = by (prio.is_here s o.body)
  where
    by : (t : Bool) → prio_shape (cond t (record s { inbox = put s.inbox o }) (record s { peers = map (rows.given o came) s.peers })) ≡ prio_shape s
    by true = refl
    by false = ap (λ (ps : List PeerShape). with_windows s ps (length s.windows)) (each_same peer_shape (rows.given o came) (given_shape o came) s.peers)

pub admitted_shape : (s : PrioState) (o : Kept) (came : Option NodeId) → prio_shape (prio.admit_prio s o came) ≡ prio_shape s
admitted_shape s o came = spread_shape (prio.marked s o.body came) o came ∙ marked_shape s o.body came

pub expired_shape : (s : PrioState) (now : ℕ) → prio_shape (prio.expired s now) ≡ prio_shape s
expired_shape s now = ap (λ (ps : List PeerShape). with_windows s ps (length s.windows)) (each_same peer_shape (λ q. rows.expired q now) (λ q. refl) s.peers)

-- ---- reliable messages

abbrev pub with_rows : (r : RelState) (fs : List Flow) (ps : List RelPeerShape) → RelShape
with_rows r fs ps = record { me = r.me; nodes = r.nodes; bound = r.bound; flows = fs; peers = ps }

pub one_flow : (r : RelState) (flow : Flow) (f : FlowState → FlowState) → ((x : FlowState) → ends (f x) ≡ ends x)
    → rel_shape (rel.with_flow r flow (f (rel.flow_in r.flows flow))) ≡ rel_shape r
one_flow r flow f same = ap (λ (fs : List Flow). with_rows r fs (map rel_peer_shape r.peers)) (replace_first ends (is_flow flow) (no_flow flow) f same r.flows)

pub one_rel_peer : (r : RelState) (v : NodeId) (f : RelPeer → RelPeer) → ((p : RelPeer) → rel_peer_shape (f p) ≡ rel_peer_shape p)
    → rel_shape (rel.with_peer r v (f (rel.peer_in r.peers v))) ≡ rel_shape r
one_rel_peer r v f same = ap (λ (ps : List RelPeerShape). with_rows r (map ends r.flows) ps)
    (replace_first rel_peer_shape (rel.is_peer v) (rel.new_peer [] v) f same r.peers)

abbrev pub node_id : ℕ → NodeId
node_id n = record { 0 = n }

abbrev pub flow_with : NodeId → NodeId → Flow
flow_with s d = record { src = s; dst = d }

abbrev pub rel_peer_with : NodeId → List Flow → RelPeerShape
rel_peer_with v fs = record { peer = v; views = fs }

pub same_node : (u v : NodeId) → u.0 ≡ v.0 → u ≡ v
same_node u v e = ap node_id e

pub told_shape : (flow : Flow) (base have : ℕ) (p : RelPeer) → rel_peer_shape (rel.told p flow base have) ≡ rel_peer_shape p
told_shape flow base have p =
    ap (λ (fs : List Flow). rel_peer_with p.peer fs)
    (replace_keyed view_ends (rel.is_view flow) (record { src = flow.src; dst = flow.dst; base = base; have = have })
    (λ w is. ap₂ flow_with
    (same_node flow.src w.src (grind (arith, nat_tests, is))) (same_node flow.dst w.dst (grind (arith, nat_tests, is)))) p.views)

pub reported_shape : (r : RelState) (v : NodeId) (flow : Flow) (base have : ℕ) → rel_shape (rel.reported r v flow base have) ≡ rel_shape r
reported_shape r v flow base have = by (rel.flow_in r.flows flow).active
  where
    by : (t : Bool) → rel_shape (cond t (rel.with_peer r v (rel.told (rel.peer_in r.peers v) flow base have)) r) ≡ rel_shape r
    by true = one_rel_peer r v (λ p. rel.told p flow base have) (told_shape flow base have)
    by false = refl

pub acknowledged_shape : (r : RelState) (o : Kept) → rel_shape (rel.admit_ack r o) ≡ rel_shape r
acknowledged_shape r o = one_flow r (flow_said o.body) (λ f. acknowledged_by f o) (λ f. refl)

pub new_rel_shape : (r : RelState) (o : Kept) → rel_shape (rel.admit_rel r o) ≡ rel_shape r
new_rel_shape r o = one_flow r (flow_said o.body) (λ f. cond (rel.is_to r (flow_said o.body)) (received f (payload_of o.body)) (pushed f o))
    (λ f. by (rel.is_to r (flow_said o.body)) f)
  where
    by : (t : Bool) (f : FlowState) → ends (cond t (received f (payload_of o.body)) (pushed f o)) ≡ ends f
    by true f = refl
    by false f = refl

pub served_by : (r : RelState) (v : NodeId) (o : Option ℕ) → rel_shape (rel.served_at r v o) ≡ rel_shape r
served_by r v None = refl
served_by r v (Some place) = one_rel_peer r v (λ p. record p { last = Some place }) (λ p. refl)

pub settled_shape : (r : RelState) (o : Kept) (place : Option ℕ) → rel_shape (rel.settled_at r o place) ≡ rel_shape r
settled_shape r o None = refl
settled_shape r o (Some place) = one_flow r (flow_said o.body) (λ f. concluded f o) (λ f. refl)
