-- What another life of a node leaves: a node that heard of it holds all that it keeps, and keeps its rows.
use Rattle.std.proofs.Common.{◌≡◌, ◌≤◌, ℕ, Bool, true, false, cond, List, [], ◌∷◌, map, refl, sym, ap, ap₂, subst, ◌∙◌, arith}
use Rattle.std.specs.List.{All, AllPairs}
use Rattle.std.proofs.lemmas.List.Elements.{All-cons, All-head, All-nil, All-tail}
use Rattle.sp_base.specs.declared.id.Flow.{Flow}
use Rattle.sp_base.specs.declared.id.NodeId.{NodeId}
use Rattle.sp_rules.specs.Arrivals.{greeted}
use Rattle.sp_rules.specs.Flow.{FlowState, ends, no_flow}
use Rattle.sp_rules.specs.Parts.{Parts}
use Rattle.sp_rules.specs.Prio as prio
use Rattle.sp_rules.specs.Prio.{PrioState, no_peer, peer_in, renewed}
use Rattle.sp_rules.specs.PrioPeer as rows
use Rattle.sp_rules.specs.Rel as rel
use Rattle.sp_rules.specs.Rel.{RelPeer, RelState, View, flow_less, is_end, no_view, restarted, view_less, viewed, views_less}
use Rattle.sp_rules.specs.declared.kflow.FlowKind.{FlowKind}
use Rattle.sp_rules.specs.declared.kflow.FlowKind.TheVariants.{Plain, Paths}
use Rattle.laws_node.specs.Flows.{Differ, FlowHolds, RelHolds}
use Rattle.laws_node.specs.Nodes.{PartsHold}
use Rattle.laws_node.specs.Shapes.{RelPeerShape, rel_peer_shape, rel_shape, view_ends}
use Rattle.laws_node.specs.Sizes.{Sizes}
use Rattle.laws_node.specs.Stores.{PrioHolds, PrioPeerHolds}
use Rattle.laws_node.proofs.Flows.{no_flow_holds}
use Rattle.laws_node.proofs.Priority.{no_peer_holds}
use Rattle.laws_node.proofs.Tables.{all_first, all_replace}

-- ---- flows

less_ends : (v : NodeId) (f : FlowState) → ends (flow_less v f) ≡ ends f
less_ends v f = go (is_end v (ends f))
  where
    go : (t : Bool) → ends (cond t (no_flow (ends f)) f) ≡ ends f
    go true = refl
    go false = refl

pub less_all_ends : (v : NodeId) (fs : List FlowState) → map ends (map (flow_less v) fs) ≡ map ends fs
less_all_ends v [] = refl
less_all_ends v (f ∷ fs) = ap₂ (λ (x : Flow) (xs : List Flow). x ∷ xs) (less_ends v f) (less_all_ends v fs)

less_holds : (kind : FlowKind) (k : Sizes) (index : ℕ) (v : NodeId) (f : FlowState) → FlowHolds kind k index f → FlowHolds kind k index (flow_less v f)
less_holds kind k index v f h = go (is_end v (ends f))
  where
    go : (t : Bool) → FlowHolds kind k index (cond t (no_flow (ends f)) f)
    go false = h
    go true = no_flow_holds kind k index (ends f) h.src h.dst

less_all : (kind : FlowKind) (k : Sizes) (index : ℕ) (v : NodeId) (fs : List FlowState) → All (FlowHolds kind k index) fs
    → All (FlowHolds kind k index) (map (flow_less v) fs)
less_all kind k index v [] h = h
less_all kind k index v (f ∷ fs) h =
    All-cons (FlowHolds kind k index) (flow_less v f) (map (flow_less v) fs) (less_holds kind k index v f (All-head (FlowHolds kind k index) f fs h))
    (less_all kind k index v fs (All-tail (FlowHolds kind k index) f fs h))

-- flows with a node that lives anew
pub restarted_holds : (kind : FlowKind) (k : Sizes) (index : ℕ) (r : RelState) (v : NodeId) → RelHolds kind k index r → RelHolds kind k index (restarted r v)
restarted_holds kind k index r v h = record {
  me = h.me;
  bound = h.bound;
  nodes = h.nodes;
  known = h.known;
  flows = less_all kind k index v r.flows h.flows;
  keys = less_all_ends v r.flows ∙ h.keys;
  once = subst (AllPairs Differ) (sym (less_all_ends v r.flows)) h.once;
}

-- a neighbour that lives anew
pub unheard_rel_holds : (kind : FlowKind) (k : Sizes) (index : ℕ) (r : RelState) (v : NodeId) → RelHolds kind k index r
    → RelHolds kind k index (rel.unheard r v)
unheard_rel_holds kind k index r v h = record { me = h.me; bound = h.bound; nodes = h.nodes; known = h.known; flows = h.flows; keys = h.keys; once = h.once }

-- ---- priority messages

-- of a node that lives anew
pub renewed_holds : (k : Sizes) (numbers ids index : ℕ) (p : PrioState) (v : ℕ) → PrioHolds k numbers ids index p
    → PrioHolds k numbers ids index (renewed p v)
renewed_holds k numbers ids index p v h =
    record { me = h.me; nodes = h.nodes; known = h.known; capacity = h.capacity; inbox = h.inbox; peers = h.peers; least = h.least; next = h.next }

-- of a neighbour that lives anew
pub unheard_prio_holds : (k : Sizes) (numbers ids index : ℕ) (p : PrioState) (v : ℕ) → PrioHolds k numbers ids index p
    → PrioHolds k numbers ids index (prio.unheard p v)
unheard_prio_holds k numbers ids index p v h =
    let q = peer_in p v in
    let was : PrioPeerHolds k numbers ids q = all_first (PrioPeerHolds k numbers ids) (prio.is_peer v) no_peer p.peers h.peers (no_peer_holds k numbers ids) in
    let now : PrioPeerHolds k numbers ids (rows.unheard q) =
    record { store = was.store; number = was.number; few = omega arith; given = All-nil (λ (pair : ℕ × ℕ). pair.0 ≤ q.number); heard = omega arith } in
    record {
      me = h.me;
      nodes = h.nodes;
      known = h.known;
      capacity = h.capacity;
      inbox = h.inbox;
      peers = all_replace (PrioPeerHolds k numbers ids) (prio.is_peer v) (rows.unheard q) p.peers h.peers now;
      least = h.least;
      next = h.next;
    }

-- ---- before the pieces of a frame

pub greeted_holds : (k : Sizes) (numbers ids index : ℕ) (epochs risen : Bool) (v : NodeId) (p : Parts) → PartsHold k numbers ids index p
    → PartsHold k numbers ids index (greeted epochs risen v p)
greeted_holds k numbers ids index true true v p h = record {
  weights = h.weights;
  prio = unheard_prio_holds k numbers ids index p.prio v.0 h.prio;
  rel = unheard_rel_holds Plain k index p.rel v h.rel;
  kflow = unheard_rel_holds Paths k index p.kflow.flows v h.kflow;
  lives = h.lives;
  origins = h.origins;
}
greeted_holds k numbers ids index true false v p h = h
greeted_holds k numbers ids index false risen v p h = h

-- ---- the rows stay

view_shape : (v : NodeId) (w : View) → view_ends (view_less v w) ≡ view_ends w
view_shape v w = go (is_end v (viewed w))
  where
    go : (t : Bool) → view_ends (cond t (no_view (viewed w)) w) ≡ view_ends w
    go true = refl
    go false = refl

views_shape : (v : NodeId) (ws : List View) → map view_ends (map (view_less v) ws) ≡ map view_ends ws
views_shape v [] = refl
views_shape v (w ∷ ws) = ap₂ (λ (x : Flow) (xs : List Flow). x ∷ xs) (view_shape v w) (views_shape v ws)

peers_shape : (v : NodeId) (ps : List RelPeer) → map rel_peer_shape (map (views_less v) ps) ≡ map rel_peer_shape ps
peers_shape v [] = refl
peers_shape v (p ∷ ps) =
    ap₂ (λ (fs : List Flow) (xs : List RelPeerShape). (record { peer = p.peer; views = fs }) ∷ xs) (views_shape v p.views) (peers_shape v ps)

pub restarted_shape : (r : RelState) (v : NodeId) → rel_shape (restarted r v) ≡ rel_shape r
restarted_shape r v =
    ap₂ (λ (fs : List Flow) (ps : List RelPeerShape). record { me = r.me; nodes = r.nodes; bound = r.bound; flows = fs; peers = ps })
    (less_all_ends v r.flows) (peers_shape v r.peers)

blank_views : (ws : List View) → map view_ends (map (λ w. no_view (viewed w)) ws) ≡ map view_ends ws
blank_views [] = refl
blank_views (w ∷ ws) = ap (λ (xs : List Flow). view_ends w ∷ xs) (blank_views ws)

pub blank_shape : (p : RelPeer) → rel_peer_shape (rel.no_views p) ≡ rel_peer_shape p
blank_shape p = ap (λ (fs : List Flow). record { peer = p.peer; views = fs }) (blank_views p.views)
