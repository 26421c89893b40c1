-- Bounds over a whole run: they are what each node keeps, with the rows of its start.
use Rattle.std.proofs.Common.{◌≡◌, ◌≤◌, ℕ, ◌==◌, List, [], ◌∷◌, length, map, Option, Some, None, refl, sym, ap, ap₂, ◌∙◌, inl, inr, arith}
use Rattle.std.specs.Prelude.{IfSome}
use Rattle.std.proofs.lemmas.Bool.{cases_Bool}
use Rattle.sp_base.specs.declared.id.NodeId.{NodeId}
use Rattle.sp_frame.specs.Views.{as_list}
use Rattle.sp_msg.specs.declared.kept.Kept.{Kept}
use Rattle.sp_rules.specs.Flow.{FlowState, IsStanding, ends}
use Rattle.sp_rules.specs.Node.{NodeState}
use Rattle.sp_rules.specs.Parts.{flows_of, neighbours_of, nodes_of}
use Rattle.sp_rules.specs.Rel.{pairs_of}
use Rattle.sp_rules.specs.declared.kflow.FlowKind.{FlowKind}
use Rattle.laws_node.proofs.FlowKinds.{flows_hold}
use Rattle.laws_runs.proofs.EachKind.{of_both}
use Rattle.sp_rules.specs.PrioPeer.{PrioPeer}
use Rattle.sp_rules.specs.Weights.{held_in, row_for}
use Rattle.laws_node.specs.Flows.{FlowHolds}
use Rattle.laws_node.specs.Shapes.{PeerShape, Shape, peer_shape}
use Rattle.laws_node.specs.Sizes.{numbers_after}
use Rattle.laws_node.specs.Stores.{PrioPeerHolds}
use Rattle.laws_node.specs.Updates.{UpdateHolds}
use Rattle.laws_node.proofs.Tables.{all_weaker}
use Rattle.sp_runs.specs.Bounds.{FlowIsBounded, IsBounded, PeerIsBounded, neighbour_ids}
use Rattle.sp_runs.specs.Settings.{Setting, fixed_at}
use Rattle.laws_runs.specs.Laws.{BoundsFollow, BuffersStayBounded}
use Rattle.laws_runs.specs.Signs.{Good, NodeIs, sizes_at}
use Rattle.laws_runs.proofs.Signed.{signs}

at_most_one : {X : Type 0} (o : Option X) → length (as_list o) ≤ 1
at_most_one None = omega arith
at_most_one (Some x) = omega arith

within : (me : NodeId) (bound : ℕ) (f : FlowState) → IsStanding me bound f → length f.at.list ≤ bound
within me bound f h = elim (cases_Bool (f.dst.0 == me.0)) [
  | inl t ↦ let none = ap (λ (os : List Kept). length os) (h.no_list t) in omega (arith, none)
  | inr t ↦ let whole = h.position t in omega (arith, whole, h.bounded)
]

flow_bounded : (kind : FlowKind) (x : Setting) (P : Kept → Type 0) (u : NodeId) (index : ℕ) (f : FlowState) → FlowHolds kind (sizes_at x P u) index f
    → FlowIsBounded x.buffer f
flow_bounded kind x P u index f h = record {
  list = within u x.buffer f h.standing;
  inbox = h.standing.inbox;
  acknowledgement = at_most_one f.ack;
}

peer_bounded : (x : Setting) (P : Kept → Type 0) (u : NodeId) (numbers ids : ℕ) (q : PrioPeer) → PrioPeerHolds (sizes_at x P u) numbers ids q
    → PeerIsBounded x.store q
peer_bounded x P u numbers ids q h = record {
  entries = let entries = h.store.bounded in let capacity = h.store.capacity in omega (arith, entries, capacity);
  flight = h.few;
}

fused : {X Y Z : Type 0} (f : Y → Z) (g : X → Y) (h : X → Z) → ((x : X) → f (g x) ≡ h x) → (xs : List X) → map f (map g xs) ≡ map h xs
fused f g h same [] = refl
fused {X} {Y} {Z} f g h same (x ∷ xs) = ap₂ (λ (z : Z) (zs : List Z). z ∷ zs) (same x) (fused f g h same xs)

places : (x : Setting) (P : Kept → Type 0) (u : NodeId) (n : NodeState) → NodeIs x P u n → map (λ (q : PrioPeer). q.peer) n.parts.prio.peers ≡ neighbour_ids x u
places x P u n is =
    sym (fused (λ (s : PeerShape). s.peer) peer_shape (λ (q : PrioPeer). q.peer) (λ q. refl) n.parts.prio.peers)
    ∙ ap (λ (s : Shape). map (λ (p : PeerShape). p.peer) s.prio.peers) is.shape
    ∙ fused (λ (s : PeerShape). s.peer) (λ n. record { peer = n.0.0; edge = n.1.0; capacity = x.store }) (λ n. n.0.0) (λ n. refl)
    (neighbours_of (fixed_at x u n.fixed.boot))

update_placed : (x : Setting) (P : Kept → Type 0) (u : NodeId) (index row : ℕ) (o : Option Kept) → IfSome o (UpdateHolds (sizes_at x P u) index row)
    → IfSome o (λ (y : Kept). row_for x.topology.edges y.body ≡ Some row)
update_placed x P u index row None h = tt
update_placed x P u index row (Some o) h = h.place

is_bounded : (x : Setting) (P : Kept → Type 0) (u : NodeId) (n : NodeState) → NodeIs x P u n → IsBounded x u n
is_bounded x P u n is =
    let k = sizes_at x P u in
    let prio = is.holds.parts.prio in
    let numbers = numbers_after n.calls in
    record {
      flows = of_both (λ kind r. map ends r.flows ≡ pairs_of (nodes_of x.topology)) n.parts is.holds.parts.rel.keys is.holds.parts.kflow.keys;
      each_flow = λ kind.
          all_weaker (FlowHolds kind k n.signer.index) (FlowIsBounded x.buffer) (flows_of kind n.parts).flows (flow_bounded kind x P u n.signer.index)
          (flows_hold kind k n.parts is.holds.parts).flows;
      inbox = let entries = prio.inbox.bounded in let capacity = prio.inbox.capacity in omega (arith, entries, capacity);
      peers = places x P u n is;
      each_peer = all_weaker (PrioPeerHolds k numbers _) (PeerIsBounded x.store) n.parts.prio.peers (peer_bounded x P u numbers _) prio.peers;
      rows = ap (λ (s : Shape). s.weights.rows) is.shape;
      each_update = λ row. update_placed x P u n.signer.index row (held_in n.parts.weights.rows row) (is.holds.parts.weights.rows row);
    }

pub buffers_stay_bounded : BuffersStayBounded
buffers_stay_bounded arts x es js w fits reads run u n at = is_bounded x (Good arts x es js) u n ((signs arts x es js w fits reads run).nodes u n at)

pub bounds_follow : BoundsFollow
bounds_follow arts x es js w signs u n at = is_bounded x (Good arts x es js) u n (signs.nodes u n at)
