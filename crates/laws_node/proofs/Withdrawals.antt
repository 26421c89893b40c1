-- What a version of the topology leaves of a node's parts: all within the same bounds, in the same rows.
use Rattle.std.proofs.lemmas.List.Elements.{All-nil}
use Rattle.std.proofs.Common.{arith, ◌&&◌, ◌≡◌, ◌∙◌, ℕ, not, List, length, map, refl, subst, sym, AllPairs}
use Rattle.sp_base.specs.declared.id.NodeId.{NodeId}
use Rattle.sp_rules.specs.Flow.{FlowState, ended, ends}
use Rattle.sp_rules.specs.Parts.{Parts}
use Rattle.sp_rules.specs.Parts as parts
use Rattle.sp_rules.specs.Prio.{PrioState}
use Rattle.sp_rules.specs.Prio as prio
use Rattle.sp_rules.specs.PrioPeer.{PrioPeer, leaves}
use Rattle.sp_rules.specs.PrioPeer as rows
use Rattle.sp_rules.specs.Rel.{RelState, ended_where, is_over}
use Rattle.sp_rules.specs.Rel as rel
use Rattle.sp_rules.specs.Topologies.{is_shut}
use Rattle.sp_rules.specs.Weights.{WeightState, replaced}
use Rattle.sp_rules.proofs.Standing.{standing_ended}
use Rattle.sp_rules.specs.declared.kflow.FlowKind.{FlowKind}
use Rattle.sp_rules.specs.declared.kflow.FlowKind.TheVariants.{Plain, Paths}
use Rattle.laws_node.specs.Flows.{Differ, FlowHolds, RelHolds}
use Rattle.laws_node.specs.Nodes.{PartsHold}
use Rattle.laws_node.specs.Sizes.{Fits, Sizes}
use Rattle.laws_node.specs.Stores.{EntryHolds, PrioHolds, PrioPeerHolds}
use Rattle.laws_node.specs.Updates.{WeightsHold}
use Rattle.laws_node.proofs.Lost.{all_filter, filter_shorter}
use Rattle.laws_node.proofs.Priority.{all_map}
use Rattle.laws_node.proofs.RowShapes.{each_same}
use Rattle.laws_node.proofs.Tables.{cond_either}

-- ---- weights

replaced_holds : (k : Sizes) (index : ℕ) (w : WeightState) (least : List ℕ) → length least ≡ length k.edges → WeightsHold k index w
    → WeightsHold k index (replaced w least)
replaced_holds k index w least count h = record { edges = h.edges; least = count; rows = h.rows }

-- ---- priority messages

row_closed_holds : (k : Sizes) (numbers ids : ℕ) (least : List ℕ) (removed : List NodeId) (q : PrioPeer) → PrioPeerHolds k numbers ids q
    → PrioPeerHolds k numbers ids (rows.closed least removed q)
row_closed_holds k numbers ids least removed q h = record {
  store = record {
    last = h.store.last;
    bounded = let less = filter_shorter (λ e. not (leaves (is_shut least q.edge) removed e)) q.store.entries in omega (arith, less, h.store.bounded);
    capacity = h.store.capacity;
    entries = all_filter (EntryHolds k q.store.last) (λ e. not (leaves (is_shut least q.edge) removed e)) q.store.entries h.store.entries;
  };
  number = h.number;
  few = h.few;
  given = h.given;
  heard = h.heard;
}

prio_closed_holds : (k : Sizes) (numbers ids index : ℕ) (p : PrioState) (least : List ℕ) (removed : List NodeId) → PrioHolds k numbers ids index p
    → PrioHolds k numbers ids index (prio.closed p least removed)
prio_closed_holds k numbers ids index p least removed h = record {
  me = h.me;
  known = h.known;
  nodes = h.nodes;
  capacity = h.capacity;
  inbox = h.inbox;
  peers = all_map (PrioPeerHolds k numbers ids) (PrioPeerHolds k numbers ids) (rows.closed least removed) (row_closed_holds k numbers ids least removed)
      p.peers h.peers;
  least = h.least;
  next = h.next;
}

-- ---- flows

ended_holds : (kind : FlowKind) (k : Sizes) (index : ℕ) (f : FlowState) → FlowHolds kind k index f → FlowHolds kind k index (ended f)
ended_holds kind k index f h = record {
  src = h.src;
  dst = h.dst;
  standing = standing_ended k.me k.buffer f h.standing;
  later = λ on. absurd (cc);
  busy = λ on. absurd (cc);
  own = λ mine. omega arith;
  messages = All-nil (Fits k);
  reliable = λ i d within. absurd (omega (arith, within));
  within = λ mine i d below. absurd (omega (arith, below));
  ack = tt;
  inbox = h.inbox;
}

flow_closed_holds : (kind : FlowKind) (k : Sizes) (index : ℕ) (removed : List NodeId) (f : FlowState) → FlowHolds kind k index f
    → FlowHolds kind k index (ended_where removed f)
flow_closed_holds kind k index removed f h =
    cond_either (FlowHolds kind k index) (f.active && is_over removed (ends f)) (ended f) f (ended_holds kind k index f h) h

-- it is the same flow
pub same_ends_closed : (removed : List NodeId) (f : FlowState) → ends (ended_where removed f) ≡ ends f
same_ends_closed removed f = cond_either (λ g. ends g ≡ ends f) (f.active && is_over removed (ends f)) (ended f) f refl refl

pub ends_closed : (removed : List NodeId) (flows : List FlowState) → map ends (map (ended_where removed) flows) ≡ map ends flows
ends_closed removed flows = each_same ends (ended_where removed) (same_ends_closed removed) flows

rel_closed_holds : (kind : FlowKind) (k : Sizes) (index : ℕ) (r : RelState) (removed : List NodeId) → RelHolds kind k index r
    → RelHolds kind k index (rel.closed r removed)
rel_closed_holds kind k index r removed h = record {
  me = h.me;
  bound = h.bound;
  nodes = h.nodes;
  known = h.known;
  flows = all_map (FlowHolds kind k index) (FlowHolds kind k index) (ended_where removed) (flow_closed_holds kind k index removed) r.flows h.flows;
  keys = ends_closed removed r.flows ∙ h.keys;
  once = subst (AllPairs Differ) (sym (ends_closed removed r.flows)) h.once;
}

-- ---- all parts

pub closed_holds : (k : Sizes) (numbers ids index : ℕ) (p : Parts) (least : List ℕ) (removed : List NodeId) → length least ≡ length k.edges
    → PartsHold k numbers ids index p → PartsHold k numbers ids index (parts.closed p least removed)
closed_holds k numbers ids index p least removed count h = record {
  weights = replaced_holds k index p.weights least count h.weights;
  prio = prio_closed_holds k numbers ids index p.prio least removed h.prio;
  rel = rel_closed_holds Plain k index p.rel removed h.rel;
  kflow = rel_closed_holds Paths k index p.kflow.flows removed h.kflow;
  lives = h.lives;
  origins = h.origins;
}
