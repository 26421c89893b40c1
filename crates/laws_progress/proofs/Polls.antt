-- Polls: how many, and which flow each serves.
use Rattle.std.proofs.Common.{◌≡◌, ℕ, ◌+◌, true, false, cond, List, [], ◌∷◌, ◌++◌, Option, Some, None, refl, sym, inl, inr, ap, ◌∙◌, arith, ◌≤◌, Bool, ◌&&◌}
use Rattle.std.proofs.Common.{◌||◌, ◌==◌}
use Rattle.std.specs.List.{position_or_len}
use Rattle.sp_topology.specs.Neighbours.{joins}
use Rattle.sp_topology.specs.declared.topology.Edge.{Edge}
use Rattle.sp_rules.specs.Topologies.{is_shut}
use Rattle.std.specs.List.{list_any}
use Rattle.std.proofs.lemmas.Bool.{cases_Bool, eqb-true, eq-eqb}
use Rattle.std.proofs.lemmas.List.Sums.{sum_by_push}
use Rattle.sp_base.specs.declared.id.NodeId.{NodeId}
use Rattle.sp_rules.specs.Arts.{Arts}
use Rattle.sp_rules.specs.Node.{NodeState, call_refusal, called, kept_or, link_in, with_link}
use Rattle.sp_rules.specs.Link.{advanced}
use Rattle.sp_rules.specs.Polls.{after_poll, polled, is_served, parts_after}
use Rattle.sp_rules.specs.Rel.{RelPeer, RelState, is_peer, new_peer, next_place, peer_in, served, served_at}
use Rattle.sp_rules.specs.Steps as steps
use Rattle.sp_rules.specs.Steps.{Output}
use Rattle.sp_rules.specs.declared.node.NodeRefused.{NodeRefused}
use Rattle.laws_runs.proofs.FlowFacts.{first_replaced}
use Rattle.laws_runs.proofs.Lists.{both}
use Rattle.laws_runs.proofs.Tables.{same_node}
use Rattle.sp_runs.specs.Journals.{reply_word}
use Rattle.sp_runs.specs.Runs.{is_poll, polls}
use Rattle.sp_runs.specs.Settings.{Setting}
use Rattle.sp_journal.specs.declared.entry.Reply.{Reply}
use Rattle.sp_schedule_events.specs.declared.event.Event.{Event}
use Rattle.sp_schedule_events.specs.declared.event.Event.TheVariants as events
use Rattle.laws_progress.proofs.States.{Era, Follow, Follows, IsBetween, IsHop, State}
use Rattle.laws_runs.proofs.Neighbours.{hop_back}
use Rattle.laws_progress.proofs.Keys.{peer_is}
use Rattle.sp_rules.specs.Parts.{flows_of}
use Rattle.sp_rules.specs.declared.kflow.FlowKind.{FlowKind}
use Rattle.laws_runs.proofs.KindFacts.{polled_flows}

-- ---- how many

pub poll_is : (u v : NodeId) (e : Event) → is_poll u v e ≡ true → e ≡ events.Poll u v
poll_is u v (events.Poll a b) is =
    let t = both _ _ is in
    ap (λ z. events.Poll z b) (same_node a u (eqb-true _ _ t.0)) ∙ ap (events.Poll u) (same_node b v (eqb-true _ _ t.1))
poll_is u v (events.Rel a b c) is = absurd (let e : false ≡ true = is in cc)
poll_is u v (events.Prio a b c f g h) is = absurd (let e : false ≡ true = is in cc)
poll_is u v (events.Take a b) is = absurd (let e : false ≡ true = is in cc)
poll_is u v (events.Krel a b c f) is = absurd (let e : false ≡ true = is in cc)
poll_is u v (events.KTake a b) is = absurd (let e : false ≡ true = is in cc)
poll_is u v (events.TakePrio a) is = absurd (let e : false ≡ true = is in cc)
poll_is u v (events.Tick a b) is = absurd (let e : false ≡ true = is in cc)
poll_is u v (events.Weight a b c) is = absurd (let e : false ≡ true = is in cc)
poll_is u v (events.Pass a b c) is = absurd (let e : false ≡ true = is in cc)
poll_is u v (events.Flip a b c f g) is = absurd (let e : false ≡ true = is in cc)
poll_is u v (events.Inject a b c) is = absurd (let e : false ≡ true = is in cc)
poll_is u v (events.Craft a b c f) is = absurd (let e : false ≡ true = is in cc)
poll_is u v (events.CraftStatus a b c f g h) is = absurd (let e : false ≡ true = is in cc)
poll_is u v (events.Start a) is = absurd (let e : false ≡ true = is in cc)
poll_is u v (events.Publish a b) is = absurd (let e : false ≡ true = is in cc)
poll_is u v (events.CraftDocument a b c f g) is = absurd (let e : false ≡ true = is in cc)
poll_is u v (events.Stop a) is = absurd (let e : false ≡ true = is in cc)

pub counted : (u v : NodeId) (es : List Event) (e : Event) → polls (es ++ e ∷ []) u v ≡ polls es u v + cond (is_poll u v e) 1 0
counted u v es e = sum_by_push (λ y. cond (is_poll u v y) 1 0) es e

pub polls_rise : (es : List Event) (e : Event) (u v : NodeId) → polls es u v ≤ polls (es ++ e ∷ []) u v
polls_rise es e u v = let more = counted u v es e in omega (arith, more)

pub events_are : (arts : Arts) (x : Setting) (all : List Event) (w y : State arts x all) (e : Event) → Follows arts x all w e y → y.events ≡ w.events ++ e ∷ []
events_are arts x all w y e (Follow j events journal range turn unforged) = events

pub one_polled : (arts : Arts) (x : Setting) (all : List Event) (w y : State arts x all) (e : Event) (u v : NodeId) → Follows arts x all w e y
    → is_poll u v e ≡ true
    → polls y.events u v ≡ polls w.events u v + 1
one_polled arts x all w y e u v follows is =
    ap (λ es. polls es u v) (events_are arts x all w y e follows) ∙ counted u v w.events e ∙ ap (λ t. polls w.events u v + cond t 1 0) is

pub none_polled : (arts : Arts) (x : Setting) (all : List Event) (w y : State arts x all) (e : Event) (u v : NodeId) → Follows arts x all w e y
    → is_poll u v e ≡ false
    → polls y.events u v ≡ polls w.events u v
none_polled arts x all w y e u v follows is =
    let more = ap (λ es. polls es u v) (events_are arts x all w y e follows) ∙ counted u v w.events e ∙ ap (λ t. polls w.events u v + cond t 1 0) is in
    omega (arith, more)

-- ---- an edge joins both ways

joins_back : (u v : ℕ) (e : Edge) → joins u v e ≡ joins v u e
joins_back u v e = swap ((e.low.0 == u) && (e.high.0 == v)) ((e.low.0 == v) && (e.high.0 == u))
  where
    swap : (a b : Bool) → (a || b) ≡ (b || a)
    swap true true = refl
    swap true false = refl
    swap false true = refl
    swap false false = refl

pub same_place : (u v : ℕ) (edges : List Edge) → position_or_len (joins u v) edges ≡ position_or_len (joins v u) edges
same_place u v [] = refl
same_place u v (e ∷ edges) = elim (cases_Bool (joins u v e)) [
  | inl t ↦ let z : joins v u e ≡ true = sym (joins_back u v e) ∙ t in rw (t, z) refl
  | inr t ↦ let z : joins v u e ≡ false = sym (joins_back u v e) ∙ t in rw (t, z) (ap (λ k. 1 + k) (same_place u v edges))
]

pub both_ways : (x : Setting) (u v : NodeId) → IsHop x u v → IsHop x v u
both_ways x u v h = record { first = h.second; second = h.first; joined = hop_back x v u ∙ h.joined }

pub between_back : (x : Setting) (era : Era) (u v : NodeId) → IsBetween x era u v → IsBetween x era v u
between_back x era u v h =
    record {
      hop = both_ways x u v h.hop;
      first = h.second;
      second = h.first;
      open_edge = ap (is_shut era.weights) (same_place v.0 u.0 x.topology.edges) ∙ h.open_edge;
      may = ap era.over (same_place v.0 u.0 x.topology.edges) ∙ h.may;
    }

-- ---- which flow

-- a poll of a neighbour was answered
pub answered : (x : Setting) (number : ℕ) (r : Option NodeRefused) (o : Output) (reply : Reply)
    → reply_word x number (steps.refused_call r o).reply ≡ Some reply → r ≡ None
answered x number None o reply e = refl
answered x number (Some refused) o reply e = absurd cc

pub served_last : (r : RelState) (v : NodeId) (place : ℕ) → list_any (is_peer v) r.peers ≡ true → next_place r v ≡ Some place
    → (peer_in (served r v).peers v).last ≡ Some place
served_last r v place there next =
    ap (λ o. (peer_in (served_at r v o).peers v).last) next
    ∙ ap (λ (p : RelPeer). p.last)
    (first_replaced (is_peer v) (new_peer [] v) (record (peer_in r.peers v) { last = Some place }) r.peers
    (eq-eqb _ _ (ap (λ (n : NodeId). n.0) (peer_is r v))) there)

pub polled_rel : (kind : FlowKind) (n : NodeState) (v : NodeId) → call_refusal n v ≡ None → is_served n v ≡ true
    → flows_of kind (after_poll n v).parts ≡ served (flows_of kind n.parts) v
polled_rel kind n v e on =
    ap (λ (r : Option NodeRefused). flows_of kind (kept_or r n (called n (with_link n v (advanced (link_in n v))) (parts_after n v))).parts) e
    ∙ ap (λ (t : Bool). flows_of kind (cond t (polled n.fixed n.parts v) n.parts)) on ∙ polled_flows kind n.fixed n.parts v
