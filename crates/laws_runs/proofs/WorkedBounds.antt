-- The worked bounds: what they say in numbers, a state that has as much as may be, and states that have too much.
use Rattle.std.proofs.Common.{◌≡◌, ◌<◌, ◌≤◌, ℕ, zero, suc, Bool, true, List, [], ◌∷◌, length, map, Option, Some, refl, sym, ap, ◌∙◌, arith}
use Rattle.std.specs.Prelude.{◌&&◌, IfSome, get_or, nat_le}
use Rattle.std.specs.List.{All, list_all}
use Rattle.std.proofs.lemmas.Bool.{leb-true}
use Rattle.std.proofs.lemmas.List.{length-map}
use Rattle.std.proofs.lemmas.List.Elements.{All-cons, All-nil, All-weaker}
use Rattle.sp_frame.specs.Views.{as_list}
use Rattle.sp_rules.specs.Flow.{FlowState, ends, no_flow}
use Rattle.sp_rules.specs.Node.{NodeState}
use Rattle.sp_rules.specs.Parts.{flows_of, nodes_of}
use Rattle.sp_rules.specs.Prio.{no_peer}
use Rattle.sp_rules.specs.PrioPeer.{PrioPeer}
use Rattle.sp_rules.specs.Rel.{pairs_of}
use Rattle.sp_rules.specs.Weights.{held_in, row_for}
use Rattle.sp_rules.specs.declared.kflow.FlowKind.TheVariants.{Plain}
use Rattle.laws_node.specs.Story.{node}
use Rattle.sp_runs.specs.Bounds.{FlowIsBounded, PeerIsBounded}
use Rattle.laws_runs.specs.Story.{line}
use Rattle.laws_runs.proofs.EachKind.{of_both}
use Rattle.laws_runs.proofs.Lists.{both}
use Rattle.laws_runs.specs.WorkedBounds.{BoundsAreWorked, IsWithin, SaysBounds, SaysFlow, SaysPeer, at_boot, full, with_entries, with_messages}

says : (n : NodeState) → IsWithin n → SaysBounds n
says n h = record {
  flows = λ kind. sym (length-map (flows_of kind n.parts).flows ends) ∙ ap length (h.flows kind);
  each_flow = λ kind. All-weaker (FlowIsBounded 2) SaysFlow (λ f b. (b.list, b.inbox, b.acknowledgement)) (flows_of kind n.parts).flows (h.each_flow kind);
  inbox = h.inbox;
  peers = h.peers;
  each_peer = All-weaker (PeerIsBounded 4) SaysPeer (λ q b. (b.entries, b.flight)) n.parts.prio.peers h.each_peer;
  rows = h.rows;
}

-- what passes a test, all the way
all_pass : {X : Type 0} (test : X → Bool) (P : X → Type 0) → ((x : X) → test x ≡ true → P x) → (xs : List X) → list_all test xs ≡ true → All P xs
all_pass test P each [] pass = All-nil P
all_pass test P each (x ∷ xs) pass = let both_pass = both _ _ pass in All-cons P x xs (each x both_pass.0) (all_pass test P each xs both_pass.1)

flow_fits : FlowState → Bool
flow_fits f = nat_le (length f.at.list) 2 && (nat_le (length f.inbox) 2 && nat_le (length (as_list f.ack)) 1)

flow_is : (f : FlowState) → flow_fits f ≡ true → FlowIsBounded 2 f
unfolding flow_fits
flow_is f pass =
    let one = both _ _ pass in
    let two = both _ _ one.1 in
    record { list = leb-true _ _ one.0; inbox = leb-true _ _ two.0; acknowledgement = leb-true _ _ two.1 }

peer_fits : PrioPeer → Bool
peer_fits q = nat_le (length q.store.entries) 4 && nat_le (length q.flight) 4

peer_is : (q : PrioPeer) → peer_fits q ≡ true → PeerIsBounded 4 q
unfolding peer_fits
peer_is q pass = let one = both _ _ pass in record { entries = leb-true _ _ one.0; flight = leb-true _ _ one.1 }

update_is : (row : ℕ) → IfSome (held_in full.parts.weights.rows row) (λ o. row_for (line []).topology.edges o.body ≡ Some row)
update_is zero = refl
update_is (suc zero) = refl
update_is (suc (suc zero)) = tt
update_is (suc (suc (suc zero))) = tt
update_is (suc (suc (suc (suc row)))) = tt

as_much : IsWithin full
unfolding flow_fits peer_fits
as_much = record {
  flows = of_both (λ kind r. map ends r.flows ≡ pairs_of (nodes_of (line []).topology)) full.parts refl refl;
  each_flow = of_both (λ kind r. All (FlowIsBounded 2) r.flows) full.parts (all_pass flow_fits (FlowIsBounded 2) flow_is full.parts.rel.flows refl)
      (all_pass flow_fits (FlowIsBounded 2) flow_is full.parts.kflow.flows.flows refl);
  inbox = omega arith;
  peers = refl;
  each_peer = all_pass peer_fits (PeerIsBounded 4) peer_is full.parts.prio.peers refl;
  rows = refl;
  each_update = update_is;
}

-- the row of the flow from 1 to 3, and that of the first neighbour
flow_at : (n : NodeState) → IsWithin n → 1 < length n.parts.rel.flows
    → FlowIsBounded 2 (get_or n.parts.rel.flows 1 (no_flow (record { src = node 1; dst = node 3 })))
flow_at n h inside = h.each_flow Plain 1 (no_flow (record { src = node 1; dst = node 3 })) inside

peer_at : (n : NodeState) → IsWithin n → 0 < length n.parts.prio.peers → PeerIsBounded 4 (get_or n.parts.prio.peers 0 no_peer)
peer_at n h inside = h.each_peer 0 no_peer inside

one_apart : ◌≡◌ {A = Option ℕ} (Some 1) (Some 0) → ⊥
one_apart e = let same : ◌≡◌ {A = ℕ} 1 0 = cc in omega (arith, same)

pub bounds_are_worked : BoundsAreWorked
bounds_are_worked = record {
  says = says;
  as_much = as_much;
  three_messages = λ h. (let e : 3 ≤ 2 = (flow_at (with_messages 3 0 at_boot) h (omega arith)).list in omega (arith, e));
  three_payloads = λ h. (let e : 3 ≤ 2 = (flow_at (with_messages 0 3 at_boot) h (omega arith)).inbox in omega (arith, e));
  five_wait = λ h. (let e : 5 ≤ 4 = h.inbox in omega (arith, e));
  five_entries = λ h. (let e : 5 ≤ 4 = (peer_at (with_entries 5 0 at_boot) h (omega arith)).entries in omega (arith, e));
  five_in_flight = λ h. (let e : 5 ≤ 4 = (peer_at (with_entries 0 5 at_boot) h (omega arith)).flight in omega (arith, e));
  flows_twice = λ h. (let e = ap length (h.flows Plain) in omega (arith, e));
  one_neighbour = λ h. (let e = ap length h.peers in omega (arith, e));
  five_rows = λ h. omega (arith, h.rows);
  other_row = λ h. one_apart (h.each_update 0);
}
