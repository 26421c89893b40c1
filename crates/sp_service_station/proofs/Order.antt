-- A station signs with one index after another, each below its bound.
use Rattle.std.proofs.Common.{◌≡◌, ℕ, ◌+◌, ◌≤◌, Bool, true, false, List, [], Option, None, Some, refl, sym, ap, subst, ◌∙◌, inl, inr, arith}
use Rattle.std.specs.Prelude.{◌==◌, ◌≢◌, ◌||◌, if◌then◌else◌, nat_lt, not}
use Rattle.std.proofs.lemmas.Bool.{eqb-false}
use Rattle.std.proofs.lemmas.Option.{none-some}
use Rattle.laws_keystate.specs.Runs.{SignsInOrder, TakesNext, TakesTwo}
use Rattle.sp_base.specs.Cursor.{or_else}
use Rattle.sp_base.specs.declared.id.NodeId.{NodeId}
use Rattle.sp_client.specs.Tables as tables
use Rattle.sp_client_node.specs.Steps.{AnswersBy}
use Rattle.sp_client_node.specs.declared.local.LocalNode.{LocalNode}
use Rattle.sp_msg.specs.declared.body.Ack.{Ack}
use Rattle.sp_msg.specs.declared.refused.SendRefused.{SendRefused}
use Rattle.sp_msg.specs.declared.refused.SendRefused.TheVariants as refusals
use Rattle.sp_node_format.specs.Format.{format_of}
use Rattle.laws_node.proofs.Adopting.{publishing, reading}
use Rattle.sp_rules.specs.Arrivals.{after_datagram, before_document, document_at, read_by}
use Rattle.sp_rules.specs.Documents.{after_publish}
use Rattle.sp_rules.specs.Arts.{Arts}
use Rattle.sp_rules.specs.Kflow as kflow
use Rattle.sp_rules.specs.Kflow.{waiting_mask}
use Rattle.sp_rules.specs.KflowSends.{KSend, after_send_krel, after_take_krel, krel_refusal, no_mask, no_place, send_krel_refusal}
use Rattle.sp_rules.specs.Link.{Link}
use Rattle.sp_rules.specs.Masks.{Choice}
use Rattle.sp_rules.specs.Node.{NodeState, Signer, call_refusal, called, kept_or, signed_once}
use Rattle.sp_rules.specs.Parts.{Parts, edge_to, is_first}
use Rattle.sp_rules.specs.Polls.{after_poll}
use Rattle.sp_rules.specs.Prio.{is_there}
use Rattle.sp_rules.specs.Rel.{room}
use Rattle.sp_rules.specs.Sends.{PrioSend, after_send_prio, after_send_rel, after_set_weight, after_take_prio, after_take_rel, is_unmet, no_life, no_paths}
use Rattle.sp_rules.specs.Sends.{no_room, prio_refusal, rel_refusal, send_prio_refusal, signer_refusal, weight_refusal, weight_refusal_at}
use Rattle.sp_rules.specs.Steps.{Datagram, Input, NodeStep, Output, Poll, Publish, SendKrel, SendPrio, SendRel, SetWeight, TakeKrel, TakePrio, TakeRel, Tick}
use Rattle.sp_rules.specs.Ticks.{after_plain, after_tick, at_time, due_now, second_refusal, settled_by}
use Rattle.sp_rules.specs.Weights.{is_withdrawn, minimum}
use Rattle.sp_rules.specs.declared.kflow.FlowKind.{FlowKind}
use Rattle.sp_rules.specs.declared.kflow.FlowKind.TheVariants as kinds
use Rattle.sp_rules.specs.declared.node.NodeRefused.{NodeRefused}
use Rattle.sp_service_turns.specs.Inputs as inputs
use Rattle.sp_service_turns.specs.declared.indexes.Indexes.{Indexes}
use Rattle.sp_service_station.specs.Stations.{StationStep, indexes_in, indexes_of, node_of}
use Rattle.sp_service_station.proofs.Stays.{by_handled}
use Rattle.sp_service_station.proofs.Uses.{are_reserved, used_by}

-- ---- what isn't refused has an index

-- a signer that refuses nothing hasn't come to its bound
free_signer : (s : Signer) → signer_refusal s ≡ None → s.index ≢ s.bound
free_signer s free same = go (s.index == s.total) (s.index == s.bound) refl free
  where
    go : (x y : Bool) → (s.index == s.bound) ≡ y → (if x then Some (refusals.Spent s.index) else if y then Some (refusals.NotReserved s.bound) else None) ≡ None
        → ⊥
    go true y p e = none-some (refusals.Spent s.index) (sym e)
    go false true p e = none-some (refusals.NotReserved s.bound) (sym e)
    go false false p e = eqb-false s.index s.bound p same

second_free : (first second : Option SendRefused) → or_else first second ≡ None → second ≡ None
second_free None second free = free
second_free (Some refused) second free = absurd (none-some refused (sym free))

first_free : (first second : Option SendRefused) → or_else first second ≡ None → first ≡ None
first_free None second free = refl
first_free (Some refused) second free = free

test_free : (t : Bool) (refused : SendRefused) (refusal : Option SendRefused) → (if t then Some refused else refusal) ≡ None → refusal ≡ None
test_free true refused refusal free = absurd (none-some refused (sym free))
test_free false refused refusal free = free

prio_free : (n : NodeState) (m : PrioSend) (choice : Choice) → send_prio_refusal n m choice ≡ None → signer_refusal n.signer ≡ None
prio_free n m choice free =
    let own = first_free (prio_refusal n m) (no_paths choice) free in
    test_free (nat_lt m.expiry n.now) (refusals.Expired n.now) (signer_refusal n.signer)
    (test_free ((m.dst.0 == n.fixed.me.0) || not (is_there n.parts.prio m.dst.0) || not (is_there n.parts.prio n.fixed.me.0) || is_unmet n m.dst)
    refusals.BadEnd
    (if nat_lt m.expiry n.now then Some (refusals.Expired n.now) else signer_refusal n.signer) own)

rel_free : (n : NodeState) (dst : NodeId) → rel_refusal n dst ≡ None → signer_refusal n.signer ≡ None
rel_free n dst free =
    second_free (no_room (room n.parts.rel dst)) (signer_refusal n.signer)
    (second_free (no_life (is_unmet n dst)) (or_else (no_room (room n.parts.rel dst)) (signer_refusal n.signer)) free)

krel_free : (n : NodeState) (m : KSend) (choice : Choice) → send_krel_refusal n m choice ≡ None → signer_refusal n.signer ≡ None
krel_free n m choice free =
    second_free (no_place (kflow.room n.parts.kflow m.dst m.paths)) (signer_refusal n.signer)
    (second_free (no_life (is_first n.fixed || is_unmet n m.dst)) _
    (first_free (krel_refusal n m) (no_mask (waiting_mask n.parts.kflow m.dst) choice) free))

weight_free : (n : NodeState) (edge : Option ℕ) (weight : ℕ) → weight_refusal_at n edge weight ≡ None → signer_refusal n.signer ≡ None
weight_free n None weight free = absurd (none-some refusals.BadEnd (sym free))
weight_free n (Some edge) weight free =
    let least = minimum n.parts.weights edge in
    test_free (nat_lt weight least) (refusals.Low least) (signer_refusal n.signer)
    (test_free (is_withdrawn n.parts.weights edge) refusals.BadEnd (if nat_lt weight least then Some (refusals.Low least) else signer_refusal n.signer) free)

-- ---- the steps of a node

abbrev Goes : NodeState → NodeState → Type 0
Goes old new = TakesNext (indexes_of old) (indexes_of new)

goes_called : {X : Type 0} (refusal : Option X) (n : NodeState) (links : List Link) (parts : Parts) → Goes n (kept_or refusal n (called n links parts))
goes_called None n links parts = inl refl
goes_called (Some refused) n links parts = inl refl

-- a document leaves the signer
goes_taken : (refusal : Option NodeRefused) (n left : NodeState) (document : Option (List ℕ)) → Goes n left
    → Goes n (kept_or refusal n (read_by (format_of n.fixed) left document))
goes_taken None n left document goes = reading (format_of n.fixed) left document (λ m told. Goes n m) goes (λ bytes d is reads by. goes)
goes_taken (Some refused) n left document goes = inl refl

goes_signed : (refusal : Option SendRefused) (n : NodeState) (parts : Parts) → (refusal ≡ None → signer_refusal n.signer ≡ None)
    → Goes n (kept_or refusal n (signed_once n parts))
goes_signed None n parts free = inr (free_signer n.signer (free refl), refl)
goes_signed (Some refused) n parts free = inl refl

-- by the signer, now and after one signature
abbrev indexes_by : Signer → Indexes
indexes_by s = record { index = s.index; bound = s.bound; total = s.total }

abbrev next_by : Signer → Indexes
next_by s = record { index = s.index + 1; bound = s.bound; total = s.total }

goes_settled : (arts : Arts) (kind : FlowKind) (n at : NodeState) (ack : Option Ack) (refusal : Option SendRefused) → at.signer ≡ n.signer
    → (refusal ≡ None → signer_refusal n.signer ≡ None)
    → Goes n (settled_by arts kind at ack refusal)
goes_settled arts kind n at None refusal same free = inl (ap indexes_by same)
goes_settled arts kind n at (Some ack) (Some refused) same free = inl (ap indexes_by same)
goes_settled arts kind n at (Some ack) None same free = inr (free_signer n.signer (free refl), ap next_by same)

-- the two acknowledgements of a tick, one after the other
goes_at_tick : (arts : Arts) (n : NodeState) (now : ℕ) → TakesTwo (indexes_of n) (indexes_of (after_tick arts n now))
goes_at_tick arts n now = (
  indexes_of (after_plain arts n now),
  goes_settled arts kinds.Plain n (at_time n now) (due_now kinds.Plain n) (signer_refusal n.signer) refl (λ free. free),
  goes_settled arts kinds.Paths (after_plain arts n now) (after_plain arts n now) (due_now kinds.Paths n) (second_refusal arts n now) refl (λ free. free),
)

is_going : (old new made : NodeState) → new ≡ made → Goes old made → Goes old new
is_going old new made is goes = subst (Goes old) (sym is) goes

-- each step but a tick, which alone signs two
goes : (old : NodeState) (input : Input) (output : Output) (new : NodeState) → used_by input ≤ 1 → NodeStep (format_of old.fixed) old input output new → Goes old new
goes old (Poll to) output new within step = is_going old new (after_poll old to) step.1 (goes_called (call_refusal old to) old _ _)
goes old (Datagram from bytes) output new within step = is_going old new (after_datagram (format_of old.fixed) old from bytes) step.1
    (goes_taken (call_refusal old from) old (before_document (format_of old.fixed) old from bytes) (document_at (format_of old.fixed) old from bytes)
    (inl refl))
goes old (Publish bytes) output new within step =
    is_going old new (after_publish (format_of old.fixed) old bytes) step.1
    (publishing (format_of old.fixed) old bytes (λ m told. Goes old m) (inl refl) (λ d reads by. inl refl))
goes old (Tick now) output new within step = absurd (omega (arith, within))
goes old (SendRel dst payload) output new within step =
    is_going old new (after_send_rel (format_of old.fixed) old dst payload) step.1
    (goes_signed (rel_refusal old dst) old _ (rel_free old dst))
goes old (SendPrio message) output new within step =
    is_going old new (after_send_prio (format_of old.fixed) old message step.choice) step.new_is
    (goes_signed (send_prio_refusal old message step.choice) old _ (prio_free old message step.choice))
goes old (SetWeight peer weight) output new within step =
    is_going old new (after_set_weight (format_of old.fixed) old peer weight) step.1
    (goes_signed (weight_refusal old peer weight) old _ (weight_free old (edge_to old.fixed peer) weight))
goes old (SendKrel message) output new within step =
    is_going old new (after_send_krel (format_of old.fixed) old message step.choice) step.new_is
    (goes_signed (send_krel_refusal old message step.choice) old _ (krel_free old message step.choice))
goes old (TakeKrel src) output new within step = is_going old new (after_take_krel old src) step.1 (inl refl)
goes old (TakeRel src) output new within step = is_going old new (after_take_rel old src) step.1 (inl refl)
goes old TakePrio output new within step = is_going old new (after_take_prio old) step.1 (inl refl)

-- ---- the steps of a station

goes_by_request : (old : tables.Table) (port : ℕ) (bytes reply : List ℕ) (new : tables.Table) (before after : LocalNode)
    → tables.Datagram AnswersBy old port bytes reply new before after → Goes before.node.state after.node.state
goes_by_request old port bytes reply new before after done = by_handled Goes (λ n. inl refl) goes done.read old port reply new before after done.handled

-- a station signs in order
pub in_order : SignsInOrder StationStep indexes_in
in_order old new (inputs.Reserve upto) answer step = λ above within. ap indexes_of step.1 ∙ are_reserved (node_of old) upto above within
in_order old new (inputs.Tick now) answer step =
    subst (λ (n : NodeState). TakesTwo (indexes_in old) (indexes_of n)) (sym step.0.1.1) (goes_at_tick (format_of (node_of old).fixed) (node_of old) now)
in_order old new (inputs.Datagram node bytes) answer step = goes (node_of old) (Datagram node bytes) step.0.0 (node_of new) (omega arith) step.0.1
in_order old new (inputs.Request port bytes) answer step = goes_by_request old.clients port bytes answer new.clients old.local new.local step
in_order old new (inputs.Poll node) answer step = goes (node_of old) (Poll node) step.0.0 (node_of new) (omega arith) step.0.1
