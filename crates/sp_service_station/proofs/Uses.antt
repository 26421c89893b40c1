-- How many indexes of its key a step of a node uses at most, by what is asked. It reserves none.
use Rattle.std.proofs.Common.{◌≡◌, ◌≤◌, ◌+◌, ℕ, Bool, true, false, List, Option, None, Some, refl, sym, subst, ap, arith}
use Rattle.std.specs.Prelude.{◌&&◌, if◌then◌else◌, nat_le}
use Rattle.std.proofs.lemmas.Bool.Decides.{nat_tests}
use Rattle.laws_node.proofs.Adopting.{publishing, reading}
use Rattle.laws_node.proofs.Shapes.{shapes_stay}
use Rattle.laws_node.specs.Shapes.{Shape}
use Rattle.sp_msg.specs.declared.body.Ack.{Ack}
use Rattle.sp_msg.specs.declared.refused.SendRefused.{SendRefused}
use Rattle.sp_node_format.specs.Format.{format_of}
use Rattle.sp_rules.specs.Arts.{Arts}
use Rattle.sp_rules.specs.Link.{Link}
use Rattle.sp_rules.specs.Node.{NodeState, call_refusal, called, extended, kept_or, signed_once}
use Rattle.sp_rules.specs.declared.node.NodeRefused.{NodeRefused}
use Rattle.sp_rules.specs.Parts.{Parts}
use Rattle.sp_rules.specs.Arrivals.{after_datagram, before_document, document_at, read_by}
use Rattle.sp_rules.specs.Documents.{after_publish}
use Rattle.sp_rules.specs.Polls.{after_poll}
use Rattle.sp_rules.specs.KflowSends.{after_send_krel, after_take_krel}
use Rattle.sp_rules.specs.Sends.{after_send_prio, after_send_rel, after_set_weight, after_take_prio, after_take_rel, signer_refusal}
use Rattle.sp_rules.specs.Steps.{Datagram, Input, NodeStep, Output, Poll, Publish, SendKrel, SendPrio, SendRel, SetWeight, TakeKrel, TakePrio, TakeRel, Tick}
use Rattle.sp_rules.specs.Ticks.{after_plain, after_tick, at_time, due_now, second_refusal, settled_by}
use Rattle.sp_rules.specs.declared.kflow.FlowKind.{FlowKind}
use Rattle.sp_rules.specs.declared.kflow.FlowKind.TheVariants as kinds
use Rattle.sp_service_turns.specs.Indexes.{AreReserved, UsesAtMost}
use Rattle.sp_service_station.specs.Stations.{indexes_of, reserved}

-- what is asked signs so much at most: a client's message or weight one, a tick two acknowledgements
abbrev pub used_by : Input → ℕ
used_by (Tick now) = 2
used_by (SendRel dst payload) = 1
used_by (SendPrio message) = 1
used_by (SendKrel message) = 1
used_by (SetWeight peer weight) = 1
used_by _ = 0

-- so many indexes were used at most
abbrev IsNear : ℕ → NodeState → NodeState → Type 0
IsNear used old new = new.signer.index ≤ old.signer.index + used

near_called : {X : Type 0} (refusal : Option X) (n : NodeState) (links : List Link) (parts : Parts) → IsNear 0 n (kept_or refusal n (called n links parts))
near_called None n links parts = omega arith
near_called (Some refused) n links parts = omega arith

near_signed : {X : Type 0} (refusal : Option X) (n : NodeState) (parts : Parts) → IsNear 1 n (kept_or refusal n (signed_once n parts))
near_signed None n parts = omega arith
near_signed (Some refused) n parts = omega arith

near_settled : (arts : Arts) (kind : FlowKind) (n : NodeState) (ack : Option Ack) (refusal : Option SendRefused) → IsNear 1 n (settled_by arts kind n ack refusal)
near_settled arts kind n None refusal = omega arith
near_settled arts kind n (Some ack) (Some refused) = omega arith
near_settled arts kind n (Some ack) None = omega arith

near_tick : (arts : Arts) (n : NodeState) (now : ℕ) → IsNear 2 n (after_tick arts n now)
near_tick arts n now =
    let first = near_settled arts kinds.Plain (at_time n now) (due_now kinds.Plain n) (signer_refusal n.signer) in
    let second = near_settled arts kinds.Paths (after_plain arts n now) (due_now kinds.Paths n) (second_refusal arts n now) in
    omega (arith, first, second)

-- a document leaves the signer
near_read : (n left : NodeState) (document : Option (List ℕ)) → IsNear 0 n left → IsNear 0 n (read_by (format_of n.fixed) left document)
near_read n left document near = reading (format_of n.fixed) left document (λ m told. IsNear 0 n m) near (λ bytes d is reads by. near)

near_taken : (refusal : Option NodeRefused) (n left : NodeState) (document : Option (List ℕ)) → IsNear 0 n left
    → IsNear 0 n (kept_or refusal n (read_by (format_of n.fixed) left document))
near_taken None n left document near = near_read n left document near
near_taken (Some refused) n left document near = omega arith

is_near : (used : ℕ) (old new made : NodeState) → new ≡ made → IsNear used old made → IsNear used old new
is_near used old new made is near = subst (IsNear used old) (sym is) near

rises : (old : NodeState) (input : Input) (output : Output) (new : NodeState) → NodeStep (format_of old.fixed) old input output new
    → IsNear (used_by input) old new
rises old (Poll to) output new step = is_near 0 old new (after_poll old to) step.1 (near_called _ old _ _)
rises old (Datagram from bytes) output new step = is_near 0 old new (after_datagram (format_of old.fixed) old from bytes) step.1
    (near_taken (call_refusal old from) old (before_document (format_of old.fixed) old from bytes) (document_at (format_of old.fixed) old from bytes)
    (omega arith))
rises old (Publish bytes) output new step =
    is_near 0 old new (after_publish (format_of old.fixed) old bytes) step.1
    (publishing (format_of old.fixed) old bytes (λ m told. IsNear 0 old m) (omega arith) (λ d reads by. omega arith))
rises old (Tick now) output new step = is_near 2 old new (after_tick (format_of old.fixed) old now) step.1 (near_tick (format_of old.fixed) old now)
rises old (SendRel dst payload) output new step = is_near 1 old new (after_send_rel (format_of old.fixed) old dst payload) step.1 (near_signed _ old _)
rises old (SendPrio message) output new step =
    is_near 1 old new (after_send_prio (format_of old.fixed) old message step.choice) step.new_is (near_signed _ old _)
rises old (SendKrel message) output new step =
    is_near 1 old new (after_send_krel (format_of old.fixed) old message step.choice) step.new_is (near_signed _ old _)
rises old (SetWeight peer weight) output new step =
    is_near 1 old new (after_set_weight (format_of old.fixed) old peer weight) step.1 (near_signed _ old _)
rises old (TakeRel src) output new step = is_near 0 old new (after_take_rel old src) step.1 (omega arith)
rises old TakePrio output new step = is_near 0 old new (after_take_prio old) step.1 (omega arith)
rises old (TakeKrel src) output new step = is_near 0 old new (after_take_krel old src) step.1 (omega arith)

pub uses : (old : NodeState) (input : Input) (output : Output) (new : NodeState) → NodeStep (format_of old.fixed) old input output new
    → UsesAtMost (used_by input) (indexes_of old) (indexes_of new)
uses old input output new step =
    let shape = shapes_stay (format_of old.fixed) old input output new step in
    record { index = rises old input output new step; bound = ap (λ (s : Shape). s.bound) shape; total = ap (λ (s : Shape). s.total) shape }

pub uses_none : (used : ℕ) (n : NodeState) → UsesAtMost used (indexes_of n) (indexes_of n)
uses_none used n = record { index = omega arith; bound = refl; total = refl }

pub are_reserved : (n : NodeState) (upto : ℕ) → AreReserved (indexes_of n) upto (indexes_of (reserved n upto))
are_reserved n upto above within = go (nat_le n.signer.bound upto) (nat_le upto n.signer.total) (grind (arith, nat_tests)) (grind (arith, nat_tests))
  where
    go : (a b : Bool) → a ≡ true → b ≡ true → indexes_of (if a && b then extended n upto else n) ≡ record (indexes_of n) { bound = upto }
    go true true p q = refl
    go false b p q = absurd (cc)
    go true false p q = absurd (cc)
