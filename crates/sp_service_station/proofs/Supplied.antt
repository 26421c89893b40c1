-- A node that has two indexes left which are reserved, or none that isn't, answers nothing for want of a reserve.
use Rattle.std.proofs.Common.{◌≡◌, ℕ, ◌≤◌, Bool, true, false, List, Option, None, Some, Result, Ok, Err, refl, sym, ap, subst, inl, inr, arith}
use Rattle.std.specs.Prelude.{◌==◌, ◌≢◌, ◌||◌, ◌&&◌, if◌then◌else◌, nat_le, nat_lt, not}
use Rattle.std.proofs.lemmas.Bool.{eqb-false, eqb-true}
use Rattle.std.proofs.lemmas.Bool.Decides.{nat_tests}
use Rattle.sp_base.specs.Cursor.{or_else}
use Rattle.sp_base.specs.declared.id.NodeId.{NodeId}
use Rattle.sp_msg.specs.declared.body.Ack.{Ack}
use Rattle.sp_msg.specs.declared.refused.SendRefused.{SendRefused}
use Rattle.sp_msg.specs.declared.refused.SendRefused.TheVariants as refusals
use Rattle.sp_outside.specs.Calls.{Came, Got, Lost, Nothing}
use Rattle.sp_msg.specs.declared.mask.Mask as masks
use Rattle.sp_node_format.specs.Format.{format_of}
use Rattle.sp_rules.specs.Arts.{Arts}
use Rattle.sp_rules.specs.Kflow as kflow
use Rattle.sp_rules.specs.Kflow.{waiting_mask}
use Rattle.sp_rules.specs.KflowSends.{KSend, krel_refusal, no_mask, no_place, send_krel_refusal}
use Rattle.sp_rules.specs.Masks.{Choice, Mask, OnlyPaths}
use Rattle.sp_rules.specs.Node.{NodeState, Signer, call_refusal, extended}
use Rattle.sp_rules.specs.Parts.{edge_to, is_first}
use Rattle.sp_rules.specs.Prio.{is_there}
use Rattle.sp_rules.specs.Rel.{is_waiting, room}
use Rattle.sp_rules.specs.Sends.{PrioSend, is_unmet, no_life, no_paths, no_room, prio_refusal, rel_refusal, send_prio_refusal, signer_refusal, weight_refusal}
use Rattle.sp_rules.specs.Sends.{weight_refusal_at}
use Rattle.sp_rules.specs.Steps as steps
use Rattle.sp_rules.specs.Ticks.{after_plain, at_time, due_now, refused_where, reply_of, second_refusal, settled_by}
use Rattle.sp_rules.specs.Weights.{is_withdrawn, minimum}
use Rattle.sp_rules.specs.declared.kflow.FlowKind.{FlowKind}
use Rattle.sp_rules.specs.declared.kflow.FlowKind.TheVariants as kinds
use Rattle.sp_rules.specs.declared.kflow.KRoom.{KRoom}
use Rattle.sp_rules.specs.declared.node.NodeRefused.{NodeRefused}
use Rattle.sp_rules.specs.declared.node.TickReply.TheVariants as ticks
use Rattle.sp_rules.specs.declared.rel.RelRefused.{RelRefused}
use Rattle.sp_rules.specs.declared.rel.RelRefused.TheVariants as rels
use Rattle.sp_service_turns.specs.Indexes.{HaveLeft, UsesAtMost}
use Rattle.sp_service_turns.specs.declared.indexes.Indexes.{Indexes}
use Rattle.sp_service_turns.specs.Turns.{Hears, HearsFrom, Restocks, node_at}
use Rattle.sp_service_turns.specs.declared.peer.Peer.{Peer}
use Rattle.sp_service_station.specs.Stations.{Station, StationStep, indexes_in, indexes_of, node_of, reserved}
use Rattle.sp_service_station.specs.Supplies.{IsSupplied, TurnsAreSupplied}
use Rattle.sp_service_station.proofs.Uses.{uses}

-- the signer refuses nothing for want of a reserve
abbrev IsFree : Option SendRefused → Type 0
IsFree refusal = (bound : ℕ) → refusal ≢ Some (refusals.NotReserved bound)

-- the indexes of a signer
abbrev indexes_with : Signer → Indexes
indexes_with s = record { index = s.index; bound = s.bound; total = s.total }

free_signer : (s : Signer) → s.bound ≤ s.total → HaveLeft 1 (indexes_with s) → IsFree (signer_refusal s)
free_signer s within left b is = go (s.index == s.total) (s.index == s.bound) refl refl is
  where
    all_used : s.index ≡ s.bound → HaveLeft 1 (indexes_with s) → s.index ≡ s.total
    all_used same (inl some) = absurd (omega (arith, same, some))
    all_used same (inr none) = omega (arith, same, none, within)

    go : (x y : Bool) → (s.index == s.total) ≡ x → (s.index == s.bound) ≡ y
        → (if x then Some (refusals.Spent s.index) else if y then Some (refusals.NotReserved s.bound) else None) ≡ Some (refusals.NotReserved b) → ⊥
    go true y p q e = absurd (cc)
    go false true p q e = eqb-false s.index s.total p (all_used (eqb-true s.index s.bound q) left)
    go false false p q e = absurd (cc)

-- ---- sends

free_room : (r : Result ℕ RelRefused) (refusal : Option SendRefused) → IsFree refusal → IsFree (or_else (no_room r) refusal)
free_room (Ok number) refusal free = free
free_room (Err rels.BadEnd) refusal free = λ b is. absurd (cc)
free_room (Err (rels.Full base have)) refusal free = λ b is. absurd (cc)
free_room (Err rels.Memory) refusal free = λ b is. absurd (cc)

free_both : (first second : Option SendRefused) → IsFree first → IsFree second → IsFree (or_else first second)
free_both None second free other = other
free_both (Some refused) second free other = free

free_life : (unmet : Bool) (refusal : Option SendRefused) → IsFree refusal → IsFree (or_else (no_life unmet) refusal)
free_life true refusal free = λ b is. absurd (cc)
free_life false refusal free = free

free_paths : (choice : Choice) (refusal : Option SendRefused) → IsFree refusal → IsFree (or_else refusal (no_paths choice))
free_paths (Mask mask) None free = λ b is. absurd (cc)
free_paths (OnlyPaths found) None free = λ b is. absurd (cc)
free_paths choice (Some refused) free = free

free_mask : (waiting : Option masks.Mask) (choice : Choice) → IsFree (no_mask waiting choice)
free_mask (Some mask) choice b is = absurd (cc)
free_mask None (Mask mask) b is = absurd (cc)
free_mask None (OnlyPaths found) b is = absurd (cc)

free_test : (t : Bool) (refused : SendRefused) (refusal : Option SendRefused) → IsFree (Some refused) → IsFree refusal
    → IsFree (if t then Some refused else refusal)
free_test true refused refusal one other = one
free_test false refused refusal one other = other

free_prio : (n : NodeState) (m : PrioSend) → IsFree (signer_refusal n.signer) → IsFree (prio_refusal n m)
free_prio n m free =
    free_test ((m.dst.0 == n.fixed.me.0) || not (is_there n.parts.prio m.dst.0) || not (is_there n.parts.prio n.fixed.me.0) || is_unmet n m.dst) refusals.BadEnd
    (if nat_lt m.expiry n.now then Some (refusals.Expired n.now) else signer_refusal n.signer) (λ b is. absurd (cc))
    (free_test (nat_lt m.expiry n.now) (refusals.Expired n.now) (signer_refusal n.signer) (λ b is. absurd (cc)) free)

free_weight : (n : NodeState) (edge : Option ℕ) (weight : ℕ) → IsFree (signer_refusal n.signer) → IsFree (weight_refusal_at n edge weight)
free_weight n None weight free = λ b is. absurd (cc)
free_weight n (Some edge) weight free =
    let least = minimum n.parts.weights edge in
    free_test (is_withdrawn n.parts.weights edge) refusals.BadEnd (if nat_lt weight least then Some (refusals.Low least) else signer_refusal n.signer)
    (λ b is. absurd (cc)) (free_test (nat_lt weight least) (refusals.Low least) (signer_refusal n.signer) (λ b is. absurd (cc)) free)

-- a flow on paths has no place for want of a place alone
free_place : (n : NodeState) (m : KSend) → IsFree (no_place (kflow.room n.parts.kflow m.dst m.paths))
free_place n m = go (room n.parts.kflow.flows m.dst)
  where
    placed : (full : Bool) (place : KRoom) (paths : ℕ) → IsFree (no_place (if full then Err (refusals.Busy paths) else Ok place))
    placed true place paths b is = absurd (cc)
    placed false place paths b is = absurd (cc)

    go : (r : Result ℕ RelRefused) → IsFree (no_place (kflow.busy n.parts.kflow m.dst m.paths r))
    go (Ok seq) =
        placed (is_waiting n.parts.kflow.flows m.dst && not (kflow.paths_to n.parts.kflow m.dst == m.paths))
        (record { seq = seq; mask = waiting_mask n.parts.kflow m.dst }) (kflow.paths_to n.parts.kflow m.dst)
    go (Err rels.BadEnd) = λ b is. absurd (cc)
    go (Err (rels.Full base have)) = λ b is. absurd (cc)
    go (Err rels.Memory) = λ b is. absurd (cc)

free_krel : (n : NodeState) (m : KSend) → IsFree (signer_refusal n.signer) → IsFree (krel_refusal n m)
free_krel n m free =
    free_life (is_first n.fixed || is_unmet n m.dst) _ (free_both (no_place (kflow.room n.parts.kflow m.dst m.paths)) (signer_refusal n.signer) (free_place n m) free)

-- ---- replies

-- a reply that tells of no want of a reserve
abbrev IsFine : steps.Reply → Type 0
IsFine reply = (bound : ℕ) → (reply ≢ steps.Ticked (ticks.TickNotReserved bound)) × (reply ≢ steps.Refused (refusals.NotReserved bound))

fine_call : (refusal : Option NodeRefused) (output : steps.Output) → IsFine output.reply → IsFine (steps.refused_call refusal output).reply
fine_call None output fine = fine
fine_call (Some refused) output fine = λ b. ((λ is. absurd (cc)), λ is. absurd (cc))

fine_send : (refusal : Option SendRefused) (output : steps.Output) → IsFree refusal → IsFine output.reply → IsFine (steps.refused_send refusal output).reply
fine_send None output free fine = fine
fine_send (Some refused) output free fine = λ b. (
  (λ is. absurd (cc)),
  λ is. free b (let same : refused ≡ refusals.NotReserved b = cc in ap (λ (r : SendRefused). Some r) same),
)

fine_refusal : (refusal : Option SendRefused) → IsFree refusal → (b : ℕ) → reply_of refusal ≢ ticks.TickNotReserved b
fine_refusal None free b is = absurd (cc)
fine_refusal (Some (refusals.Spent index)) free b is = absurd (cc)
fine_refusal (Some (refusals.NotReserved bound)) free b is = free bound refl
fine_refusal (Some refusals.Memory) free b is = absurd (cc)
fine_refusal (Some refusals.BadEnd) free b is = absurd (cc)
fine_refusal (Some (refusals.Full base have)) free b is = absurd (cc)
fine_refusal (Some (refusals.Busy paths)) free b is = absurd (cc)
fine_refusal (Some (refusals.Expired now)) free b is = absurd (cc)
fine_refusal (Some (refusals.NoPaths found)) free b is = absurd (cc)
fine_refusal (Some (refusals.Low minimum)) free b is = absurd (cc)

fine_tick : (refusal : Option SendRefused) → IsFree refusal → IsFine (steps.Ticked (reply_of refusal))
fine_tick refusal free = λ b. (
  (λ is. fine_refusal refusal free b (let same : reply_of refusal ≡ ticks.TickNotReserved b = cc in same)),
  λ is. absurd (cc),
)

free_where : (ack : Option Ack) (refusal : Option SendRefused) → IsFree refusal → IsFree (refused_where ack refusal)
free_where None refusal free = λ b is. absurd (cc)
free_where (Some ack) refusal free = free

fine_output : (made output : steps.Output) → output ≡ made → IsFine made.reply → IsFine output.reply
fine_output made output is fine = subst (λ (o : steps.Output). IsFine o.reply) (sym is) fine

-- ---- the second acknowledgement of a tick

-- two are left before the first, so that one is left after it
left_settled : (arts : Arts) (kind : FlowKind) (n : NodeState) (ack : Option Ack) (refusal : Option SendRefused) → HaveLeft 2 (indexes_of n)
    → HaveLeft 1 (indexes_of (settled_by arts kind n ack refusal))
left_settled arts kind n None refusal (inl left) = inl (omega (arith, left))
left_settled arts kind n (Some ack) (Some refused) (inl left) = inl (omega (arith, left))
left_settled arts kind n (Some ack) None (inl left) = inl (omega (arith, left))
left_settled arts kind n None refusal (inr all) = inr all
left_settled arts kind n (Some ack) (Some refused) (inr all) = inr all
left_settled arts kind n (Some ack) None (inr all) = inr all

within_settled : (arts : Arts) (kind : FlowKind) (n : NodeState) (ack : Option Ack) (refusal : Option SendRefused) → n.signer.bound ≤ n.signer.total
    → (settled_by arts kind n ack refusal).signer.bound ≤ (settled_by arts kind n ack refusal).signer.total
within_settled arts kind n None refusal within = within
within_settled arts kind n (Some ack) (Some refused) within = within
within_settled arts kind n (Some ack) None within = within

free_second : (arts : Arts) (n : NodeState) (now : ℕ) → n.signer.bound ≤ n.signer.total → HaveLeft 2 (indexes_of n) → IsFree (second_refusal arts n now)
free_second arts n now within left =
    free_signer (after_plain arts n now).signer
    (within_settled arts kinds.Plain (at_time n now) (due_now kinds.Plain n) (signer_refusal n.signer) within)
    (left_settled arts kinds.Plain (at_time n now) (due_now kinds.Plain n) (signer_refusal n.signer) left)

-- every step of a node that has two left is answered so
supplied_by : (n : NodeState) → n.signer.bound ≤ n.signer.total → HaveLeft 2 (indexes_of n) → IsFree (signer_refusal n.signer) → IsSupplied n
supplied_by n within left free (steps.Poll to) output new step = fine_output _ output step.0 (fine_call (call_refusal n to) _ (λ b. ((λ is. absurd (cc)), λ is. absurd (cc))))
supplied_by n within left free (steps.Datagram from bytes) output new step =
    fine_output _ output step.0 (fine_call (call_refusal n from) _ (λ b. ((λ is. absurd (cc)), λ is. absurd (cc))))
supplied_by n within left free (steps.Publish bytes) output new step = fine_output _ output step.0 (λ b. ((λ is. absurd (cc)), λ is. absurd (cc)))
supplied_by n within left free (steps.Tick now) output new step =
    fine_output _ output step.0
    (fine_tick _ (free_both _ _ (free_where (due_now kinds.Plain n) (signer_refusal n.signer) free)
    (free_where (due_now kinds.Paths n) (second_refusal (format_of n.fixed) n now) (free_second (format_of n.fixed) n now within left))))
supplied_by n within left free (steps.SendRel dst payload) output new step =
    fine_output _ output step.0
    (fine_send (rel_refusal n dst) _ (free_life (is_unmet n dst) _ (free_room (room n.parts.rel dst) (signer_refusal n.signer) free))
    (λ b. ((λ is. absurd (cc)), λ is. absurd (cc))))
supplied_by n within left free (steps.SendPrio message) output new step =
    fine_output _ output step.output_is
    (fine_send (send_prio_refusal n message step.choice) _ (free_paths step.choice (prio_refusal n message) (free_prio n message free))
    (λ b. ((λ is. absurd (cc)), λ is. absurd (cc))))
supplied_by n within left free (steps.SetWeight peer weight) output new step =
    fine_output _ output step.0
    (fine_send (weight_refusal n peer weight) _ (free_weight n (edge_to n.fixed peer) weight free) (λ b. ((λ is. absurd (cc)), λ is. absurd (cc))))
supplied_by n within left free (steps.SendKrel message) output new step =
    fine_output _ output step.output_is
    (fine_send (send_krel_refusal n message step.choice) _
    (free_both _ _ (free_krel n message free) (free_mask (waiting_mask n.parts.kflow message.dst) step.choice)) (λ b. ((λ is. absurd (cc)), λ is. absurd (cc))))
supplied_by n within left free (steps.TakeKrel src) output new step = fine_output _ output step.0 (λ b. ((λ is. absurd (cc)), λ is. absurd (cc)))
supplied_by n within left free (steps.TakeRel src) output new step = fine_output _ output step.0 (λ b. ((λ is. absurd (cc)), λ is. absurd (cc)))
supplied_by n within left free steps.TakePrio output new step = fine_output _ output step.0 (λ b. ((λ is. absurd (cc)), λ is. absurd (cc)))

-- so is every step of one that has two left
supplied : (n : NodeState) → n.signer.bound ≤ n.signer.total → HaveLeft 2 (indexes_of n) → IsSupplied n
supplied n within left = supplied_by n within left (free_signer n.signer within (left_less (indexes_of n) left))
  where
    left_less : (i : Indexes) → HaveLeft 2 i → HaveLeft 1 i
    left_less i (inl left) = inl (omega (arith, left))
    left_less i (inr all) = inr all

-- ---- turns

-- the bound is that of an index which there is
abbrev IsWithin : Station → Type 0
IsWithin s = (indexes_in s).bound ≤ (indexes_in s).total

within_reserved : (n : NodeState) (upto : ℕ) → n.signer.bound ≤ n.signer.total → (reserved n upto).signer.bound ≤ (reserved n upto).signer.total
within_reserved n upto within = go (nat_le n.signer.bound upto) (nat_le upto n.signer.total) refl
  where
    go : (a b : Bool) → nat_le upto n.signer.total ≡ b
        → (if a && b then extended n upto else n).signer.bound ≤ (if a && b then extended n upto else n).signer.total
    go true true is = grind (arith, nat_tests)
    go true false is = within
    go false b is = within

within_restocked : (reserved_up : Option ℕ) (old new : Station) → Restocks StationStep reserved_up old new → IsWithin old → IsWithin new
within_restocked (Some upto) old new step within =
    subst (λ (n : NodeState). n.signer.bound ≤ n.signer.total) (sym step.1) (within_reserved (node_of old) upto within)
within_restocked None old new same within = subst IsWithin (sym same) within

within_by : (used : ℕ) (old new : Station) → UsesAtMost used (indexes_in old) (indexes_in new) → IsWithin old → IsWithin new
within_by used old new uses within = omega (arith, within, uses.bound, uses.total)

within_from : (node : Option NodeId) (arrived bytes : List ℕ) (old new : Station) → HearsFrom StationStep node arrived old bytes new → IsWithin old → IsWithin new
within_from (Some node) arrived bytes old new hears within =
    within_by 0 old new (uses (node_of old) (steps.Datagram node bytes) hears.0.0 (node_of new) hears.0.1) within
within_from None arrived bytes old new same within = subst IsWithin (sym same) within

within_heard : (peers : List Peer) (arrived : List ℕ) (old : Station) (got : Got) (new : Station) → Hears StationStep peers arrived old got new
    → IsWithin old → IsWithin new
within_heard peers arrived old (Came port bytes) new hears within = within_from (node_at peers port) arrived bytes old new hears within
within_heard peers arrived old Nothing new same within = subst IsWithin (sym same) within
within_heard peers arrived old Lost new same within = subst IsWithin (sym same) within

pub turns_are_supplied : TurnsAreSupplied
turns_are_supplied peers polled t old new within m =
    let at_tick : IsWithin m.after_reserve = within_restocked t.reserved old m.after_reserve m.reserve within in
    let ticked : UsesAtMost 2 (indexes_in m.after_reserve) (indexes_in m.after_tick) =
    uses (node_of m.after_reserve) (steps.Tick t.now) m.tick.0.0 (node_of m.after_tick) m.tick.0.1 in
    let at_client : IsWithin m.after_overlay =
    within_heard peers t.arrived m.after_tick t.overlay m.after_overlay m.overlay (within_by 2 m.after_reserve m.after_tick ticked at_tick) in (
      supplied (node_of m.after_reserve) at_tick m.tick_supplied,
      supplied (node_of m.after_overlay) at_client m.client_supplied,
    )
