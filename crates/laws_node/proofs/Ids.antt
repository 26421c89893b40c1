-- In no place does a step give an id twice.
use Rattle.std.proofs.Common.{◌≡◌, ◌≤◌, ℕ, zero, suc, ◌+◌, ◌-◌, Bool, true, false, List, [], ◌∷◌, ◌++◌, length, map, filter, drop, not, Option, Some, None}
use Rattle.std.proofs.Common.{refl, sym, subst, arith, cond}
use Rattle.sp_base.specs.declared.id.NodeId.{NodeId}
use Rattle.sp_base.specs.declared.limits.TheConstants.{MAX_MESSAGES}
use Rattle.sp_msg.specs.declared.body.Ack.{Ack}
use Rattle.sp_msg.specs.declared.kept.Kept.{Kept}
use Rattle.sp_msg.specs.declared.refused.SendRefused.{SendRefused}
use Rattle.sp_rules.specs.Answers.{epoch_answer, is_new, prio_answer}
use Rattle.sp_rules.specs.Arrivals.{arrival_at, before_document, document_at, greeted, parts_met, pieces_in, pieces_where, read_by, reply_at, rises}
use Rattle.sp_rules.specs.Arrivals.{sections_in}
use Rattle.sp_rules.specs.Arts.{Arts}
use Rattle.sp_rules.specs.Choices.{less_first}
use Rattle.sp_rules.specs.Documents.{under_topology}
use Rattle.sp_rules.specs.Handle.{Arrival, handle, handle_all, heard_where, met}
use Rattle.sp_rules.specs.Kflow.{ack_body}
use Rattle.sp_rules.specs.KflowSends.{send_krel_refusal}
use Rattle.sp_rules.specs.Link.{advanced}
use Rattle.sp_rules.specs.Node.{NodeState, call_refusal, called, kept_or, link_in, signed_now, signed_once, with_link}
use Rattle.sp_rules.specs.Parts.{Parts, flows_of, is_signed, nodes_of, with_flows}
use Rattle.sp_rules.specs.Pieces.{Piece, WeightPiece, PrioAckPiece, PrioPiece, ReportPiece, AckPiece, RelPiece, EpochPiece}
use Rattle.sp_rules.specs.Polls.{is_served, parts_after, polled}
use Rattle.sp_rules.specs.Prio as prio
use Rattle.sp_rules.specs.Prio.{PrioState}
use Rattle.sp_rules.specs.PrioPeer as rows
use Rattle.sp_rules.specs.PrioPeer.{PrioPeer}
use Rattle.sp_rules.specs.Rel.{admit_ack, admit_rel, reported, settled}
use Rattle.sp_rules.specs.Sends.{own_prio, rel_refusal, send_prio_refusal, signer_refusal, weight_refusal}
use Rattle.sp_rules.specs.Steps.{Input, NodeStep, Output, Poll, Datagram, Tick, SendRel, SendPrio, SetWeight, TakeRel, TakePrio, SendKrel, TakeKrel, Publish}
use Rattle.sp_rules.specs.Store.{Store, arriving, evicted, has_id, is_expired, less_expired, next_besides, put, removed, without}
use Rattle.sp_rules.specs.Lives.{are_held, is_dated, judge_epoch}
use Rattle.sp_rules.specs.Ticks.{after_plain, at_time, due_now, second_refusal, settled_by, time_after}
use Rattle.sp_rules.specs.Topologies.{is_shut, removed_of, weights_in}
use Rattle.sp_rules.specs.declared.answers.Item.TheVariants as items
use Rattle.sp_rules.specs.declared.answers.PrioAnswer.{PrioAnswer}
use Rattle.sp_rules.specs.declared.answers.PrioAnswer.TheVariants as prios
use Rattle.sp_rules.specs.declared.kflow.FlowKind.{FlowKind}
use Rattle.sp_rules.specs.declared.kflow.FlowKind.TheVariants.{Plain, Paths}
use Rattle.sp_rules.specs.declared.store.Entry.{Entry}
use Rattle.sp_topology.specs.declared.topology.Topology.{Topology}
use Rattle.laws_node.proofs.Adopting.{publishing, reading}
use Rattle.laws_node.proofs.FlowKinds.{prio_beside}
use Rattle.laws_node.proofs.Priority.{all_map}
use Rattle.laws_node.proofs.Tables.{first_changes}
use Rattle.laws_node.specs.Ids.{AllRise, IdsStayOwn, PeerRises, PlaceRises, Rises}

-- ---- lists of entries

lower : (a b l : ℕ) (es : List Entry) → a ≤ b → Rises b l es → Rises a l es
lower a b l [] up h = omega (arith, up, h)
lower a b l (e ∷ es) up h = (omega (arith, up, h.0), h.1)

one_more : (a l : ℕ) (o : Kept) (es : List Entry) → Rises a l es → Rises a (l + 1) (es ++ (record { id = l + 1; kept = o }) ∷ [])
one_more a l o [] h = (omega (arith, h), omega arith)
one_more a l o (e ∷ es) h = (h.0, one_more e.id l o es h.1)

either : (a l : ℕ) (t : Bool) (xs ys : List Entry) → Rises a l xs → Rises a l ys → Rises a l (cond t xs ys)
either a l true xs ys x y = x
either a l false xs ys x y = y

less : (test : Entry → Bool) (a l : ℕ) (es : List Entry) → Rises a l es → Rises a l (less_first test es)
less test a l [] h = h
less test a l (e ∷ es) h = either a l (test e) es (e ∷ less_first test es) (lower a e.id l es (omega (arith, h.0)) h.1) (h.0, less test e.id l es h.1)

some : (test : Entry → Bool) (a l : ℕ) (es : List Entry) → Rises a l es → Rises a l (filter test es)
some test a l [] h = h
some test a l (e ∷ es) h =
    either a l (test e) (e ∷ filter test es) (filter test es) (h.0, some test e.id l es h.1)
    (lower a e.id l (filter test es) (omega (arith, h.0)) (some test e.id l es h.1))

-- ---- a store

left : (a l : ℕ) (v : Option Entry) (es : List Entry) → Rises a l es → Rises a l (without v es)
left a l None es h = h
left a l (Some e) es h = less (has_id e.id) a l es h

put_rises : (given : ℕ) (s : Store) (o : Kept) → PlaceRises given s → PlaceRises given (put s o)
put_rises given s o h = record {
  rise = left 0 (s.last + 1) (evicted s o) (arriving s o) (one_more 0 s.last o s.entries h.rise);
  least = omega (arith, h.least);
}

oldest_out : (l : ℕ) (es : List Entry) → Rises 0 l es → Rises 0 l (drop 1 es)
oldest_out l [] h = h
oldest_out l (e ∷ es) h = lower 0 e.id l es (omega arith) h.1

all_out : (given : ℕ) (s : Store) (pairs : List (ℕ × ℕ)) → PlaceRises given s → PlaceRises given (rows.less_all s pairs)
all_out given s [] h = h
all_out given s (pair ∷ pairs) h =
    all_out given (removed s pair.1) pairs (record { rise = less (has_id pair.1) 0 s.last s.entries h.rise; least = h.least })

expired_out : (given : ℕ) (s : Store) (now : ℕ) → PlaceRises given s → PlaceRises given (less_expired s now)
expired_out given s now h = record { rise = some (λ e. not (is_expired now e)) 0 s.last s.entries h.rise; least = h.least }

module _ (given : ℕ → ℕ) where
  -- ---- rows

  launched_rises : (q : PrioPeer) (o : Option Entry) → (PeerRises given) q → (PeerRises given) (rows.launched q o)
  launched_rises q None h = h
  launched_rises q (Some e) h = h

  filled_rises : (room : ℕ) (q : PrioPeer) → (PeerRises given) q → (PeerRises given) (rows.filled room q)
  filled_rises zero q h = h
  filled_rises (suc room) q h = filled_rises room (rows.launch q) (launched_rises q (next_besides q.store q.flight q.last) h)

  acked_rises : (number : ℕ) (q : PrioPeer) → (PeerRises given) q → (PeerRises given) (rows.acked q number)
  acked_rises number q h = all_out (given q.peer) q.store (rows.landed q number) h

  given_rises : (o : Kept) (came : Option NodeId) (q : PrioPeer) → (PeerRises given) q → (PeerRises given) (rows.given o came q)
  given_rises o came q h = by (rows.goes_to o.body came q)
    where
      by : (t : Bool) → (PeerRises given) (cond t (record q { store = put q.store o }) q)
      by true = put_rises (given q.peer) q.store o h
      by false = h

  -- ---- the priority part

  one_peer : (s : PrioState) (v : ℕ) (f : PrioPeer → PrioPeer) → ((q : PrioPeer) → (PeerRises given) q → (PeerRises given) (f q)) → (AllRise given) s
      → (AllRise given) (prio.with_peer s v (f (prio.peer_in s v)))
  one_peer s v f keeps h = record { inbox = h.inbox; peers = first_changes (PeerRises given) (prio.is_peer v) prio.no_peer f keeps s.peers h.peers }

  carried_keeps : (q : PrioPeer) → (PeerRises given) q → (PeerRises given) (rows.carried q)
  carried_keeps q h = filled_rises (MAX_MESSAGES - length (rows.settled q).flight) (rows.settled q) h

  admitted : (s : PrioState) (o : Kept) (came : Option NodeId) → (AllRise given) s → (AllRise given) (prio.admit_prio s o came)
  admitted s o came h = by (prio.is_here s o.body)
    where
      marked : PrioState
      marked = prio.marked s o.body came

      by : (t : Bool)
          → (AllRise given)
          (cond t (record (prio.marked s o.body came) { inbox = put s.inbox o })
          (record (prio.marked s o.body came) { peers = map (rows.given o came) s.peers }))
      by true = record { inbox = put_rises (given 0) s.inbox o h.inbox; peers = h.peers }
      by false = record { inbox = h.inbox; peers = all_map (PeerRises given) (PeerRises given) (rows.given o came) (given_rises o came) s.peers h.peers }

  -- ---- a frame

  abbrev Rise : Parts → Type 0
  Rise p = AllRise given p.prio

  which : (t : Bool) (new old : Parts) → Rise new → Rise old → Rise (cond t new old)
  which true new old n o = n
  which false new old n o = o

  heard_keeps : (answer : PrioAnswer) (v : NodeId) (number : ℕ) (p : Parts) → Rise p → Rise (heard_where answer v number p)
  heard_keeps prios.New v number p h = one_peer p.prio v.0 (λ q. rows.heard q number) (λ q k. k) h
  heard_keeps prios.Seen v number p h = one_peer p.prio v.0 (λ q. rows.heard q number) (λ q k. k) h
  heard_keeps prios.BadEnd v number p h = h
  heard_keeps prios.Expired v number p h = h
  heard_keeps prios.BadSig v number p h = h
  heard_keeps prios.Epoch v number p h = h

  unless_new : (t : Bool) (new old : Parts) → new.prio ≡ old.prio → Rise old → Rise (cond t new old)
  unless_new true new old same h = subst (AllRise given) (sym same) h
  unless_new false new old same h = h

  piece : (arts : Arts) (at : Arrival) (p : Parts) (x : Piece) → Rise p → Rise (handle arts at p x).parts
  piece arts at p (WeightPiece o) h = unless_new _ _ p refl h
  piece arts at p (PrioAckPiece number) h = one_peer p.prio at.from.0 (λ q. rows.acked q number) (acked_rises number) h
  piece arts at p (PrioPiece number o) h =
      let answer = prio_answer (is_signed arts at.fixed o) (is_dated p.lives o.body) (prio.judge_prio p.prio o.body at.now) in
      let new = record p { prio = prio.admit_prio p.prio o (Some at.from) } in
      heard_keeps answer at.from number (cond (is_new (items.Prio answer)) new p)
      (which (is_new (items.Prio answer)) new p (admitted p.prio o (Some at.from) h) h)
  piece arts at p (ReportPiece kind flow sboot dboot base have) h =
      let r = reported (flows_of kind p) at.from flow base have in
      unless_new (are_held p.lives flow sboot dboot) (with_flows kind r p) p (prio_beside kind r p) h
  piece arts at p (AckPiece kind flow o) h =
      let r = admit_ack (flows_of kind p) o in
      unless_new _ (with_flows kind r p) p (prio_beside kind r p) h
  piece arts at p (RelPiece kind flow o) h =
      let r = admit_rel (flows_of kind p) o in
      unless_new _ (with_flows kind r p) p (prio_beside kind r p) h
  piece arts at p (EpochPiece o) h =
      which (is_new (items.Epoch (epoch_answer (is_signed arts at.fixed o) (judge_epoch at.fixed.me p.lives o.body)))) (met p o) p
      (record { inbox = h.inbox; peers = h.peers }) h

  greeted_rises : (epochs risen : Bool) (v : NodeId) (p : Parts) → Rise p → Rise (greeted epochs risen v p)
  greeted_rises true true v p h = one_peer p.prio v.0 rows.unheard (λ q k. k) h
  greeted_rises true false v p h = h
  greeted_rises false risen v p h = h

  pieces : (arts : Arts) (at : Arrival) (p : Parts) (xs : List Piece) → Rise p → Rise (handle_all arts at p xs).parts
  pieces arts at p [] h = h
  pieces arts at p (x ∷ xs) h = pieces arts at (handle arts at p x).parts xs (piece arts at p x h)

  -- ---- a node

  abbrev Whole : NodeState → Type 0
  Whole n = (AllRise given) n.parts.prio

  or_kept : {R : Type 0} (r : Option R) (old new : NodeState) → Whole old → Whole new → Whole (kept_or r old new)
  or_kept (Some x) old new o n = o
  or_kept None old new o n = n

  settled_keeps : (arts : Arts) (kind : FlowKind) (n : NodeState) (due : Option Ack) (refusal : Option SendRefused) → Whole n
      → Whole (settled_by arts kind n due refusal)
  settled_keeps arts kind n None refusal h = h
  settled_keeps arts kind n (Some ack) (Some refusal) h = h
  settled_keeps arts kind n (Some ack) None h =
      subst (AllRise given) (sym (prio_beside kind (settled (flows_of kind n.parts) (signed_now arts n (ack_body kind ack))) n.parts)) h

  -- ids of those that leave aren't given again
  closed_rises : (least : List ℕ) (removed : List NodeId) (q : PrioPeer) → (PeerRises given) q → (PeerRises given) (rows.closed least removed q)
  closed_rises least removed q h = record {
    rise = some (λ e. not (rows.leaves (is_shut least q.edge) removed e)) 0 q.store.last q.store.entries h.rise;
    least = h.least;
  }

  adopted_rises : (n : NodeState) (bytes : List ℕ) (t : Topology) → Whole n → Whole (under_topology n bytes t)
  adopted_rises n bytes t h =
      let least = weights_in t.edges in
      let gone = removed_of (nodes_of t) t.edges in
      record {
        inbox = h.inbox;
        peers =
            all_map (PeerRises given) (PeerRises given) (rows.closed least gone) (closed_rises least gone) n.parts.prio.peers h.peers;
      }

  step_rises : (arts : Arts) (n : NodeState) (input : Input) (output : Output) (new : NodeState) → NodeStep arts n input output new → Whole n → Whole new
  step_rises arts n (Poll v) output new s h =
      subst Whole (sym s.1) (or_kept (call_refusal n v) n (called n (with_link n v (advanced (link_in n v))) (parts_after n v)) h
      (which (is_served n v) (polled n.fixed n.parts v) n.parts (one_peer n.parts.prio v.0 rows.carried carried_keeps h) h))
  step_rises arts n (Datagram v bytes) output new s h =
      let xs = pieces_where (reply_at arts n v bytes) (pieces_in n.fixed (sections_in arts n.fixed bytes)) in
      let met_at = before_document arts n v bytes in
      let first = pieces arts (arrival_at n v) (parts_met arts n v bytes) xs (greeted_rises n.fixed.epochs (rises arts n v bytes) v n.parts h) in
      subst Whole (sym s.1) (or_kept (call_refusal n v) n (read_by arts met_at (document_at arts n v bytes)) h
      (reading arts met_at (document_at arts n v bytes) (λ m told. Whole m) first (λ document d is reads by. adopted_rises met_at document d.topology first)))
  step_rises arts n (Tick now) output new s h =
      let time = time_after n now in
      subst Whole (sym s.1) (settled_keeps arts Paths (after_plain arts n now) (due_now Paths n) (second_refusal arts n now)
      (settled_keeps arts Plain (at_time n now) (due_now Plain n) (signer_refusal n.signer) (record {
        inbox = expired_out (given 0) n.parts.prio.inbox time h.inbox;
        peers =
            all_map (PeerRises given) (PeerRises given) (λ q. rows.expired q time) (λ q k. expired_out (given q.peer) q.store time k) n.parts.prio.peers
            h.peers;
      })))
  step_rises arts n (SendRel dst payload) output new s h = subst Whole (sym s.1) (or_kept (rel_refusal n dst) n _ h h)
  step_rises arts n (SendPrio m) output new s h =
      let o = own_prio arts n m s.choice in
      subst Whole (sym s.new_is)
      (or_kept (send_prio_refusal n m s.choice) n (signed_once n (record n.parts { prio = prio.admit_prio n.parts.prio o None })) h
      (admitted n.parts.prio o None h))
  step_rises arts n (SetWeight v weight) output new s h = subst Whole (sym s.1) (or_kept (weight_refusal n v weight) n _ h h)
  step_rises arts n (TakeRel src) output new s h = subst Whole (sym s.1) h
  step_rises arts n (SendKrel m) output new s h = subst Whole (sym s.new_is) (or_kept (send_krel_refusal n m s.choice) n _ h h)
  step_rises arts n (TakeKrel src) output new s h = subst Whole (sym s.1) h
  step_rises arts n TakePrio output new s h =
      subst Whole (sym s.1) (record {
        inbox = record { rise = oldest_out n.parts.prio.inbox.last n.parts.prio.inbox.entries h.inbox.rise; least = h.inbox.least };
        peers = h.peers;
      })
  step_rises arts n (Publish document) output new s h =
      subst Whole (sym s.1) (publishing arts n document (λ m told. Whole m) h (λ d reads by. adopted_rises n document d.topology h))

pub ids_stay_own : IdsStayOwn
ids_stay_own arts old input output new given s = step_rises given arts old input output new s
