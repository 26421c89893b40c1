-- Each step keeps that what is kept of a flow names the boots that are held: what is new names them, and so does what the node signs; and where a boot
-- rises, nothing is kept of the flows of its node.
use Rattle.std.proofs.Common.{◌≡◌, ◌==◌, ℕ, Bool, true, false, cond, List, [], ◌∷◌, map, Option, Some, None, refl, sym, subst, ◌∙◌, inl, inr, ◌&&◌}
use Rattle.std.specs.Prelude.{◌||◌, ◌-◌, ◌≢◌, IfSome}
use Rattle.std.specs.List.{All}
use Rattle.std.proofs.lemmas.Bool.{cases_Bool, eq-eqb}
use Rattle.std.proofs.lemmas.List.Elements.{All-nil, All-cons, All-head, All-tail}
use Rattle.sp_base.specs.declared.id.Flow.{Flow}
use Rattle.sp_base.specs.declared.id.NodeId.{NodeId}
use Rattle.sp_msg.specs.Bodies.{payload_of}
use Rattle.sp_msg.specs.declared.body.Ack.{Ack}
use Rattle.sp_msg.specs.declared.body.Body.{Body}
use Rattle.sp_msg.specs.declared.kept.Kept.{Kept}
use Rattle.sp_msg.specs.declared.refused.SendRefused.{SendRefused}
use Rattle.sp_rules.proofs.FlowJudged.{found_ends}
use Rattle.sp_rules.specs.Answers.{ack_answer, epoch_answer, is_new, prio_answer, rel_answer, weight_answer}
use Rattle.sp_rules.specs.Arrivals.{arrival_at, greeted, parts_met, before_document, document_at, read_by, rises}
use Rattle.sp_rules.specs.Arts.{Arts}
use Rattle.sp_rules.specs.Flow.{FlowState, acknowledged_by, after_take, concluded, ends, flow_said, is_flow, no_flow, number_said, pushed, received, ended}
use Rattle.sp_rules.specs.Handle.{Arrival, ack_item, handle, handle_all, heard_where, met, offer_to, rel_item}
use Rattle.sp_rules.specs.Kflow as kflow
use Rattle.sp_rules.specs.Kflow.{ack_body, came_over}
use Rattle.sp_rules.specs.KflowSends.{krel_sends, send_krel_refusal}
use Rattle.sp_rules.specs.Lives.{are_held, held_boot, is_dated, judge_epoch, origin_said}
use Rattle.sp_rules.specs.Node.{NodeState, call_refusal, kept_or, link_in, signed_now, called, with_link}
use Rattle.sp_rules.specs.Parts.{Fixed, Parts, bare_parts, closed, flows_of, is_signed, nodes_of, with_flows}
use Rattle.sp_rules.specs.Pieces.{Piece, AckPiece, PrioAckPiece, PrioPiece, RelPiece, ReportPiece, WeightPiece, EpochPiece}
use Rattle.sp_rules.specs.Prio.{admit_prio, judge_prio}
use Rattle.sp_rules.specs.Rel.{RelState, admit_ack, admit_rel, due_place, flow_in, flow_less, flow_to_me, is_end, is_to, judge_ack_of, judge_rel_of}
use Rattle.sp_rules.specs.Rel.{next_place, peer_in, pushed_in, reported, served, served_at, settled, settled_at, told, took, with_flow, with_peer, ended_where}
use Rattle.sp_rules.specs.Rel.{is_over, pairs_of}
use Rattle.sp_rules.specs.Sends.{after_take_prio, own_prio, rel_body, rel_refusal, send_prio_refusal, signer_refusal, weight_body, weight_refusal}
use Rattle.sp_rules.specs.Steps.{Input, NodeStep, Output, Poll, Datagram, Tick, SendRel, SendPrio, SetWeight, TakeRel, TakePrio, SendKrel, TakeKrel, Publish}
use Rattle.sp_rules.specs.Ticks.{after_plain, at_time, dated, due_now, second_refusal, settled_by}
use Rattle.sp_rules.specs.Weights.{held}
use Rattle.sp_rules.specs.declared.answers.Item.TheVariants as items
use Rattle.sp_rules.specs.declared.answers.PrioAnswer.{PrioAnswer}
use Rattle.sp_rules.specs.declared.answers.PrioAnswer.TheVariants as prios
use Rattle.sp_rules.specs.declared.kflow.FlowKind.{FlowKind}
use Rattle.sp_rules.specs.declared.kflow.FlowKind.TheVariants.{Plain, Paths}
use Rattle.sp_rules.specs.declared.lives.Life.{Life}
use Rattle.sp_rules.specs.Link.{advanced}
use Rattle.sp_rules.specs.Polls.{is_served, parts_after, polled}
use Rattle.sp_rules.specs.Topologies.{removed_of, weights_in}
use Rattle.laws_node.proofs.FlowKinds.{lives_beside}
use Rattle.laws_node.proofs.Handles as judged
use Rattle.laws_node.proofs.Reliable.{dated_due}
use Rattle.laws_node.proofs.Tables.{all_drop_first, all_first, all_push, all_replace, all_weaker, cond_either, cond_where}
use Rattle.laws_node.proofs.Adopting.{publishing, reading}
use Rattle.laws_node.proofs.Priority.{all_map}
use Rattle.laws_runs.specs.Dated.{AreDated, FlowDated, NamesHeld}
use Rattle.laws_node.proofs.Ticking.{still_due}
use Rattle.laws_runs.proofs.EachKind.{of_both, of_one}
use Rattle.laws_runs.proofs.NoStarts.{pieces_at}
use Rattle.laws_runs.proofs.StartPieces.{start_follows}
use Rattle.laws_runs.proofs.NamedBoots.{names_held, rel_of_flow, ack_of_flow, still_held}

-- ---- one flow

none_dated : (lives : List Life) (flow : Flow) → FlowDated lives (no_flow flow)
none_dated lives flow = record { messages = All-nil (λ o. NamesHeld lives flow o.body); ack = tt }

module _ (lives : List Life) where
  with_dated : (r : RelState) (flow : Flow) (g : FlowState) → All (FlowDated lives) r.flows → FlowDated lives g
      → All (FlowDated lives) (with_flow r flow g).flows
  with_dated r flow g h one = all_replace (FlowDated lives) (is_flow flow) g r.flows h one

  pub flow_dated : (r : RelState) (flow : Flow) → All (FlowDated lives) r.flows → FlowDated lives (flow_in r.flows flow)
  flow_dated r flow h = all_first (FlowDated lives) (is_flow flow) (no_flow flow) r.flows h (none_dated lives flow)

  -- what names the flow that it says is of the row of that flow
  of_row : (r : RelState) (body : Body) → NamesHeld lives (flow_said body) body → NamesHeld lives (ends (flow_in r.flows (flow_said body))) body
  of_row r body names = subst (λ (flow : Flow). NamesHeld lives flow body) (sym (found_ends r.flows (flow_said body))) names

  acked_dated : (f : FlowState) (o : Kept) → NamesHeld lives (ends f) o.body → FlowDated lives f → FlowDated lives (acknowledged_by f o)
  acked_dated f o names h = record {
    messages = all_drop_first (λ m. NamesHeld lives (ends f) m.body) (number_said o.body - f.at.base) f.at.list h.messages;
    ack = names;
  }

  concluded_dated : (f : FlowState) (o : Kept) → NamesHeld lives (ends f) o.body → FlowDated lives f → FlowDated lives (concluded f o)
  concluded_dated f o names h = record {
    messages = all_drop_first (λ m. NamesHeld lives (ends f) m.body) (f.at.have - f.at.base) f.at.list h.messages;
    ack = names;
  }

  pushed_dated : (f : FlowState) (o : Kept) → NamesHeld lives (ends f) o.body → FlowDated lives f → FlowDated lives (pushed f o)
  pushed_dated f o names h = record { messages = all_push (λ m. NamesHeld lives (ends f) m.body) f.at.list o h.messages names; ack = h.ack }

  received_dated : (f : FlowState) (payload : List ℕ) → FlowDated lives f → FlowDated lives (received f payload)
  received_dated f payload h = record { messages = h.messages; ack = h.ack }

  took_dated : (f : FlowState) → FlowDated lives f → FlowDated lives (after_take f)
  took_dated f h = record { messages = h.messages; ack = h.ack }

  -- ---- all flows

  admit_dated : (r : RelState) (o : Kept) → NamesHeld lives (flow_said o.body) o.body → All (FlowDated lives) r.flows
      → All (FlowDated lives) (admit_rel r o).flows
  admit_dated r o names h =
      let flow = flow_said o.body in
      let f = flow_in r.flows flow in
      with_dated r flow (cond (is_to r flow) (received f (payload_of o.body)) (pushed f o)) h
      (cond_either (FlowDated lives) (is_to r flow) (received f (payload_of o.body)) (pushed f o)
      (received_dated f (payload_of o.body) (flow_dated r flow h)) (pushed_dated f o (of_row r o.body names) (flow_dated r flow h)))

  reported_dated : (r : RelState) (v : NodeId) (flow : Flow) (base have : ℕ) → All (FlowDated lives) r.flows
      → All (FlowDated lives) (reported r v flow base have).flows
  reported_dated r v flow base have h =
      cond_either (λ (x : RelState). All (FlowDated lives) x.flows) (flow_in r.flows flow).active
      (with_peer r v (told (peer_in r.peers v) flow base have)) r h h

  served_dated : (r : RelState) (v : NodeId) → All (FlowDated lives) r.flows → All (FlowDated lives) (served r v).flows
  served_dated r v h = go (next_place r v)
    where
      go : (place : Option ℕ) → All (FlowDated lives) (served_at r v place).flows
      go None = h
      go (Some place) = h

  settled_dated : (r : RelState) (o : Kept) → NamesHeld lives (flow_said o.body) o.body → All (FlowDated lives) r.flows
      → All (FlowDated lives) (settled r o).flows
  settled_dated r o names h = go (due_place r)
    where
      go : (place : Option ℕ) → All (FlowDated lives) (settled_at r o place).flows
      go None = h
      go (Some place) =
          let flow = flow_said o.body in
          let f = flow_in r.flows flow in
          with_dated r flow (concluded f o) h (concluded_dated f o (of_row r o.body names) (flow_dated r flow h))

-- ---- another life of a node

less_dated : (old new : List Life) (v : NodeId) (f : FlowState) → ((u : NodeId) → u.0 ≢ v.0 → held_boot new u ≡ held_boot old u) → FlowDated old f
    → FlowDated new (flow_less v f)
less_dated old new v f others h = elim (cases_Bool (is_end v (ends f))) [
  | inl t ↦ let none = none_dated new (ends f) in rw t none
  | inr t ↦
      let apart = neither (f.src.0 == v.0) (f.dst.0 == v.0) t in
      let s = others f.src (λ same. absurd (let wrong : true ≡ false = sym (eq-eqb f.src.0 v.0 same) ∙ apart.0 in cc)) in
      let d = others f.dst (λ same. absurd (let wrong : true ≡ false = sym (eq-eqb f.dst.0 v.0 same) ∙ apart.1 in cc)) in
      let done : FlowDated new f = record {
        messages = all_weaker (λ o. NamesHeld old (ends f) o.body) (λ o. NamesHeld new (ends f) o.body) f.at.list
            (λ o. still_held old new (ends f) s d o.body) h.messages;
        ack = kept f.ack (λ o. still_held old new (ends f) s d o.body) h.ack;
      } in
      rw t done
]
  where
    neither : (a b : Bool) → (a || b) ≡ false → (a ≡ false) × (b ≡ false)
    neither false false e = (refl, refl)
    neither false true e = absurd (cc)
    neither true b e = absurd (cc)

    kept : {P Q : Kept → Type 0} (ack : Option Kept) → ((o : Kept) → P o → Q o) → IfSome ack P → IfSome ack Q
    kept None less is = tt
    kept (Some o) less is = less o is

all_less : (old new : List Life) (v : NodeId) (fs : List FlowState) → ((u : NodeId) → u.0 ≢ v.0 → held_boot new u ≡ held_boot old u) → All (FlowDated old) fs
    → All (FlowDated new) (map (flow_less v) fs)
all_less old new v [] others h = All-nil (FlowDated new)
all_less old new v (f ∷ fs) others h =
    All-cons (FlowDated new) (flow_less v f) (map (flow_less v) fs) (less_dated old new v f others (All-head (FlowDated old) f fs h))
    (all_less old new v fs others (All-tail (FlowDated old) f fs h))

-- ---- the flows of both kinds

-- of plain ones, and of those on paths
pub dated_of : (p : Parts) → All (FlowDated p.lives) p.rel.flows → All (FlowDated p.lives) p.kflow.flows.flows → AreDated p
dated_of p plain paths = of_both (λ kind r. All (FlowDated p.lives) r.flows) p plain paths

-- where those of one kind change
dated_with : (kind : FlowKind) (r : RelState) (p : Parts) → All (FlowDated p.lives) r.flows → AreDated p → AreDated (with_flows kind r p)
dated_with kind r p new old =
    subst (λ (lives : List Life). (k : FlowKind) → All (FlowDated lives) (flows_of k (with_flows kind r p)).flows) (sym (lives_beside kind r p))
    (of_one (λ k r. All (FlowDated p.lives) r.flows) kind r p new old)

-- ---- pieces

piece_dated : (arts : Arts) (at : Arrival) (p : Parts) (piece : Piece) → AreDated p → AreDated (handle arts at p piece).parts
piece_dated arts at p (WeightPiece o) h =
    cond_either AreDated (is_new (items.Weight (weight_answer (is_signed arts at.fixed o) (offer_to at.fixed.me p.weights o.body))))
    (record p { weights = held p.weights o }) p (dated_of (record p { weights = held p.weights o }) (h Plain) (h Paths)) h
piece_dated arts at p (PrioAckPiece number) h = dated_of (handle arts at p (PrioAckPiece number)).parts (h Plain) (h Paths)
piece_dated arts at p (PrioPiece number o) h =
    let answer = prio_answer (is_signed arts at.fixed o) (is_dated p.lives o.body) (judge_prio p.prio o.body at.now) in
    let admitted = record p { prio = admit_prio p.prio o (Some at.from) } in
    heard answer (cond (is_new (items.Prio answer)) admitted p)
    (cond_either AreDated (is_new (items.Prio answer)) admitted p (dated_of admitted (h Plain) (h Paths)) h)
  where
    heard : (answer : PrioAnswer) (q : Parts) → AreDated q → AreDated (heard_where answer at.from number q)
    heard prios.New q u = dated_of (heard_where prios.New at.from number q) (u Plain) (u Paths)
    heard prios.Seen q u = dated_of (heard_where prios.Seen at.from number q) (u Plain) (u Paths)
    heard prios.BadEnd q u = u
    heard prios.Epoch q u = u
    heard prios.Expired q u = u
    heard prios.BadSig q u = u
piece_dated arts at p (ReportPiece kind flow sboot dboot base have) h =
    let r = reported (flows_of kind p) at.from flow base have in
    cond_either AreDated (are_held p.lives flow sboot dboot) (with_flows kind r p) p
    (dated_with kind r p (reported_dated p.lives (flows_of kind p) at.from flow base have (h kind)) h) h
piece_dated arts at p (AckPiece kind flow o) h =
    let right = is_signed arts at.fixed o in
    let dated = is_dated p.lives o.body in
    let r = flows_of kind p in
    let j = judge_ack_of r flow o.body in
    cond_where AreDated (is_new (ack_item kind (ack_answer right dated j))) (with_flows kind (admit_ack r o) p) p
    (λ new.
    let said = flow_said o.body in
    let is = judged.new_ack kind right dated j new in
    let names = names_held p.lives o.body (ack_of_flow r flow o.body is.1) is.2 in
    dated_with kind (admit_ack r o) p
    (with_dated p.lives r said (acknowledged_by (flow_in r.flows said) o) (h kind)
    (acked_dated p.lives (flow_in r.flows said) o (of_row p.lives r o.body names) (flow_dated p.lives r said (h kind)))) h)
    (λ old. h)
piece_dated arts at p (RelPiece kind flow o) h =
    let right = is_signed arts at.fixed o in
    let dated = is_dated p.lives o.body in
    let over = came_over p.kflow at.from o.body in
    let r = flows_of kind p in
    let j = judge_rel_of r flow o.body in
    cond_where AreDated (is_new (rel_item kind (rel_answer right dated over j))) (with_flows kind (admit_rel r o) p) p
    (λ new.
    let is = judged.new_rel kind right dated over j new in
    dated_with kind (admit_rel r o) p (admit_dated p.lives r o (names_held p.lives o.body (rel_of_flow r flow o.body is.1) is.2) (h kind)) h)
    (λ old. h)
piece_dated arts at p (EpochPiece o) h =
    cond_where AreDated (is_new (items.Epoch (epoch_answer (is_signed arts at.fixed o) (judge_epoch at.fixed.me p.lives o.body)))) (met p o) p
    (λ new.
    let others = (start_follows arts at p o new).others in
    let v = origin_said o.body in
    dated_of (met p o) (all_less p.lives (met p o).lives v p.rel.flows others (h Plain))
    (all_less p.lives (met p o).lives v p.kflow.flows.flows others (h Paths))) (λ old. h)

pieces_dated : (arts : Arts) (at : Arrival) (p : Parts) (pieces : List Piece) → AreDated p → AreDated (handle_all arts at p pieces).parts
pieces_dated arts at p [] h = h
pieces_dated arts at p (piece ∷ pieces) h = pieces_dated arts at (handle arts at p piece).parts pieces (piece_dated arts at p piece h)

greeted_dated : (epochs risen : Bool) (v : NodeId) (p : Parts) → AreDated p → AreDated (greeted epochs risen v p)
greeted_dated true true v p h = dated_of (greeted true true v p) (h Plain) (h Paths)
greeted_dated true false v p h = h
greeted_dated false risen v p h = h

-- ---- another version of the topology

pub closed_dated : (p : Parts) (least : List ℕ) (gone : List NodeId) → AreDated p → AreDated (closed p least gone)
closed_dated p least gone h =
    dated_of (closed p least gone) (all_map (FlowDated p.lives) (FlowDated p.lives) (ended_where gone) one p.rel.flows (h Plain))
    (all_map (FlowDated p.lives) (FlowDated p.lives) (ended_where gone) one p.kflow.flows.flows (h Paths))
  where
    one : (f : FlowState) → FlowDated p.lives f → FlowDated p.lives (ended_where gone f)
    one f is = cond_either (FlowDated p.lives) (f.active && is_over gone (ends f)) (ended f) f
        (record { messages = All-nil (λ o. NamesHeld p.lives (ends f) o.body); ack = tt }) is

-- ---- steps

kept_dated : {X : Type 0} (r : Option X) (n m : NodeState) → AreDated n.parts → AreDated m.parts → AreDated (kept_or r n m).parts
kept_dated None n m old new = new
kept_dated (Some x) n m old new = old

-- a poll
polled_dated : (n : NodeState) (v : NodeId) → AreDated n.parts → AreDated (polled n.fixed n.parts v)
polled_dated n v h =
    dated_of (polled n.fixed n.parts v) (served_dated n.parts.lives n.parts.rel v (h Plain)) (served_dated n.parts.lives n.parts.kflow.flows v (h Paths))

-- an acknowledgement names the boots that the node holds
names_due : (kind : FlowKind) (lives : List Life) (a : Ack) → NamesHeld lives (flow_said (ack_body kind (dated lives a))) (ack_body kind (dated lives a))
names_due Plain lives a = record { from = refl; to = refl; source = refl; end = refl }
names_due Paths lives a = record { from = refl; to = refl; source = refl; end = refl }

-- the node signs what is due
signs_dated : (arts : Arts) (kind : FlowKind) (n : NodeState) (o : Option Ack) → due_now kind n ≡ o → (r : Option SendRefused) → AreDated n.parts
    → AreDated (settled_by arts kind n o r).parts
signs_dated arts kind n None e r h = h
signs_dated arts kind n (Some ack) e (Some refusal) h = h
signs_dated arts kind n (Some ack) e None h =
    let d = dated_due kind n ack e in
    let lives = n.parts.lives in
    let o = signed_now arts n (ack_body kind ack) in
    let names = subst (λ (a : Ack). NamesHeld lives (flow_said (ack_body kind a)) (ack_body kind a)) (sym d.is) (names_due kind lives d.raw) in
    dated_with kind (settled (flows_of kind n.parts) o) n.parts (settled_dated lives (flows_of kind n.parts) o names (h kind)) h

-- a message of a client is kept
pushed_in_dated : (lives : List Life) (r : RelState) (o : Kept) → NamesHeld lives (flow_said o.body) o.body → All (FlowDated lives) r.flows
    → All (FlowDated lives) (pushed_in r o).flows
pushed_in_dated lives r o names h =
    let said = flow_said o.body in
    let f = flow_in r.flows said in
    with_dated lives r said (pushed f o) h (pushed_dated lives f o (of_row lives r o.body names) (flow_dated lives r said h))

-- a client takes one
took_flow_dated : (lives : List Life) (r : RelState) (src : NodeId) → All (FlowDated lives) r.flows → All (FlowDated lives) (took r src).flows
took_flow_dated lives r src h =
    let flow = flow_to_me r src in
    with_dated lives r flow (after_take (flow_in r.flows flow)) h (took_dated lives (flow_in r.flows flow) (flow_dated lives r flow h))

pub step_dated : (arts : Arts) (n : NodeState) (input : Input) (output : Output) (new : NodeState) → NodeStep arts n input output new
    → AreDated n.parts → AreDated new.parts
step_dated arts n (Poll v) output new s h =
    subst (λ (m : NodeState). AreDated m.parts) (sym s.1)
    (kept_dated (call_refusal n v) n (called n (with_link n v (advanced (link_in n v))) (parts_after n v)) h
    (cond_either AreDated (is_served n v) (polled n.fixed n.parts v) n.parts (polled_dated n v h) h))
step_dated arts n (Datagram v bytes) output new s h =
    let left = before_document arts n v bytes in
    let first : AreDated left.parts =
    pieces_dated arts (arrival_at n v) (parts_met arts n v bytes) (pieces_at arts n v bytes)
    (greeted_dated n.fixed.epochs (rises arts n v bytes) v n.parts h) in
    subst (λ (m : NodeState). AreDated m.parts) (sym s.1) (kept_dated (call_refusal n v) n (read_by arts left (document_at arts n v bytes)) h
    (reading arts left (document_at arts n v bytes) (λ m told. AreDated m.parts) first
    (λ document d is reads by. closed_dated left.parts (weights_in d.topology.edges) (removed_of (nodes_of d.topology) d.topology.edges) first)))
step_dated arts n (Tick now) output new s h =
    let first = signs_dated arts Plain (at_time n now) (due_now Plain n) refl (signer_refusal n.signer)
    (dated_of (at_time n now).parts (h Plain) (h Paths)) in
    subst (λ (m : NodeState). AreDated m.parts) (sym s.1)
    (signs_dated arts Paths (after_plain arts n now) (due_now Paths n) (still_due arts (at_time n now) (due_now Plain n) (signer_refusal n.signer))
    (second_refusal arts n now) first)
step_dated arts n (SendRel dst payload) output new s h =
    let o = signed_now arts n (rel_body n dst payload) in
    subst (λ (m : NodeState). AreDated m.parts) (sym s.1) (kept_dated (rel_refusal n dst) n _ h
    (dated_with Plain (pushed_in n.parts.rel o) n.parts
    (pushed_in_dated n.parts.lives n.parts.rel o (record { from = refl; to = refl; source = refl; end = refl }) (h Plain)) h))
step_dated arts n (SendPrio m) output new s h =
    subst (λ (k : NodeState). AreDated k.parts) (sym s.new_is) (kept_dated (send_prio_refusal n m s.choice) n _ h
    (dated_of (record n.parts { prio = admit_prio n.parts.prio (own_prio arts n m s.choice) None }) (h Plain) (h Paths)))
step_dated arts n (SetWeight v weight) output new s h =
    subst (λ (m : NodeState). AreDated m.parts) (sym s.1) (kept_dated (weight_refusal n v weight) n _ h
    (dated_of (record n.parts { weights = held n.parts.weights (signed_now arts n (weight_body n v weight)) }) (h Plain) (h Paths)))
step_dated arts n (TakeRel src) output new s h =
    subst (λ (m : NodeState). AreDated m.parts) (sym s.1)
    (dated_with Plain (took n.parts.rel src) n.parts (took_flow_dated n.parts.lives n.parts.rel src (h Plain)) h)
step_dated arts n TakePrio output new s h = subst (λ (m : NodeState). AreDated m.parts) (sym s.1) (dated_of (after_take_prio n).parts (h Plain) (h Paths))
step_dated arts n (SendKrel m) output new s h =
    let o = signed_now arts n (krel_sends n m s.choice) in
    subst (λ (k : NodeState). AreDated k.parts) (sym s.new_is) (kept_dated (send_krel_refusal n m s.choice) n _ h
    (dated_of (record n.parts { kflow = kflow.pushed n.parts.kflow o m.paths }) (h Plain)
    (pushed_in_dated n.parts.lives n.parts.kflow.flows o (record { from = refl; to = refl; source = refl; end = refl }) (h Paths))))
step_dated arts n (TakeKrel src) output new s h =
    subst (λ (m : NodeState). AreDated m.parts) (sym s.1)
    (dated_with Paths (took n.parts.kflow.flows src) n.parts (took_flow_dated n.parts.lives n.parts.kflow.flows src (h Paths)) h)
step_dated arts n (Publish document) output new s h =
    subst (λ (m : NodeState). AreDated m.parts) (sym s.1) (publishing arts n document (λ m told. AreDated m.parts) h
    (λ d reads by. closed_dated n.parts (weights_in d.topology.edges) (removed_of (nodes_of d.topology) d.topology.edges) h))

-- ---- the start

no_flows_dated : (lives : List Life) (flows : List Flow) → All (FlowDated lives) (map no_flow flows)
no_flows_dated lives [] = All-nil (FlowDated lives)
no_flows_dated lives (f ∷ flows) = All-cons (FlowDated lives) (no_flow f) (map no_flow flows) (none_dated lives f) (no_flows_dated lives flows)

-- nothing is kept at the start, whatever boots are held then
pub bare_dated : (f : Fixed) (buffer store : ℕ) (lives : List Life) → AreDated (record (bare_parts f buffer store) { lives = lives })
bare_dated f buffer store lives =
    let none = no_flows_dated lives (pairs_of (nodes_of f.topology)) in
    dated_of (record (bare_parts f buffer store) { lives = lives }) none none
