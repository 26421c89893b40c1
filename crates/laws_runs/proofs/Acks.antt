-- Where something is acknowledged, the node keeps the acknowledgement of exactly that number, and each step keeps it so.
use Rattle.laws_node.proofs.Adopting.{IsAdopted, publishing, reading}
use Rattle.laws_node.proofs.FlowKinds.{ack_numbered, ack_said}
use Rattle.laws_node.proofs.Ticking.{still_due}
use Rattle.laws_node.proofs.Changing.{still_removed}
use Rattle.laws_node.proofs.Priority.{all_map}
use Rattle.laws_node.proofs.Withdrawing.{left_obeys}
use Rattle.laws_node.specs.Withdrawals.{Obeys}
use Rattle.sp_rules.specs.Topologies.{removed_of, weights_in}
use Rattle.sp_rules.specs.Link.{advanced}
use Rattle.sp_rules.specs.Polls.{is_served, parts_after, polled}
use Rattle.std.proofs.Common.{◌≡◌, ◌≤◌, ◌<◌, ℕ, Bool, true, false, cond, List, [], ◌∷◌, length, drop, map, Option, Some, None, refl, sym, subst, ◌∙◌, arith}
use Rattle.std.proofs.Common.{◌&&◌, ap}
use Rattle.std.specs.Prelude.{All, not, nat_le, ◌||◌}
use Rattle.std.specs.Option.{option_and_then, option_map}
use Rattle.std.proofs.lemmas.List.Elements.{All-cons, All-nil}
use Rattle.std.proofs.lemmas.Bool.{leb-false}
use Rattle.std.proofs.lemmas.List.{length-append}
use Rattle.sp_base.specs.declared.id.Flow.{Flow}
use Rattle.sp_base.specs.declared.id.NodeId.{NodeId}
use Rattle.sp_msg.specs.Bodies.{payload_of}
use Rattle.sp_msg.specs.declared.body.Ack.{Ack}
use Rattle.sp_msg.specs.declared.body.Body.{Body}
use Rattle.sp_msg.specs.declared.body.Body.TheVariants as bodies
use Rattle.sp_msg.specs.declared.kept.Kept.{Kept}
use Rattle.sp_msg.specs.declared.refused.SendRefused.{SendRefused}
use Rattle.sp_rules.proofs.FlowJudged.{new_ack, same_flow}
use Rattle.sp_rules.specs.Answers.{ack_answer, epoch_answer, is_new, prio_answer, weight_answer}
use Rattle.sp_rules.specs.Arts.{Arts, Document}
use Rattle.sp_rules.specs.Arrivals.{arrival_at, before_document, document_at, greeted, parts_met, pieces_in, pieces_where, read_by, reply_at, rises}
use Rattle.sp_rules.specs.Arrivals.{sections_in}
use Rattle.sp_rules.specs.Flow.{FlowState, acknowledged_by, after_take, concluded, ended, ends, flow_said, is_flow, no_flow, number_said, pushed, received}
use Rattle.sp_rules.specs.Handle.{Arrival, ack_item, handle, handle_all, met, offer_to, prio_handled, rel_answer_to, rel_item}
use Rattle.sp_rules.specs.Kflow as kflow
use Rattle.sp_rules.specs.Kflow.{ack_body}
use Rattle.sp_rules.specs.KflowSends.{krel_sends, send_krel_refusal}
use Rattle.sp_rules.specs.Lives.{are_held, is_dated, judge_epoch, origin_said}
use Rattle.sp_rules.specs.Node.{NodeState, call_refusal, called, kept_or, link_in, signed_now, with_link}
use Rattle.sp_rules.specs.Parts.{Fixed, Parts, bare_parts, empty_parts, flows_of, is_signed, nodes_of, with_flows}
use Rattle.sp_rules.specs.Parts as parts
use Rattle.sp_rules.specs.Pieces.{Piece, AckPiece, PrioAckPiece, PrioPiece, RelPiece, ReportPiece, WeightPiece, EpochPiece}
use Rattle.sp_rules.specs.Rel.{closed, ended_where, is_one_of, is_over, pairs_of, RelState, admit_ack, admit_rel, ack_of, are_ends, due_place, flow_at, flow_in}
use Rattle.sp_rules.specs.Rel.{flow_less, flow_to_me, is_end, is_to, judge_ack, judge_ack_of, judge_rel_of, next_place, peer_in, plain_ack, pushed_in, reported}
use Rattle.sp_rules.specs.Rel.{served, served_at, settled, settled_at, told, took, with_flow, with_peer}
use Rattle.sp_rules.specs.Sends.{after_take_prio, own_prio, rel_body, rel_refusal, send_prio_refusal, signer_refusal, weight_body, weight_refusal}
use Rattle.sp_rules.specs.Steps.{Input, NodeStep, Output, Poll, Datagram, Tick, SendRel, SendPrio, SetWeight, TakeRel, TakePrio, SendKrel, TakeKrel, Publish}
use Rattle.sp_rules.specs.Ticks.{after_plain, at_time, due_now, second_refusal, settled_by}
use Rattle.sp_rules.specs.Prio.{admit_prio, judge_prio}
use Rattle.sp_rules.specs.Weights.{held}
use Rattle.sp_rules.specs.declared.kflow.FlowKind.{FlowKind}
use Rattle.sp_rules.specs.declared.kflow.FlowKind.TheVariants.{Plain, Paths}
use Rattle.sp_rules.specs.declared.answers.Item.TheVariants as items
use Rattle.sp_rules.specs.declared.answers.PrioAnswer.{PrioAnswer}
use Rattle.sp_rules.specs.declared.answers.PrioAnswer.TheVariants as prios
use Rattle.sp_rules.specs.declared.rel.AckJudged.{AckJudged}
use Rattle.sp_rules.specs.declared.rel.AckJudged.TheVariants as acks
use Rattle.laws_runs.specs.Signs.{FlowAck}
use Rattle.laws_node.proofs.Handles as judged
use Rattle.laws_node.proofs.Reliable.{dated_due}
use Rattle.laws_node.proofs.Tables.{all_first, all_replace, cond_either, cond_where}
use Rattle.laws_runs.proofs.EachKind.{of_both, of_one}

abbrev pub RelAck : RelState → Type 0
RelAck r = All (FlowAck r.removed) r.flows

pub none_ack : (removed : List NodeId) (flow : Flow) → FlowAck removed (no_flow flow)
none_ack removed flow = record { sound = omega arith; ack = λ some. absurd (omega (arith, some)); inbox = λ on. omega arith }

-- what holds of the acknowledgement of all flows holds of each one's
pub flow_ack : (r : RelState) (flow : Flow) → RelAck r → FlowAck r.removed (flow_in r.flows flow)
flow_ack r flow h = all_first (FlowAck r.removed) (is_flow flow) (no_flow flow) r.flows h (none_ack r.removed flow)

-- ---- one flow

same_ack : (gone : List NodeId) (f g : FlowState) → ends g ≡ ends f → g.ack ≡ f.ack → g.at.base ≡ f.at.base → f.at.have ≤ g.at.have
    → (length f.inbox ≤ f.at.have → length g.inbox ≤ g.at.have) → FlowAck gone f
    → FlowAck gone g
same_ack gone f g same ack base have inbox h = record {
  inbox = λ on. inbox (h.inbox (sym (ap (is_over gone) same) ∙ on));
  sound = let s = h.sound in omega (arith, s, base, have);
  ack = λ some. let n = h.ack (omega (arith, some, base)) in record { ack = n.ack; kept = ack ∙ n.kept; number = n.number ∙ sym base };
}

acked_ack : (gone : List NodeId) (f : FlowState) (o : Kept) → f.at.base < number_said o.body → FlowAck gone f → FlowAck gone (acknowledged_by f o)
acked_ack gone f o above h =
    record {
      sound = let s = h.sound in omega (arith, s);
      ack = λ some. record { ack = o; kept = refl; number = omega (arith, above) };
      inbox = λ on. let i =
          h.inbox on in omega (arith, i);
    }

concluded_ack : (gone : List NodeId) (f : FlowState) (o : Kept) → number_said o.body ≡ f.at.have → FlowAck gone f → FlowAck gone (concluded f o)
concluded_ack gone f o is h =
    record {
      sound = let s = h.sound in omega (arith, s);
      ack =
          λ some. record { ack = o; kept = refl; number = let s = h.sound in omega (arith, s, is) };
      inbox = λ on. let i = h.inbox on in omega (arith, i);
    }

shorter : (xs : List (List ℕ)) → length (drop 1 xs) ≤ length xs
shorter [] = omega arith
shorter (y ∷ xs) = omega arith

-- ---- the part

with_ack : (r : RelState) (flow : Flow) (g : FlowState) → RelAck r → FlowAck r.removed g → RelAck (with_flow r flow g)
with_ack r flow g h one = all_replace (FlowAck r.removed) (is_flow flow) g r.flows h one

admit_rel_ack : (r : RelState) (o : Kept) → RelAck r → RelAck (admit_rel r o)
admit_rel_ack r o h =
    let flow = flow_said o.body in
    let f = flow_in r.flows flow in
    cond_either (λ (g : FlowState). RelAck (with_flow r flow g)) (is_to r flow) (received f (payload_of o.body)) (pushed f o)
    (with_ack r flow (received f (payload_of o.body)) h
    (same_ack r.removed f (received f (payload_of o.body)) refl refl refl (omega arith)
    (λ i. omega (arith, i, length-append f.inbox (payload_of o.body ∷ []))) (flow_ack r flow h)))
    (with_ack r flow (pushed f o) h (same_ack r.removed f (pushed f o) refl refl refl (omega arith) (λ i. omega (arith, i)) (flow_ack r flow h)))

passes_old : (e t : Bool) (x : AckJudged) → e ≡ true → cond (not e) acks.BadEnd (cond t acks.Old x) ≡ acks.New → t ≡ false
passes_old true false x is new = refl
passes_old true true x is new = absurd (let f : acks.Old ≡ acks.New = new in cc)
passes_old false t x is new = absurd (let f : false ≡ true = is in cc)

above_ack : (r : RelState) (flow : Flow) (a : Ack) → judge_ack r flow a ≡ acks.New → (flow_in r.flows (record { src = a.src; dst = a.dst })).at.base < a.seq
above_ack r flow a new =
    let n = new_ack r flow a new in
    let low = passes_old (are_ends r flow a.src a.dst) (nat_le a.seq (flow_in r.flows flow).at.base) _ n.ends new in
    subst (λ (fl : Flow). (flow_in r.flows fl).at.base < a.seq) (same_flow r flow a.src a.dst n.ends) (leb-false a.seq (flow_in r.flows flow).at.base low)

-- what is said of a body that is a new acknowledgement
above_new : (r : RelState) (flow : Flow) (body : Body) → judge_ack_of r flow body ≡ acks.New → (flow_in r.flows (flow_said body)).at.base < number_said body
above_new r flow (bodies.Ack a) new = above_ack r flow a new
above_new r flow (bodies.Kack a) new = above_ack r flow (plain_ack a) new
above_new r flow (bodies.Rel a) new = absurd (let e : acks.BadEnd ≡ acks.New = new in cc)
above_new r flow (bodies.Prio a) new = absurd (let e : acks.BadEnd ≡ acks.New = new in cc)
above_new r flow (bodies.Weight a) new = absurd (let e : acks.BadEnd ≡ acks.New = new in cc)
above_new r flow (bodies.Krel a) new = absurd (let e : acks.BadEnd ≡ acks.New = new in cc)
above_new r flow (bodies.Epoch a) new = absurd (let e : acks.BadEnd ≡ acks.New = new in cc)

-- a new acknowledgement is kept
admit_ack_ack : (r : RelState) (flow : Flow) (o : Kept) → judge_ack_of r flow o.body ≡ acks.New → RelAck r → RelAck (admit_ack r o)
admit_ack_ack r flow o new h =
    let said = flow_said o.body in
    let f = flow_in r.flows said in
    with_ack r said (acknowledged_by f o) h (acked_ack r.removed f o (above_new r flow o.body new) (flow_ack r said h))

pub reported_ack : (r : RelState) (v : NodeId) (flow : Flow) (base have : ℕ) → RelAck r → RelAck (reported r v flow base have)
reported_ack r v flow base have h = cond_either RelAck (flow_in r.flows flow).active (with_peer r v (told (peer_in r.peers v) flow base have)) r h h

served_ack : (r : RelState) (v : NodeId) → RelAck r → RelAck (served r v)
served_ack r v h = go (next_place r v)
  where
    go : (place : Option ℕ) → RelAck (served_at r v place)
    go None = h
    go (Some place) = h

settled_ack : (r : RelState) (o : Kept) → number_said o.body ≡ (flow_in r.flows (flow_said o.body)).at.have → RelAck r → RelAck (settled r o)
settled_ack r o is h = go (due_place r)
  where
    go : (place : Option ℕ) → RelAck (settled_at r o place)
    go None = h
    go (Some place) = let flow = flow_said o.body in let f = flow_in r.flows flow in
        with_ack r flow (concluded f o) h (concluded_ack r.removed f o is (flow_ack r flow h))

took_ack : (r : RelState) (src : NodeId) → RelAck r → RelAck (took r src)
took_ack r src h = let flow = flow_to_me r src in let f = flow_in r.flows flow in
    with_ack r flow (after_take f) h
    (same_ack r.removed f (after_take f) refl refl refl (omega arith) (λ i. let less = shorter f.inbox in omega (arith, i, less)) (flow_ack r flow h))

sent_ack : (r : RelState) (o : Kept) → RelAck r → RelAck (pushed_in r o)
sent_ack r o h = let flow = flow_said o.body in let f = flow_in r.flows flow in
    with_ack r flow (pushed f o) h (same_ack r.removed f (pushed f o) refl refl refl (omega arith) (λ i. omega (arith, i)) (flow_ack r flow h))

-- a flow that begins anew
less_ack : (gone : List NodeId) (v : NodeId) (f : FlowState) → FlowAck gone f → FlowAck gone (flow_less v f)
less_ack gone v f h = cond_either (FlowAck gone) (is_end v (ends f)) (no_flow (ends f)) f (none_ack gone (ends f)) h

less_all_ack : (gone : List NodeId) (v : NodeId) (fs : List FlowState) → All (FlowAck gone) fs → All (FlowAck gone) (map (flow_less v) fs)
less_all_ack gone v fs h = all_map (FlowAck gone) (FlowAck gone) (flow_less v) (less_ack gone v) fs h

-- ---- the flows of both kinds

-- what holds of the acknowledgements of each kind
abbrev pub AllAcks : Parts → Type 0
AllAcks p = (kind : FlowKind) → RelAck (flows_of kind p)

-- where flows of a kind change
with_acks : (kind : FlowKind) (r : RelState) (p : Parts) → RelAck r → AllAcks p → AllAcks (with_flows kind r p)
with_acks = of_one (λ kind r. RelAck r)

-- of plain ones, and of those on paths
pub acks_of : (p : Parts) → RelAck p.rel → RelAck p.kflow.flows → AllAcks p
acks_of = of_both (λ kind r. RelAck r)

greeted_ack : (epochs risen : Bool) (v : NodeId) (p : Parts) → AllAcks p → AllAcks (greeted epochs risen v p)
greeted_ack true true v p h = acks_of (greeted true true v p) (h Plain) (h Paths)
greeted_ack true false v p h = h
greeted_ack false risen v p h = h

-- another life of a node
met_ack : (p : Parts) (o : Kept) → AllAcks p → AllAcks (met p o)
met_ack p o h =
    acks_of (met p o) (less_all_ack p.rel.removed (origin_said o.body) p.rel.flows (h Plain))
    (less_all_ack p.kflow.flows.removed (origin_said o.body) p.kflow.flows.flows (h Paths))

-- a poll
polled_ack : (n : NodeState) (v : NodeId) → AllAcks n.parts → AllAcks (polled n.fixed n.parts v)
polled_ack n v h = acks_of (polled n.fixed n.parts v) (served_ack n.parts.rel v (h Plain)) (served_ack n.parts.kflow.flows v (h Paths))

-- ---- pieces

piece_ack : (arts : Arts) (at : Arrival) (p : Parts) (piece : Piece) → AllAcks p → AllAcks (handle arts at p piece).parts
piece_ack arts at p (WeightPiece o) h =
    cond_either AllAcks (is_new (items.Weight (weight_answer (is_signed arts at.fixed o) (offer_to at.fixed.me p.weights o.body))))
    (record p { weights = held p.weights o }) p (acks_of (record p { weights = held p.weights o }) (h Plain) (h Paths)) h
piece_ack arts at p (PrioAckPiece number) h = acks_of (handle arts at p (PrioAckPiece number)).parts (h Plain) (h Paths)
piece_ack arts at p (PrioPiece number o) h = go (prio_answer (is_signed arts at.fixed o) (is_dated p.lives o.body) (judge_prio p.prio o.body at.now))
  where
    go : (answer : PrioAnswer) → AllAcks (prio_handled at.from answer number o p).parts
    go prios.New = acks_of (prio_handled at.from prios.New number o p).parts (h Plain) (h Paths)
    go prios.Seen = acks_of (prio_handled at.from prios.Seen number o p).parts (h Plain) (h Paths)
    go prios.BadEnd = h
    go prios.Expired = h
    go prios.BadSig = h
    go prios.Epoch = h
piece_ack arts at p (ReportPiece kind flow sboot dboot base have) h =
    let r = reported (flows_of kind p) at.from flow base have in
    cond_either AllAcks (are_held p.lives flow sboot dboot) (with_flows kind r p) p
    (with_acks kind r p (reported_ack (flows_of kind p) at.from flow base have (h kind)) h) h
piece_ack arts at p (AckPiece kind flow o) h =
    let right = is_signed arts at.fixed o in
    let dated = is_dated p.lives o.body in
    let r = flows_of kind p in
    let j = judge_ack_of r flow o.body in
    cond_where AllAcks (is_new (ack_item kind (ack_answer right dated j))) (with_flows kind (admit_ack r o) p) p
    (λ new. with_acks kind (admit_ack r o) p (admit_ack_ack r flow o (judged.new_ack kind right dated j new).1 (h kind)) h) (λ old. h)
piece_ack arts at p (RelPiece kind flow o) h =
    let r = flows_of kind p in
    cond_either AllAcks (is_new (rel_item kind (rel_answer_to arts at p (judge_rel_of r flow o.body) o))) (with_flows kind (admit_rel r o) p) p
    (with_acks kind (admit_rel r o) p (admit_rel_ack r o (h kind)) h) h
piece_ack arts at p (EpochPiece o) h =
    cond_either AllAcks (is_new (items.Epoch (epoch_answer (is_signed arts at.fixed o) (judge_epoch at.fixed.me p.lives o.body)))) (met p o) p (met_ack p o h) h

pub pieces_ack : (arts : Arts) (at : Arrival) (p : Parts) (pieces : List Piece) → AllAcks p → AllAcks (handle_all arts at p pieces).parts
pieces_ack arts at p [] h = h
pieces_ack arts at p (piece ∷ pieces) h = pieces_ack arts at (handle arts at p piece).parts pieces (piece_ack arts at p piece h)

-- ---- another version of the topology

pub over_less : (gone more : List NodeId) (fl : Flow) → ((u : NodeId) → is_one_of gone u ≡ true → is_one_of more u ≡ true) → is_over more fl ≡ false
    → is_over gone fl ≡ false
over_less gone more fl less off = go (is_one_of gone fl.src) refl (is_one_of gone fl.dst) refl (is_one_of more fl.src) refl (is_one_of more fl.dst) refl off
  where
    go : (a : Bool) → is_one_of gone fl.src ≡ a → (b : Bool) → is_one_of gone fl.dst ≡ b → (c : Bool) → is_one_of more fl.src ≡ c → (d : Bool)
        → is_one_of more fl.dst ≡ d
        → (c || d) ≡ false → (a || b) ≡ false
    go false one false two c three d four off = refl
    go true one b two true three d four off = absurd (cc)
    go true one b two false three d four off = absurd (let both : true ≡ false = sym (less fl.src one) ∙ three in cc)
    go false one true two true three d four off = absurd (cc)
    go false one true two false three true four off = absurd (cc)
    go false one true two false three false four off = absurd (let both : true ≡ false = sym (less fl.dst two) ∙ four in cc)

pub ended_ack : (gone more : List NodeId) → ((u : NodeId) → is_one_of gone u ≡ true → is_one_of more u ≡ true) → (f : FlowState) → FlowAck gone f
    → FlowAck more (ended_where more f)
ended_ack gone more less f h = go f.active (is_over more (ends f)) refl
  where
    go : (a b : Bool) → is_over more (ends f) ≡ b → FlowAck more (cond (a && b) (ended f) f)
    go true true over =
        record { sound = omega arith; ack = λ some. absurd (omega (arith, some)); inbox = λ off. absurd (let both : true ≡ false = sym over ∙ off in cc) }
    go true false over = record { sound = h.sound; ack = h.ack; inbox = λ off. h.inbox (over_less gone more (ends f) less off) }
    go false b over = record { sound = h.sound; ack = h.ack; inbox = λ off. h.inbox (over_less gone more (ends f) less off) }

pub closed_ack : (r : RelState) (more : List NodeId) → ((u : NodeId) → is_one_of r.removed u ≡ true → is_one_of more u ≡ true) → RelAck r
    → RelAck (closed r more)
closed_ack r more less h = all_map (FlowAck r.removed) (FlowAck more) (ended_where more) (ended_ack r.removed more less) r.flows h

-- who is removed under a version stays removed under the next
parts_closed_ack : (p : Parts) (least : List ℕ) (more : List NodeId)
    → ((kind : FlowKind) (u : NodeId) → is_one_of (flows_of kind p).removed u ≡ true → is_one_of more u ≡ true) → AllAcks p
    → AllAcks (parts.closed p least more)
parts_closed_ack p least more less h =
    acks_of (parts.closed p least more) (closed_ack p.rel more (less Plain) (h Plain)) (closed_ack p.kflow.flows more (less Paths) (h Paths))

-- who is removed in either kind stays so
pub still_gone : (arts : Arts) (n : NodeState) (d : Document) → IsAdopted arts n d → Obeys n → (kind : FlowKind) (u : NodeId)
    → is_one_of (flows_of kind n.parts).removed u ≡ true → is_one_of (removed_of (nodes_of d.topology) d.topology.edges) u ≡ true
still_gone arts n d by obeys Plain u gone = still_removed arts n d by obeys u gone
still_gone arts n d by obeys Paths u gone =
    still_removed arts n d by obeys u (subst (λ (these : List NodeId). is_one_of these u ≡ true) (obeys.kflow ∙ sym obeys.rel) gone)

-- ---- steps

kept_ack : {X : Type 0} (r : Option X) (n m : NodeState) → AllAcks n.parts → AllAcks m.parts → AllAcks (kept_or r n m).parts
kept_ack None n m old new = new
kept_ack (Some x) n m old new = old

-- the acknowledgement that is due is of all that came
due_is : (r : RelState) (a : Ack) (o : Option Flow) → option_map (ack_of r) o ≡ Some a → a.seq ≡ (flow_in r.flows (record { src = a.src; dst = a.dst })).at.have
due_is r a None e = absurd (let f : None ≡ Some a = e in cc)
due_is r a (Some fl) e = let f : Some (ack_of r fl) ≡ Some a = e in let is : ack_of r fl ≡ a = cc in
    subst (λ (b : Ack). b.seq ≡ (flow_in r.flows (record { src = b.src; dst = b.dst })).at.have) is refl

-- the node signs what is due
signs_due : (arts : Arts) (kind : FlowKind) (n : NodeState) (o : Option Ack) → due_now kind n ≡ o → (r : Option SendRefused) → AllAcks n.parts
    → AllAcks (settled_by arts kind n o r).parts
signs_due arts kind n None e r h = h
signs_due arts kind n (Some ack) e (Some refusal) h = h
signs_due arts kind n (Some ack) e None h =
    let d = dated_due kind n ack e in
    let flows = flows_of kind n.parts in
    let o = signed_now arts n (ack_body kind ack) in
    let due = due_is flows d.raw (option_and_then (flow_at flows.flows) (due_place flows)) d.is_due in
    let number = subst (λ (a : Ack). a.seq ≡ (flow_in flows.flows (record { src = a.src; dst = a.dst })).at.have) (sym d.is) due in
    let said = ap (λ (fl : Flow). (flow_in flows.flows fl).at.have) (ack_said kind ack) in
    with_acks kind (settled flows o) n.parts (settled_ack flows o (ack_numbered kind ack ∙ number ∙ sym said) (h kind)) h

pub step_ack : (arts : Arts) (n : NodeState) (input : Input) (output : Output) (new : NodeState) → NodeStep arts n input output new → Obeys n
    → AllAcks n.parts → AllAcks new.parts
step_ack arts n (Poll v) output new s obeys h =
    subst (λ (m : NodeState). AllAcks m.parts) (sym s.1)
    (kept_ack (call_refusal n v) n (called n (with_link n v (advanced (link_in n v))) (parts_after n v)) h
    (cond_either AllAcks (is_served n v) (polled n.fixed n.parts v) n.parts (polled_ack n v h) h))
step_ack arts n (Datagram v bytes) output new s obeys h =
    let left = before_document arts n v bytes in
    let first : AllAcks left.parts =
    pieces_ack arts (arrival_at n v) (parts_met arts n v bytes) (pieces_where (reply_at arts n v bytes) (pieces_in n.fixed (sections_in arts n.fixed bytes)))
    (greeted_ack n.fixed.epochs (rises arts n v bytes) v n.parts h) in
    subst (λ (m : NodeState). AllAcks m.parts) (sym s.1) (kept_ack (call_refusal n v) n (read_by arts left (document_at arts n v bytes)) h
    (reading arts left (document_at arts n v bytes) (λ m caused. AllAcks m.parts) first
    (λ document d is reads by. parts_closed_ack left.parts (weights_in d.topology.edges) (removed_of (nodes_of d.topology) d.topology.edges)
    (still_gone arts left d by (left_obeys arts n v bytes obeys)) first)))
step_ack arts n (Tick now) output new s obeys h =
    let first = signs_due arts Plain (at_time n now) (due_now Plain n) refl (signer_refusal n.signer)
    (acks_of (at_time n now).parts (h Plain) (h Paths)) in
    subst (λ (m : NodeState). AllAcks m.parts) (sym s.1)
    (signs_due arts Paths (after_plain arts n now) (due_now Paths n) (still_due arts (at_time n now) (due_now Plain n) (signer_refusal n.signer))
    (second_refusal arts n now) first)
step_ack arts n (SendRel dst payload) output new s obeys h =
    let o = signed_now arts n (rel_body n dst payload) in
    subst (λ (m : NodeState). AllAcks m.parts) (sym s.1)
    (kept_ack (rel_refusal n dst) n _ h (with_acks Plain (pushed_in n.parts.rel o) n.parts (sent_ack n.parts.rel o (h Plain)) h))
step_ack arts n (SendPrio m) output new s obeys h =
    subst (λ (m : NodeState). AllAcks m.parts) (sym s.new_is)
    (kept_ack (send_prio_refusal n m s.choice) n _ h
    (acks_of (record n.parts { prio = admit_prio n.parts.prio (own_prio arts n m s.choice) None }) (h Plain) (h Paths)))
step_ack arts n (SetWeight v weight) output new s obeys h =
    subst (λ (m : NodeState). AllAcks m.parts) (sym s.1)
    (kept_ack (weight_refusal n v weight) n _ h
    (acks_of (record n.parts { weights = held n.parts.weights (signed_now arts n (weight_body n v weight)) }) (h Plain) (h Paths)))
step_ack arts n (TakeRel src) output new s obeys h =
    subst (λ (m : NodeState). AllAcks m.parts) (sym s.1) (with_acks Plain (took n.parts.rel src) n.parts (took_ack n.parts.rel src (h Plain)) h)
step_ack arts n TakePrio output new s obeys h =
    subst (λ (m : NodeState). AllAcks m.parts) (sym s.1) (acks_of (after_take_prio n).parts (h Plain) (h Paths))
step_ack arts n (SendKrel m) output new s obeys h =
    let o = signed_now arts n (krel_sends n m s.choice) in
    subst (λ (m : NodeState). AllAcks m.parts) (sym s.new_is)
    (kept_ack (send_krel_refusal n m s.choice) n _ h
    (acks_of (record n.parts { kflow = kflow.pushed n.parts.kflow o m.paths }) (h Plain) (sent_ack n.parts.kflow.flows o (h Paths))))
step_ack arts n (TakeKrel src) output new s obeys h =
    subst (λ (m : NodeState). AllAcks m.parts) (sym s.1)
    (with_acks Paths (took n.parts.kflow.flows src) n.parts (took_ack n.parts.kflow.flows src (h Paths)) h)
step_ack arts n (Publish document) output new s obeys h =
    subst (λ (m : NodeState). AllAcks m.parts) (sym s.1) (publishing arts n document (λ m caused. AllAcks m.parts) h
    (λ d reads by. parts_closed_ack n.parts (weights_in d.topology.edges) (removed_of (nodes_of d.topology) d.topology.edges)
    (still_gone arts n d by obeys) h))

-- ---- over a run

pub all_none : (flows : List Flow) → All (FlowAck []) (map no_flow flows)
all_none [] = All-nil (FlowAck [])
all_none (f ∷ flows) = All-cons (FlowAck []) (no_flow f) (map no_flow flows) (none_ack [] f) (all_none flows)

-- whatever is removed at the start
pub none_closed : (r : RelState) (more : List NodeId) → r.removed ≡ [] → RelAck r → RelAck (closed r more)
none_closed r more none h = closed_ack r more (λ u gone. absurd (let wrong : false ≡ true = ap (λ (x : List NodeId). is_one_of x u) (sym none) ∙ gone in cc)) h

-- where parts are empty, whatever is removed
pub bare_acks : (f : Fixed) (buffer store : ℕ) → AllAcks (empty_parts f buffer store)
bare_acks f buffer store =
    let bare = bare_parts f buffer store in
    let gone = removed_of (nodes_of f.topology) f.topology.edges in
    let none = all_none (pairs_of (nodes_of f.topology)) in
    acks_of (empty_parts f buffer store) (none_closed bare.rel gone refl none) (none_closed bare.kflow.flows gone refl none)
