-- No change of a node's parts changes their shape.
use Rattle.std.proofs.Common.{◌≡◌, ℕ, Bool, true, false, List, [], ◌∷◌, length, map, Option, Some, None, refl, ap, ap₂, ◌∙◌, arith, cond}
use Rattle.std.proofs.lemmas.Bool.Decides.{nat_tests}
use Rattle.sp_base.specs.declared.id.Flow.{Flow}
use Rattle.sp_base.specs.declared.id.NodeId.{NodeId}
use Rattle.sp_msg.specs.declared.kept.Kept.{Kept}
use Rattle.sp_rules.specs.Arrivals.{greeted}
use Rattle.sp_rules.specs.Answers.{ack_answer, epoch_answer, is_new, prio_answer, weight_answer}
use Rattle.sp_rules.specs.Arts.{Arts}
use Rattle.sp_rules.specs.declared.answers.Item.TheVariants as items
use Rattle.sp_rules.specs.Flow.{flow_said, pushed}
use Rattle.sp_rules.specs.Handle.{Arrival, ack_item, handle, handle_all, heard_where, met, offer_to, rel_answer_to, rel_item}
use Rattle.sp_rules.specs.Kflow as kflow
use Rattle.sp_rules.specs.Kflow.{KState, ack_body}
use Rattle.sp_rules.specs.Node.{NodeState}
use Rattle.sp_rules.specs.Parts as parts
use Rattle.sp_rules.specs.Parts.{Parts, as_neighbour, bare_parts, empty_parts, flows_of, is_signed, neighbours_of, nodes_of, place_of, with_flows}
use Rattle.sp_rules.specs.Pieces.{Piece, WeightPiece, PrioAckPiece, PrioPiece, ReportPiece, AckPiece, RelPiece, EpochPiece}
use Rattle.sp_rules.specs.Polls.{polled}
use Rattle.sp_rules.specs.Prio as prio
use Rattle.sp_rules.specs.Prio.{PrioState}
use Rattle.sp_rules.specs.PrioPeer as rows
use Rattle.sp_rules.specs.Rel as rel
use Rattle.sp_rules.specs.Rel.{RelState}
use Rattle.sp_rules.specs.Lives as lives
use Rattle.sp_rules.specs.Lives.{are_held, is_dated, is_life, judge_epoch, no_life, origin_said}
use Rattle.sp_rules.specs.declared.lives.Life.{Life}
use Rattle.sp_rules.specs.Weights as weights
use Rattle.sp_rules.specs.Weights.{WeightState}
use Rattle.sp_rules.specs.declared.answers.PrioAnswer.{PrioAnswer}
use Rattle.sp_rules.specs.declared.answers.PrioAnswer.TheVariants as prios
use Rattle.sp_rules.specs.declared.kflow.FlowKind.{FlowKind}
use Rattle.sp_rules.specs.declared.kflow.FlowKind.TheVariants.{Plain, Paths}
use Rattle.sp_rules.specs.declared.kflow.PathsTo.{PathsTo}
use Rattle.laws_node.proofs.Restarts.{blank_shape, restarted_shape}
use Rattle.laws_node.specs.Shapes.{KShape, PeerShape, PrioShape, RelShape, WeightShape}
use Rattle.laws_node.specs.Shapes.{kflow_shape, peer_shape, prio_shape, rel_peer_shape, rel_shape}
use Rattle.laws_node.specs.Shapes.{weight_shape}
use Rattle.laws_node.proofs.RowShapes.{acked_shape, acknowledged_shape, admitted_shape, carried_shape, cycles_length, held_shape}
use Rattle.laws_node.proofs.RowShapes.{moved_shape, new_rel_shape, one_flow, one_peer, one_rel_peer, replace_keyed, reported_shape}
use Rattle.laws_node.proofs.RowShapes.{each_same, same_node, served_by, set_length, with_windows}
use Rattle.laws_node.proofs.Withdrawals.{ends_closed}

-- ---- parts

pub record LivesShape : Type 0 where
  pub nodes : List NodeId
  pub origins : ℕ

abbrev pub lives_shape : Parts → LivesShape
lives_shape p = record { nodes = map (λ l. l.node) p.lives; origins = length p.origins }

pub record PartsShape : Type 0 where
  pub weights : WeightShape
  pub prio : PrioShape
  pub rel : RelShape
  pub kflow : KShape
  pub lives : LivesShape

abbrev pub parts_shape : Parts → PartsShape
parts_shape p =
    record { weights = weight_shape p.weights; prio = prio_shape p.prio; rel = rel_shape p.rel; kflow = kflow_shape p.kflow; lives = lives_shape p }

abbrev pub parts_with : LivesShape → WeightShape → PrioShape → RelShape → KShape → PartsShape
parts_with ls w s r f = record { weights = w; prio = s; rel = r; kflow = f; lives = ls }

pub of_weights : (p : Parts) (w : WeightState) → weight_shape w ≡ weight_shape p.weights → parts_shape (record p { weights = w }) ≡ parts_shape p
of_weights p w e = ap (λ (x : WeightShape). parts_with (lives_shape p) x (prio_shape p.prio) (rel_shape p.rel) (kflow_shape p.kflow)) e

pub of_prio : (p : Parts) (s : PrioState) → prio_shape s ≡ prio_shape p.prio → parts_shape (record p { prio = s }) ≡ parts_shape p
of_prio p s e = ap (λ (x : PrioShape). parts_with (lives_shape p) (weight_shape p.weights) x (rel_shape p.rel) (kflow_shape p.kflow)) e

pub of_rel : (p : Parts) (r : RelState) → rel_shape r ≡ rel_shape p.rel → parts_shape (record p { rel = r }) ≡ parts_shape p
of_rel p r e = ap (λ (x : RelShape). parts_with (lives_shape p) (weight_shape p.weights) (prio_shape p.prio) x (kflow_shape p.kflow)) e

pub of_kflow : (p : Parts) (f : KState) → kflow_shape f ≡ kflow_shape p.kflow → parts_shape (record p { kflow = f }) ≡ parts_shape p
of_kflow p f e = ap (λ (x : KShape). parts_with (lives_shape p) (weight_shape p.weights) (prio_shape p.prio) (rel_shape p.rel) x) e

-- flows on paths with other states of them
of_paths : (f : KState) (r : RelState) → rel_shape r ≡ rel_shape f.flows → kflow_shape (kflow.with_flows f r) ≡ kflow_shape f
of_paths f r e = ap (λ (x : RelShape). record { flows = x; edges = f.edges; nodes = map (λ row. row.dst) f.paths }) e

-- flows of either kind
pub of_flows : (kind : FlowKind) (p : Parts) (r : RelState) → rel_shape r ≡ rel_shape (flows_of kind p) → parts_shape (with_flows kind r p) ≡ parts_shape p
of_flows Plain p r e = of_rel p r e
of_flows Paths p r e = of_kflow p (kflow.with_flows p.kflow r) (of_paths p.kflow r e)

pub of_lives : (p : Parts) (ls : List Life) → map (λ (l : Life). l.node) ls ≡ map (λ (l : Life). l.node) p.lives
    → parts_shape (record p { lives = ls }) ≡ parts_shape p
of_lives p ls e =
    ap (λ (us : List NodeId). parts_with (record { nodes = us; origins = length p.origins }) (weight_shape p.weights) (prio_shape p.prio) (rel_shape p.rel)
    (kflow_shape p.kflow)) e

of_origins : (p : Parts) (os : List (Option ℕ)) → length os ≡ length p.origins → parts_shape (record p { origins = os }) ≡ parts_shape p
of_origins p os e =
    ap (λ (n : ℕ). parts_with (record { nodes = map (λ l. l.node) p.lives; origins = n }) (weight_shape p.weights) (prio_shape p.prio) (rel_shape p.rel)
    (kflow_shape p.kflow)) e

pub held_lives : (ls : List Life) (o : Kept) → map (λ (l : Life). l.node) (lives.held ls o) ≡ map (λ (l : Life). l.node) ls
held_lives ls o =
    replace_keyed (λ (l : Life). l.node) (is_life (origin_said o.body)) (record { node = origin_said o.body; object = Some o })
    (λ l is. same_node (origin_said o.body) l.node (grind (arith, nat_tests, is))) ls

-- what another life of a source, or of a neighbour, leaves
renewed_shape : (s : PrioState) (id : ℕ) → prio_shape (prio.renewed s id) ≡ prio_shape s
renewed_shape s id = go (prio.place_of s.nodes id)
  where
    go : (place : Option ℕ) → prio_shape (record s { windows = prio.windows_less s.windows place }) ≡ prio_shape s
    go None = refl
    go (Some place) = ap (λ (n : ℕ). with_windows s (map peer_shape s.peers) n) (set_length s.windows place [])

met_shape : (p : Parts) (o : Kept) → parts_shape (met p o) ≡ parts_shape p
met_shape p o =
    let q = prio.renewed p.prio (origin_said o.body).0 in
    let r = rel.restarted p.rel (origin_said o.body) in
    let one : Parts = record p { prio = q } in
    let two : Parts = record one { rel = r } in
    let f = rel.restarted p.kflow.flows (origin_said o.body) in
    let three : Parts = with_flows Paths f two in
    of_lives three (lives.held p.lives o) (held_lives p.lives o)
    ∙ (of_flows Paths two f (restarted_shape p.kflow.flows (origin_said o.body))
    ∙ (of_rel one r (restarted_shape p.rel (origin_said o.body)) ∙ of_prio p q (renewed_shape p.prio (origin_said o.body).0)))

pub greeted_shape : (epochs risen : Bool) (v : NodeId) (p : Parts) → parts_shape (greeted epochs risen v p) ≡ parts_shape p
greeted_shape true true v p =
    let q = prio.unheard p.prio v.0 in
    let one : Parts = record p { prio = q } in
    let two : Parts = record one { rel = rel.unheard p.rel v } in
    of_flows Paths two (rel.unheard p.kflow.flows v) (one_rel_peer p.kflow.flows v rel.no_views blank_shape)
    ∙ (of_rel one (rel.unheard p.rel v) (one_rel_peer p.rel v rel.no_views blank_shape) ∙ of_prio p q (one_peer p.prio v.0 rows.unheard (λ x. refl)))
greeted_shape true false v p = refl
greeted_shape false risen v p = refl

either : (t : Bool) (new old : Parts) → parts_shape new ≡ parts_shape old → parts_shape (cond t new old) ≡ parts_shape old
either true new old e = e
either false new old e = refl

marked_shape : (answer : PrioAnswer) (v : NodeId) (number : ℕ) (p : Parts) → parts_shape (heard_where answer v number p) ≡ parts_shape p
marked_shape prios.New v number p = of_prio p (prio.heard p.prio v.0 number) (one_peer p.prio v.0 (λ q. rows.heard q number) (λ q. refl))
marked_shape prios.Seen v number p = of_prio p (prio.heard p.prio v.0 number) (one_peer p.prio v.0 (λ q. rows.heard q number) (λ q. refl))
marked_shape prios.BadEnd v number p = refl
marked_shape prios.Expired v number p = refl
marked_shape prios.BadSig v number p = refl
marked_shape prios.Epoch v number p = refl

piece_shape : (arts : Arts) (at : Arrival) (p : Parts) (piece : Piece) → parts_shape (handle arts at p piece).parts ≡ parts_shape p
piece_shape arts at p (WeightPiece o) =
    either (is_new (items.Weight (weight_answer (is_signed arts at.fixed o) (offer_to at.fixed.me p.weights o.body))))
    (record p { weights = weights.held p.weights o }) p (of_weights p (weights.held p.weights o) (held_shape p.weights o))
piece_shape arts at p (PrioAckPiece number) =
    of_prio p (prio.acked p.prio at.from.0 number) (one_peer p.prio at.from.0 (λ q. rows.acked q number) (acked_shape number))
piece_shape arts at p (PrioPiece number o) =
    let answer = prio_answer (is_signed arts at.fixed o) (is_dated p.lives o.body) (prio.judge_prio p.prio o.body at.now) in
    let admitted = record p { prio = prio.admit_prio p.prio o (Some at.from) } in
    marked_shape answer at.from number (cond (is_new (items.Prio answer)) admitted p)
    ∙ either (is_new (items.Prio answer)) admitted p (of_prio p (prio.admit_prio p.prio o (Some at.from)) (admitted_shape p.prio o (Some at.from)))
piece_shape arts at p (ReportPiece kind flow sboot dboot base have) =
    let r = rel.reported (flows_of kind p) at.from flow base have in
    either (are_held p.lives flow sboot dboot) (with_flows kind r p) p (of_flows kind p r (reported_shape (flows_of kind p) at.from flow base have))
piece_shape arts at p (AckPiece kind flow o) =
    let r = flows_of kind p in
    either (is_new (ack_item kind (ack_answer (is_signed arts at.fixed o) (is_dated p.lives o.body) (rel.judge_ack_of r flow o.body))))
    (with_flows kind (rel.admit_ack r o) p) p (of_flows kind p (rel.admit_ack r o) (acknowledged_shape r o))
piece_shape arts at p (RelPiece kind flow o) =
    let r = flows_of kind p in
    either (is_new (rel_item kind (rel_answer_to arts at p (rel.judge_rel_of r flow o.body) o)))
    (with_flows kind (rel.admit_rel r o) p) p (of_flows kind p (rel.admit_rel r o) (new_rel_shape r o))
piece_shape arts at p (EpochPiece o) =
    either (is_new (items.Epoch (epoch_answer (is_signed arts at.fixed o) (judge_epoch at.fixed.me p.lives o.body)))) (met p o) p (met_shape p o)

pub pieces_shape : (arts : Arts) (at : Arrival) (p : Parts) (pieces : List Piece) → parts_shape (handle_all arts at p pieces).parts ≡ parts_shape p
pieces_shape arts at p [] = refl
pieces_shape arts at p (piece ∷ pieces) = pieces_shape arts at (handle arts at p piece).parts pieces ∙ piece_shape arts at p piece

-- ---- what a version leaves, and a poll, and a message on paths

closed_rows : (r : RelState) (gone : List NodeId) → rel_shape (rel.closed r gone) ≡ rel_shape r
closed_rows r gone =
    ap (λ (fs : List Flow). record { me = r.me; nodes = r.nodes; bound = r.bound; flows = fs; peers = map rel_peer_shape r.peers }) (ends_closed gone r.flows)

pub closed_shape : (p : Parts) (least : List ℕ) (gone : List NodeId) → parts_shape (parts.closed p least gone) ≡ parts_shape p
closed_shape p least gone =
    let one : Parts = record p { weights = weights.replaced p.weights least } in
    let two : Parts = record one { prio = prio.closed p.prio least gone } in
    let three : Parts = record two { rel = rel.closed p.rel gone } in
    of_flows Paths three (rel.closed p.kflow.flows gone) (closed_rows p.kflow.flows gone)
    ∙ (of_rel two (rel.closed p.rel gone) (closed_rows p.rel gone)
    ∙ (of_prio one (prio.closed p.prio least gone) (ap (λ (ps : List PeerShape). record {
      me = p.prio.me;
      nodes = p.prio.nodes;
      inbox = p.prio.inbox.capacity;
      peers = ps;
      windows = length p.prio.windows;
    }) (each_same peer_shape (rows.closed least gone) (λ q. refl) p.prio.peers))
    ∙ of_weights p (weights.replaced p.weights least) refl))

pub served_parts : (n : NodeState) (v : NodeId) (t : Bool) → parts_shape (cond t (polled n.fixed n.parts v) n.parts) ≡ parts_shape n.parts
served_parts n v false = refl
served_parts n v true =
    let w = weights.moved n.parts.weights (place_of n.fixed v) in
    let q = prio.carried n.parts.prio v.0 in
    let one : Parts = record n.parts { weights = w } in
    let two : Parts = record one { prio = q } in
    let r = rel.served n.parts.rel v in
    let three : Parts = record two { rel = r } in
    let f = rel.served n.parts.kflow.flows v in
    let four : Parts = with_flows Paths f three in
    let os = lives.moved n.parts.lives n.parts.origins (place_of n.fixed v) in
    of_origins four os (cycles_length n.parts.origins (place_of n.fixed v) (lives.next_row n.parts.lives n.parts.origins (place_of n.fixed v)))
    ∙ (of_flows Paths three f (served_by n.parts.kflow.flows v (rel.next_place n.parts.kflow.flows v))
    ∙ (of_rel two r (served_by n.parts.rel v (rel.next_place n.parts.rel v))
    ∙ (of_prio one q (one_peer n.parts.prio v.0 rows.carried carried_shape)
    ∙ of_weights n.parts w (moved_shape n.parts.weights (place_of n.fixed v)))))

-- a message that is kept, with its number of paths
pub pushed_shape : (f : KState) (o : Kept) (count : ℕ) → kflow_shape (kflow.pushed f o count) ≡ kflow_shape f
pushed_shape f o count =
    let dst = (flow_said o.body).dst in
    ap₂ (λ (x : RelShape) (us : List NodeId). record { flows = x; edges = f.edges; nodes = us })
    (one_flow f.flows (flow_said o.body) (λ x. pushed x o) (λ x. refl))
    (replace_keyed (λ (row : PathsTo). row.dst) (kflow.is_row_of dst) (record { dst = dst; count = count })
    (λ row is. same_node dst row.dst (grind (arith, nat_tests, is))) f.paths)
