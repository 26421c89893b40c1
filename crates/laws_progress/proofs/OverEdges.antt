-- Over which edges messages come to a node: those of its neighbours, which no piece of a frame changes.
use Rattle.std.proofs.Common.{◌≡◌, List, [], ◌∷◌, refl, ap, ◌∙◌}
use Rattle.sp_base.specs.declared.id.NodeId.{NodeId}
use Rattle.sp_rules.specs.Answers.{ack_answer, is_new, prio_answer, weight_answer, epoch_answer}
use Rattle.sp_rules.specs.Arts.{Arts}
use Rattle.sp_msg.specs.declared.body.Body.{Body}
use Rattle.sp_rules.specs.Handle.{Arrival, handle, handle_all, offer_to, prio_handled, rel_answer_to}
use Rattle.sp_rules.specs.Kflow.{KState, came_over}
use Rattle.sp_rules.specs.Lives.{are_held, is_dated, judge_epoch}
use Rattle.sp_rules.specs.Parts.{Parts, is_signed, with_flows}
use Rattle.sp_rules.specs.Pieces.{Piece, AckPiece, PrioAckPiece, PrioPiece, RelPiece, ReportPiece, WeightPiece, EpochPiece}
use Rattle.sp_rules.specs.Prio.{judge_prio}
use Rattle.sp_rules.specs.Rel.{RelState, admit_ack, admit_rel, judge_ack_of, judge_rel_of, reported}
use Rattle.sp_rules.specs.Weights.{held}
use Rattle.sp_rules.specs.declared.answers.Item.TheVariants as items
use Rattle.sp_rules.specs.declared.answers.PrioAnswer.{PrioAnswer}
use Rattle.sp_rules.specs.declared.answers.PrioAnswer.TheVariants as prios
use Rattle.sp_rules.specs.declared.kflow.FlowKind.{FlowKind}
use Rattle.sp_rules.specs.declared.kflow.FlowKind.TheVariants.{Plain, Paths}
use Rattle.laws_node.proofs.Tables.{cond_either}
use Rattle.sp_base.specs.Rows.{first_where}
use Rattle.sp_rules.specs.Handle.{ack_item, rel_item, met}
use Rattle.sp_rules.specs.Kflow.{goes_over, is_neighbour, no_edge}
use Rattle.sp_rules.specs.Parts.{flows_of}
use Rattle.sp_rules.specs.declared.prio.Neighbour.{Neighbour}

-- ---- over which edges messages come

-- by the edges to neighbours alone
pub over_same : (k l : KState) (v : NodeId) → k.edges ≡ l.edges → came_over k v ≡ came_over l v
over_same k l v same = ap (λ (es : List Neighbour). λ (m : Body). goes_over (first_where (is_neighbour v) (no_edge v) es).edge.0 m) same

abbrev SameEdges : Parts → Parts → Type 0
SameEdges p q = q.kflow.edges ≡ p.kflow.edges

edges_beside : (kind : FlowKind) (r : RelState) (p : Parts) → SameEdges p (with_flows kind r p)
edges_beside Plain r p = refl
edges_beside Paths r p = refl

-- which no piece changes
pub piece_edges : (arts : Arts) (at : Arrival) (p : Parts) (piece : Piece) → SameEdges p (handle arts at p piece).parts
piece_edges arts at p (WeightPiece o) =
    cond_either (SameEdges p) (is_new (items.Weight (weight_answer (is_signed arts at.fixed o) (offer_to at.fixed.me p.weights o.body))))
    (record p { weights = held p.weights o }) p refl refl
piece_edges arts at p (PrioAckPiece number) = refl
piece_edges arts at p (PrioPiece number o) = go (prio_answer (is_signed arts at.fixed o) (is_dated p.lives o.body) (judge_prio p.prio o.body at.now))
  where
    go : (answer : PrioAnswer) → SameEdges p (prio_handled at.from answer number o p).parts
    go prios.New = refl
    go prios.Seen = refl
    go prios.BadEnd = refl
    go prios.Expired = refl
    go prios.BadSig = refl
    go prios.Epoch = refl
piece_edges arts at p (ReportPiece k flow sboot dboot base have) =
    cond_either (SameEdges p) (are_held p.lives flow sboot dboot) (with_flows k (reported (flows_of k p) at.from flow base have) p) p
    (edges_beside k (reported (flows_of k p) at.from flow base have) p) refl
piece_edges arts at p (AckPiece k flow o) =
    cond_either (SameEdges p)
    (is_new (ack_item k (ack_answer (is_signed arts at.fixed o) (is_dated p.lives o.body) (judge_ack_of (flows_of k p) flow o.body))))
    (with_flows k (admit_ack (flows_of k p) o) p) p (edges_beside k (admit_ack (flows_of k p) o) p) refl
piece_edges arts at p (RelPiece k flow o) =
    cond_either (SameEdges p) (is_new (rel_item k (rel_answer_to arts at p (judge_rel_of (flows_of k p) flow o.body) o)))
    (with_flows k (admit_rel (flows_of k p) o) p) p (edges_beside k (admit_rel (flows_of k p) o) p) refl
piece_edges arts at p (EpochPiece o) =
    cond_either (SameEdges p) (is_new (items.Epoch (epoch_answer (is_signed arts at.fixed o) (judge_epoch at.fixed.me p.lives o.body)))) (met p o) p refl refl

-- nor do several
pub all_edges : (arts : Arts) (at : Arrival) (p : Parts) (pieces : List Piece) → SameEdges p (handle_all arts at p pieces).parts
all_edges arts at p [] = refl
all_edges arts at p (piece ∷ pieces) = all_edges arts at (handle arts at p piece).parts pieces ∙ piece_edges arts at p piece

-- so what comes from a neighbour after them comes over the same edge
pub all_over : (arts : Arts) (at : Arrival) (p : Parts) (pieces : List Piece) (v : NodeId)
    → came_over (handle_all arts at p pieces).parts.kflow v ≡ came_over p.kflow v
all_over arts at p pieces v = over_same (handle_all arts at p pieces).parts.kflow p.kflow v (all_edges arts at p pieces)
