-- What a node does with the pieces of a fresh frame, one after another. An object changes what the node keeps exactly where it is new: where
-- the rules of its part take it, and its signature is right.
use Rattle.std.specs.Prelude.{ℕ, ◌==◌, ◌&&◌, nat_lt, Bool, Some, List, [], ◌∷◌, ◌++◌, if◌then◌else◌}
use Rattle.sp_base.specs.declared.id.Flow.{Flow}
use Rattle.sp_base.specs.declared.id.NodeId.{NodeId}
use Rattle.sp_msg.specs.declared.body.Body.{Body}
use Rattle.sp_msg.specs.declared.body.Body.TheVariants as bodies
use Rattle.sp_msg.specs.declared.effect.Effect.{Effect}
use Rattle.sp_msg.specs.declared.effect.Effect.TheVariants.{WeightHeld}
use Rattle.sp_msg.specs.declared.kept.Kept.{Kept}
use Rattle.sp_rules.specs.Answers.{ack_answer, epoch_answer, is_new, prio_answer, rel_answer, weight_answer}
use Rattle.sp_rules.specs.Arts.{Arts}
use Rattle.sp_rules.specs.Kflow.{came_over}
use Rattle.sp_rules.specs.Kflow as kflow
use Rattle.sp_rules.specs.Lives as lives
use Rattle.sp_rules.specs.Lives.{are_held, is_dated, judge_epoch, origin_said}
use Rattle.sp_rules.specs.Parts.{Fixed, Parts, flows_of, is_signed, with_flows}
use Rattle.sp_rules.specs.Pieces.{Piece, WeightPiece, PrioAckPiece, PrioPiece, ReportPiece, AckPiece, RelPiece, EpochPiece}
use Rattle.sp_rules.specs.Prio.{acked, acked_effects, admit_prio, heard, judge_prio, prio_effects, renewed}
use Rattle.sp_rules.specs.Rel.{admit_ack, admit_rel, judge_ack_of, judge_rel_of, rel_effects, reported, restart_effects, restarted}
use Rattle.sp_rules.specs.Weights.{WeightState, held, offer}
use Rattle.sp_rules.specs.declared.answers.AckAnswer.{AckAnswer}
use Rattle.sp_rules.specs.declared.answers.EpochAnswer.{EpochAnswer}
use Rattle.sp_rules.specs.declared.answers.Item.{Item}
use Rattle.sp_rules.specs.declared.answers.Item.TheVariants as items
use Rattle.sp_rules.specs.declared.answers.PrioAnswer.{PrioAnswer}
use Rattle.sp_rules.specs.declared.answers.PrioAnswer.TheVariants as prios
use Rattle.sp_rules.specs.declared.answers.RelAnswer.{RelAnswer}
use Rattle.sp_rules.specs.declared.rel.RelJudged.{RelJudged}
use Rattle.sp_rules.specs.declared.answers.WeightAnswer.{WeightAnswer}
use Rattle.sp_rules.specs.declared.kflow.FlowKind.{FlowKind}
use Rattle.sp_rules.specs.declared.kflow.FlowKind.TheVariants as kinds
use Rattle.sp_rules.specs.declared.weights.Offer.{Offer}
use Rattle.sp_rules.specs.declared.weights.Offer.TheVariants as offers
use Rattle.sp_rules.specs.declared.weights.TheConstants.{MAX_OWN_HEARD}

-- where pieces come to, when, and from which neighbour
pub record Arrival : Type 0 where
  pub fixed : Fixed
  pub now : ℕ
  pub from : NodeId

-- what is kept after pieces, each object with its answer, and what was caused, in order
pub record Handled : Type 0 where
  pub parts : Parts
  pub answered : List (Kept × Item)
  pub effects : List Effect

-- a piece without an object
abbrev pub quietly : Parts → List Effect → Handled
quietly parts effects = record { parts = parts; answered = []; effects = effects }

-- an object changes the parts from old to new, and causes effects, exactly where its answer is that it is new
abbrev pub where_new : Item → Kept → Parts → Parts → List Effect → Handled
where_new answer o old new effects = record {
  parts = if is_new answer then new else old;
  answered = (o, answer) ∷ [];
  effects = if is_new answer then effects else [];
}

-- ---- updates of weights

-- the answer of the weights to a message. Only an update of a weight is one
abbrev pub offer_of : WeightState → Body → Offer
offer_of s (bodies.Weight u) = offer s u
offer_of s _ = offers.Foreign

-- an own update under a number that this node never gave is foreign, so that the own next number keeps its range
abbrev pub offer_to : NodeId → WeightState → Body → Offer
offer_to me s (bodies.Weight u) = if (u.origin.0 == me.0) && nat_lt MAX_OWN_HEARD u.seq then offers.Foreign else offer s u
offer_to me s _ = offers.Foreign

-- what is told of an update that is taken: the weight that is held from now on
abbrev pub weight_effects : Body → List Effect
weight_effects (bodies.Weight u) = WeightHeld u.origin u.edge u.seq u.weight ∷ []
weight_effects _ = []

-- an update of a weight: where it is new it is held
abbrev pub weight_handled : WeightAnswer → Kept → Parts → Handled
weight_handled answer o p = where_new (items.Weight answer) o p (record p { weights = held p.weights o }) (weight_effects o.body)

-- ---- priority messages

-- the link number of a message counts as heard where the message is new, or was seen
abbrev pub heard_where : PrioAnswer → NodeId → ℕ → Parts → Parts
heard_where prios.New v number p = record p { prio = heard p.prio v.0 number }
heard_where prios.Seen v number p = record p { prio = heard p.prio v.0 number }
heard_where _ v number p = p

-- a priority message: where it is new it is admitted, and where it was fit to be new its number counts as heard
abbrev pub prio_handled : NodeId → PrioAnswer → ℕ → Kept → Parts → Handled
prio_handled v answer number o p =
    let taken = where_new (items.Prio answer) o p (record p { prio = admit_prio p.prio o (Some v) }) (prio_effects p.prio o (Some v)) in
    record taken { parts = heard_where answer v number taken.parts }

-- ---- acknowledgements and reliable messages, of flows of either kind

-- the answer to an acknowledgement, as an item
abbrev pub ack_item : FlowKind → AckAnswer → Item
ack_item kinds.Plain answer = items.Ack answer
ack_item kinds.Paths answer = items.Kack answer

-- the answer to a message, as an item
abbrev pub rel_item : FlowKind → RelAnswer → Item
rel_item kinds.Plain answer = items.Rel answer
rel_item kinds.Paths answer = items.Krel answer

-- an acknowledgement: where it is new its flow takes it
abbrev pub ack_handled : FlowKind → AckAnswer → Kept → Parts → Handled
ack_handled kind answer o p = where_new (ack_item kind answer) o p (with_flows kind (admit_ack (flows_of kind p) o) p) []

-- a reliable message: where it is new its flow takes it
abbrev pub rel_handled : FlowKind → RelAnswer → Kept → Parts → Handled
rel_handled kind answer o p =
    where_new (rel_item kind answer) o p (with_flows kind (admit_rel (flows_of kind p) o) p) (rel_effects (flows_of kind p) o)

-- a report that names other boots than those that are held is dropped
abbrev pub reported_where : FlowKind → Bool → NodeId → Flow → (base have : ℕ) → Parts → Parts
reported_where kind dated v flow base have p = if dated then with_flows kind (reported (flows_of kind p) v flow base have) p else p

-- ---- what a node says of its own start

-- another life of the object's origin began: its boot is held, its flows are as before their first message, and no priority message of it was seen
abbrev pub met : Parts → Kept → Parts
met p o = record p {
  prio = renewed p.prio (origin_said o.body).0;
  rel = restarted p.rel (origin_said o.body);
  kflow = kflow.with_flows p.kflow (restarted p.kflow.flows (origin_said o.body));
  lives = lives.held p.lives o;
}

-- what is told of the flows that end then: of plain ones first
abbrev pub met_effects : Parts → NodeId → List Effect
met_effects p v = restart_effects kinds.Plain p.rel v ++ restart_effects kinds.Paths p.kflow.flows v

-- an Epoch object: where it is new the node meets another start, and flows with that end begin anew
abbrev pub epoch_handled : EpochAnswer → Kept → Parts → Handled
epoch_handled answer o p = where_new (items.Epoch answer) o p (met p o) (met_effects p (origin_said o.body))

-- ---- all pieces

-- the answer to a message that was judged so
abbrev pub rel_answer_to : Arts → Arrival → Parts → RelJudged → Kept → RelAnswer
rel_answer_to arts at p judged o = rel_answer (is_signed arts at.fixed o) (is_dated p.lives o.body) (came_over p.kflow at.from o.body) judged

-- what the node does with one piece
abbrev pub handle : Arts → Arrival → Parts → Piece → Handled
handle arts at p (WeightPiece o) = weight_handled (weight_answer (is_signed arts at.fixed o) (offer_to at.fixed.me p.weights o.body)) o p
handle arts at p (PrioAckPiece number) = quietly (record p { prio = acked p.prio at.from.0 number }) (acked_effects p.prio at.from.0 number)
handle arts at p (PrioPiece number o) =
    prio_handled at.from (prio_answer (is_signed arts at.fixed o) (is_dated p.lives o.body) (judge_prio p.prio o.body at.now)) number o p
handle arts at p (ReportPiece kind flow sboot dboot base have) =
    quietly (reported_where kind (are_held p.lives flow sboot dboot) at.from flow base have p) []
handle arts at p (AckPiece kind flow o) =
    ack_handled kind (ack_answer (is_signed arts at.fixed o) (is_dated p.lives o.body) (judge_ack_of (flows_of kind p) flow o.body)) o p
handle arts at p (RelPiece kind flow o) =
    rel_handled kind (rel_answer_to arts at p (judge_rel_of (flows_of kind p) flow o.body) o) o p
handle arts at p (EpochPiece o) = epoch_handled (epoch_answer (is_signed arts at.fixed o) (judge_epoch at.fixed.me p.lives o.body)) o p

-- one after another: each piece meets what those before it left
abbrev pub handle_all : Arts → Arrival → Parts → List Piece → Handled
handle_all arts at p [] = quietly p []
handle_all arts at p (piece ∷ pieces) =
    let first = handle arts at p piece in
    let others = handle_all arts at first.parts pieces in
    record { parts = others.parts; answered = first.answered ++ others.answered; effects = first.effects ++ others.effects }
