-- The answer to an object: what the rules of its part say, and where they would take it, what its signature says.
use Rattle.std.specs.Prelude.{Bool, true, false, not, if◌then◌else◌}
use Rattle.sp_rules.specs.declared.answers.AckAnswer.{AckAnswer}
use Rattle.sp_rules.specs.declared.answers.AckAnswer.TheVariants as ack
use Rattle.sp_rules.specs.declared.answers.EpochAnswer.{EpochAnswer}
use Rattle.sp_rules.specs.declared.answers.EpochAnswer.TheVariants as epoch
use Rattle.sp_rules.specs.declared.answers.Item.{Item}
use Rattle.sp_rules.specs.declared.answers.Item.TheVariants as items
use Rattle.sp_rules.specs.declared.answers.PrioAnswer.{PrioAnswer}
use Rattle.sp_rules.specs.declared.answers.PrioAnswer.TheVariants as prio
use Rattle.sp_rules.specs.declared.answers.RelAnswer.{RelAnswer}
use Rattle.sp_rules.specs.declared.answers.RelAnswer.TheVariants as rel
use Rattle.sp_rules.specs.declared.answers.WeightAnswer.{WeightAnswer}
use Rattle.sp_rules.specs.declared.answers.WeightAnswer.TheVariants as weight
use Rattle.sp_rules.specs.declared.lives.EpochJudged.{EpochJudged}
use Rattle.sp_rules.specs.declared.lives.EpochJudged.TheVariants as lives
use Rattle.sp_rules.specs.declared.prio.PrioJudged.{PrioJudged}
use Rattle.sp_rules.specs.declared.prio.PrioJudged.TheVariants as prios
use Rattle.sp_rules.specs.declared.rel.AckJudged.{AckJudged}
use Rattle.sp_rules.specs.declared.rel.AckJudged.TheVariants as acks
use Rattle.sp_rules.specs.declared.rel.RelJudged.{RelJudged}
use Rattle.sp_rules.specs.declared.rel.RelJudged.TheVariants as rels
use Rattle.sp_rules.specs.declared.weights.Offer.{Offer}
use Rattle.sp_rules.specs.declared.weights.Offer.TheVariants as offers

-- each with whether the signature is right, and of what names boots, whether they are those that are held
abbrev pub weight_answer : Bool → Offer → WeightAnswer
weight_answer right offers.Foreign = weight.Foreign
weight_answer right (offers.Low least) = weight.Low least
weight_answer right (offers.Old held) = weight.Old held
weight_answer right offers.New = if right then weight.New else weight.BadSig

-- a priority message is answered by its end first, then by its date, and by its signature where it could be new
abbrev pub prio_answer : (right dated : Bool) → PrioJudged → PrioAnswer
prio_answer right dated prios.BadEnd = prio.BadEnd
prio_answer right dated prios.Expired = if dated then prio.Expired else prio.Epoch
prio_answer right dated prios.Seen = if dated then prio.Seen else prio.Epoch
prio_answer right dated prios.New = if not dated then prio.Epoch else if right then prio.New else prio.BadSig

-- an acknowledgement is answered by its end first, then by its date, and by its signature where it could be new
abbrev pub ack_answer : (right dated : Bool) → AckJudged → AckAnswer
ack_answer right dated acks.BadEnd = ack.BadEnd
ack_answer right dated acks.Old = if dated then ack.Old else ack.Epoch
ack_answer right dated acks.Ahead = if dated then ack.Ahead else ack.Epoch
ack_answer right dated acks.New = if not dated then ack.Epoch else if right then ack.New else ack.BadSig

-- what a reliable message is judged, with its signature where it could be new
abbrev pub rel_said : (right : Bool) → RelJudged → RelAnswer
rel_said right rels.BadEnd = rel.BadEnd
rel_said right rels.Old = rel.Old
rel_said right rels.Ahead = rel.Ahead
rel_said right rels.Gap = rel.Gap
rel_said right rels.Full = rel.Full
rel_said right rels.InboxFull = rel.InboxFull
rel_said right rels.New = if right then rel.New else rel.BadSig

-- a reliable message is answered by its end first, then by its date, then by the edge that it came over, and by its signature where it could be new
abbrev pub rel_answer : (right dated over : Bool) → RelJudged → RelAnswer
rel_answer right dated over rels.BadEnd = rel.BadEnd
rel_answer right dated over judged = if not dated then rel.Epoch else if not over then rel.OffMask else rel_said right judged

-- an Epoch object is answered by its origin first, then by its boot, and by its signature where it could be new
abbrev pub epoch_answer : Bool → EpochJudged → EpochAnswer
epoch_answer right lives.BadEnd = epoch.BadEnd
epoch_answer right lives.Old = epoch.Old
epoch_answer right lives.New = if right then epoch.New else epoch.BadSig

-- whether an object was taken
abbrev pub is_new : Item → Bool
is_new (items.Weight weight.New) = true
is_new (items.Prio prio.New) = true
is_new (items.Ack ack.New) = true
is_new (items.Rel rel.New) = true
is_new (items.Kack ack.New) = true
is_new (items.Krel rel.New) = true
is_new (items.Epoch epoch.New) = true
is_new answer = false
