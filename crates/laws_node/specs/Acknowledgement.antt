-- The worked story of a message and its acknowledgement, event by event, with what each answers and causes.
use Rattle.std.specs.Prelude.{ℕ, ◌≡◌, List, [], ◌∷◌, None, Some}
use Rattle.sp_msg.specs.declared.effect.Effect.{Effect}
use Rattle.sp_msg.specs.declared.effect.Effect.TheVariants.{Delivered, Signed}
use Rattle.sp_msg.specs.declared.refused.SendRefused.TheVariants.{Full}
use Rattle.sp_rules.specs.Steps.{Reply, Frame, Arrived, Ticked, Accepted, Refused, Payload}
use Rattle.sp_rules.specs.declared.answers.AckAnswer.TheVariants as acks
use Rattle.sp_rules.specs.declared.answers.Item.TheVariants as items
use Rattle.sp_rules.specs.declared.answers.RelAnswer.TheVariants as rels
use Rattle.sp_rules.specs.declared.node.LinkReply.TheVariants.{Fresh, Learned}
use Rattle.sp_rules.specs.declared.node.TickReply.TheVariants as ticks
use Rattle.laws_node.specs.Story.{Event, Rel, Take, Tick, Poll, Pass, begins, journal, node}

-- the message 68 69 goes from 1 over 2 to 3
abbrev pub events : List Event
events =
    Rel 1 3 (104 ∷ 105 ∷ [])
    ∷ Poll 2 1 ∷ Pass 2 1 ∷ Poll 1 2 ∷ Pass 1 2
    ∷ Poll 3 2 ∷ Pass 3 2 ∷ Take 3 1 ∷ Poll 2 3 ∷ Pass 2 3 ∷ Take 3 1
    -- 3 acknowledges it, back over 2 to 1
    ∷ Tick 3 5 ∷ Poll 3 2 ∷ Pass 3 2 ∷ Poll 2 1 ∷ Pass 2 1
    -- 1 may send two more, which wait for their acknowledgement
    ∷ Rel 1 3 [] ∷ Rel 1 3 [] ∷ Rel 1 3 [] ∷ []

-- what is told of the signature of a message with this number
abbrev pub signed_rel : ℕ → List ℕ → Effect
signed_rel number rest = Signed (2 ∷ 1 ∷ 3 ∷ 0 ∷ 0 ∷ 0 ∷ 0 ∷ 0 ∷ 0 ∷ 0 ∷ number ∷ rest)

-- what each event answers and causes, in order
abbrev pub entries : List (Reply × List Effect)
entries =
    (Accepted 1, signed_rel 1 (0 ∷ 2 ∷ 104 ∷ 105 ∷ []) ∷ [])
    ∷ (Frame [], []) ∷ (Arrived (Learned 1) [], [])
    ∷ (Frame [], []) ∷ (Arrived Fresh (items.Rel rels.New ∷ []), [])
    ∷ (Frame [], []) ∷ (Arrived (Learned 1) [], [])
    ∷ (Payload None, [])
    ∷ (Frame [], []) ∷ (Arrived Fresh (items.Rel rels.New ∷ []), Delivered (node 1) 1 (104 ∷ 105 ∷ []) ∷ [])
    ∷ (Payload (Some (104 ∷ 105 ∷ [])), [])
    ∷ (Ticked ticks.Ticked, Signed (3 ∷ 1 ∷ 3 ∷ 0 ∷ 0 ∷ 0 ∷ 0 ∷ 0 ∷ 0 ∷ 0 ∷ 1 ∷ []) ∷ [])
    ∷ (Frame [], []) ∷ (Arrived Fresh (items.Ack acks.New ∷ []), [])
    ∷ (Frame [], []) ∷ (Arrived Fresh (items.Ack acks.New ∷ []), [])
    ∷ (Accepted 2, signed_rel 2 (0 ∷ 0 ∷ []) ∷ [])
    ∷ (Accepted 3, signed_rel 3 (0 ∷ 0 ∷ []) ∷ [])
    ∷ (Refused (Full 1 3), []) ∷ []

-- the story comes out as it is written here
abbrev pub AcknowledgementIsWorked : Type 0
AcknowledgementIsWorked = journal begins events ≡ entries
