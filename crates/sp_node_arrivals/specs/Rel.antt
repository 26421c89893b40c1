-- The reliable messages of a slot: what is ready of each before anything is taken, and how many signatures may be checked for them. One that names other boots
-- than those that are held, or that came over an edge that isn't in its mask, is never new, so none is checked for it.
use Rattle.std.specs.Prelude.{ℕ, ◌≡◌, ◌+◌, ◌&&◌, ◌||◌, Bool, true, false, List, [], ◌∷◌, Option, IfSome, is_some}
use Rattle.sp_base.specs.declared.id.Flow.{Flow}
use Rattle.sp_msg.specs.Bodies.{payload_of}
use Rattle.sp_msg.specs.declared.body.Body.{Body}
use Rattle.sp_msg.specs.declared.kept.Kept.{Kept}
use Rattle.sp_rel.specs.Seated.{IsSeated}
use Rattle.sp_rel.specs.Seats.{SeatState}
use Rattle.sp_rules.specs.Handle as rules
use Rattle.sp_rules.specs.Kflow.{came_over}
use Rattle.sp_rules.specs.Lives.{is_dated}
use Rattle.sp_rules.specs.Parts.{Fixed, Parts}
use Rattle.sp_rules.specs.Rel.{RelState, judge_rel_of}
use Rattle.sp_rules.specs.declared.lives.Life.{Life}
use Rattle.sp_rules.specs.declared.rel.RelJudged.{RelJudged}
use Rattle.sp_rules.specs.declared.rel.RelJudged.TheVariants as rels
use Rattle.sp_node_arrivals.specs.Signed.{is_right, one_if}

-- what messages of a slot are judged by beside their flows: the node, the boots that it holds, and whether a message came over an edge of its mask
pub record Ground : Type 0 where
  pub fixed : Fixed
  pub lives : List Life
  pub over : Body → Bool

-- that of a node where a frame arrives
abbrev pub ground_of : rules.Arrival → Parts → Ground
ground_of at p = record { fixed = at.fixed; lives = p.lives; over = came_over p.kflow at.from }

-- whether a message that is judged so may be new when its turn comes, by whether something new comes before it in its slot. A new acknowledgement
-- makes room, and may be of messages that never came; a new message is the one that a later message waits for. Neither changes an end, and what is
-- old or ahead stays so
abbrev pub may_be_new : Bool → RelJudged → Bool
may_be_new moved rels.BadEnd = false
may_be_new moved rels.Old = false
may_be_new moved rels.Ahead = false
may_be_new moved rels.Gap = moved
may_be_new moved rels.Full = moved
may_be_new moved rels.InboxFull = moved
may_be_new moved rels.New = true

-- the same of a message: by the boots that it names, which are those that are held all through a frame, by its edge, and by its judgement
abbrev pub may_be_new_rel : Bool → Ground → RelState → Flow → Kept → Bool
may_be_new_rel moved g r flow o = is_dated g.lives o.body && (g.over o.body && may_be_new moved (judge_rel_of r flow o.body))

-- a reliable message with the room that it takes if it is right and new
pub record IsRelReady (moved : Bool) (g : Ground) (r : RelState) (flow : Flow) (o : Kept) (ready : Option (Kept × List ℕ × SeatState)) : Type 0 where
  pub copy : IfSome ready (λ m. m.0 ≡ o)
  pub payload : IfSome ready (λ m. m.1 ≡ payload_of o.body)
  pub seat : IfSome ready (λ m. IsSeated r flow m.2)
  pub right : may_be_new_rel moved g r flow o ≡ true → is_some ready ≡ is_right g.fixed o

-- of messages one after another: each may be new where something before it is ready
abbrev pub AreRelsReady : Bool → Ground → RelState → Flow → List Kept → List (Option (Kept × List ℕ × SeatState)) → Type 0
AreRelsReady moved g r flow [] readies = readies ≡ []
AreRelsReady moved g r flow (o ∷ os) [] = ⊥
AreRelsReady moved g r flow (o ∷ os) (ready ∷ readies) = IsRelReady moved g r flow o ready × AreRelsReady (moved || is_some ready) g r flow os readies

-- a message that was made ready before an object of its slot is ready after it, whether that object was new or not
abbrev pub StaysReady : Bool → Ground → Flow → RelState → RelState → Type 0
StaysReady new g flow old left =
    (moved : Bool) (o : Kept) (ready : Option (Kept × List ℕ × SeatState)) → IsRelReady (new || moved) g old flow o ready
    → IsRelReady moved g left flow o ready

-- it is new now, or may be new after something new before it
abbrev pub rel_checks : Bool → Ground → RelState → Flow → Kept → ℕ
rel_checks moved g r flow o = one_if (may_be_new_rel moved g r flow o)

-- it may be new, and its signature is right, so what comes after it in its slot may be
abbrev pub is_followed : Bool → Ground → RelState → Flow → Kept → Bool
is_followed moved g r flow o = may_be_new_rel moved g r flow o && is_right g.fixed o

-- how many signatures of a slot's messages may be checked
abbrev pub rels_checks : Bool → Ground → RelState → Flow → List Kept → ℕ
rels_checks moved g r flow [] = 0
rels_checks moved g r flow (o ∷ os) = rel_checks moved g r flow o + rels_checks (moved || is_followed moved g r flow o) g r flow os
