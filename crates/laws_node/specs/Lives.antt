-- The life of a node from its start on: its steps, each with what came and what was answered, and what they say of its links, weights and windows.
use Rattle.std.specs.Prelude.{ℕ, ◌≡◌, ◌==◌, ◌&&◌, Bool, not, is_some, List, [], ◌∷◌, ◌++◌, Option, None, Some, if◌then◌else◌}
use Rattle.std.specs.List.{flat_map, list_any}
use Rattle.sp_base.specs.declared.id.NodeId.{NodeId}
use Rattle.sp_msg.specs.declared.body.Body.{Body}
use Rattle.sp_msg.specs.declared.body.Body.TheVariants as bodies
use Rattle.sp_msg.specs.declared.effect.Effect.{Effect}
use Rattle.sp_msg.specs.declared.effect.Effect.TheVariants as effects
use Rattle.sp_msg.specs.declared.kept.Kept.{Kept}
use Rattle.sp_rules.specs.Answers.{is_new}
use Rattle.sp_rules.specs.Arts.{Arts}
use Rattle.sp_rules.specs.Link.{pair_of}
use Rattle.sp_rules.specs.Node.{NodeState}
use Rattle.sp_rules.specs.Steps.{Input, NodeStep, Output, Reply, Datagram, SendPrio, Accepted, Arrived}
use Rattle.sp_rules.specs.declared.answers.Item.{Item}
use Rattle.sp_rules.specs.declared.node.LinkReply.{LinkReply}
use Rattle.sp_rules.specs.declared.node.LinkReply.TheVariants as replies

-- from this state on these came and were answered, one after the other, and led to that state
abbrev pub Life : Arts → NodeState → List (Input × Output) → NodeState → Type 0
Life arts first [] last = last ≡ first
Life arts first (step ∷ steps) last = (next : NodeState) × NodeStep arts first step.0 step.1 next × Life arts next steps last

-- ---- what is said of a link

-- the pair of a frame that was fresh at its link, and (b, 0) where the boot b was learned
abbrev pub pair_told : ℕ × ℕ → LinkReply → List (ℕ × ℕ)
pair_told pair (replies.Learned boot) = (boot, 0) ∷ []
pair_told pair (replies.OtherTopology theirs) = pair ∷ []
pair_told pair (replies.Section refused) = pair ∷ []
pair_told pair replies.Withdrawn = pair ∷ []
pair_told pair replies.Fresh = pair ∷ []
pair_told pair _ = []

-- those of a datagram of this neighbour
abbrev pub pairs_told : Arts → NodeId → Input → Reply → List (ℕ × ℕ)
pairs_told arts v (Datagram u bytes) (Arrived link items) = if u.0 == v.0 then pair_told (pair_of (arts.head bytes)) link else []
pairs_told arts v _ _ = []

-- those of a life
abbrev pub pairs_of_life : Arts → NodeId → List (Input × Output) → List (ℕ × ℕ)
pairs_of_life arts v [] = []
pairs_of_life arts v (step ∷ steps) = pairs_told arts v step.0 step.1.reply ++ pairs_of_life arts v steps

-- ---- what is said of weights

-- all that was caused in a life
abbrev pub effects_of_life : List (Input × Output) → List Effect
effects_of_life [] = []
effects_of_life (step ∷ steps) = step.1.effects ++ effects_of_life steps

-- the weight that an effect says of this end of this edge, or this one
abbrev pub weight_told : (edge end : ℕ) → ℕ → Effect → ℕ
weight_told edge end weight (effects.WeightHeld origin e seq w) = if (e.0 == edge) && (origin.0 == end) then w else weight
weight_told edge end weight _ = weight

-- the weight that the last of these says of it; this weight where none does
abbrev pub last_told : (edge end : ℕ) → ℕ → List Effect → ℕ
last_told edge end weight [] = weight
last_told edge end weight (e ∷ es) = last_told edge end (weight_told edge end weight e) es

-- ---- what is said of windows

-- the number of a priority message of this source, or None where another life of it began
abbrev pub number_of : ℕ → Body → List (Option ℕ)
number_of src (bodies.Prio p) = if p.src.0 == src then Some p.seq ∷ [] else []
number_of src (bodies.Epoch e) = if e.origin.0 == src then None ∷ [] else []
number_of src _ = []

-- it is marked where the message was answered as new
abbrev pub mark_told : ℕ → Kept × Item → List (Option ℕ)
mark_told src answered = if is_new answered.1 then number_of src answered.0.body else []

-- and where a message of this node itself was accepted
abbrev pub own_mark : (me src : ℕ) → Input → Reply → List (Option ℕ)
own_mark me src (SendPrio m) (Accepted number) = if me == src then Some number ∷ [] else []
own_mark me src _ _ = []

-- the numbers of a source that were marked in a step of this node, and its lives that began
abbrev pub marks_told : (me src : ℕ) → Input → Output → List (Option ℕ)
marks_told me src input output = flat_map (mark_told src) output.answered ++ own_mark me src input output.reply

-- those of a life
abbrev pub marks_of_life : (me src : ℕ) → List (Input × Output) → List (Option ℕ)
marks_of_life me src [] = []
marks_of_life me src (step ∷ steps) = marks_told me src step.0 step.1 ++ marks_of_life me src steps

-- among these another life of the source began
abbrev pub begins_anew : List (Option ℕ) → Bool
begins_anew marks = list_any (λ mark. not (is_some mark)) marks

-- the numbers that were marked since its last life began
abbrev pub marked_since : List (Option ℕ) → List ℕ
marked_since [] = []
marked_since (None ∷ marks) = marked_since marks
marked_since (Some number ∷ marks) = if begins_anew marks then marked_since marks else number ∷ marked_since marks
